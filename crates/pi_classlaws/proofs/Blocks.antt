-- Lists that are made of blocks of one length, and lists by number.
use Rattle.std.proofs.Common.{◌≡◌, ℕ, zero, suc, ◌+◌, ◌*◌, ◌%◌, ◌/◌, ◌<◌, List, [], ◌∷◌, ◌++◌, length, get_or, slice_index, take, drop, refl, sym, ap, ◌∙◌, subst, arith, add-zero, zero-add}
use Rattle.std.specs.List.{flat_map}
use Rattle.std.proofs.Math.Nat.{mul-suc, mul-zero}
use Rattle.std.proofs.Math.Seq.{take-append_seam, drop-append_seam}
use Rattle.std.proofs.lemmas.List.{get_or-append-add, get_or_append_left}
use Rattle.pi_insn.specs.Numbers.{word}
use Rattle.pi_insn.proofs.Again.{word_again}
use Rattle.pi_format.specs.Rules.Lowest.{tabulation}
use Rattle.pi_parts.proofs.Stands.{length_table}
use Rattle.pi_classtables.specs.Layout.{word_units}

-- what a function gives for the numbers of a list's elements is the list, where it gives these
listed_from : {A : Type 0} (f : ℕ → A) (i : ℕ) (xs : List A) → ((k : ℕ) (d : A) → k < length xs → f (i + k) ≡ get_or xs k d)
    → tabulation f i (length xs) ≡ xs
listed_from f i [] each = refl
listed_from f i (x ∷ xs) each =
    let here : f i ≡ x = ap f (sym (add-zero i)) ∙ each 0 x (omega arith) in
    let place = λ (k : ℕ). let p : i + 1 + k ≡ i + suc k = omega arith in p in
    rw (here, listed_from f (i + 1) xs (λ k d lt. ap f (place k) ∙ each (suc k) d (omega arith))) refl

pub listed_again : {A : Type 0} (f : ℕ → A) (n : ℕ) (xs : List A) → n ≡ length xs → ((k : ℕ) (d : A) → k < length xs → f k ≡ get_or xs k d)
    → tabulation f 0 n ≡ xs
listed_again f n xs e each = rw e (listed_from f 0 xs (λ k d lt. ap f (zero-add k) ∙ each k d lt))

-- the front of a list, and what is behind it
pub front_again : (xs ys : List ℕ) (n : ℕ) → length xs ≡ n → take n (xs ++ ys) ≡ xs
front_again xs ys n e = subst (λ (m : ℕ). take m (xs ++ ys) ≡ xs) e (take-append_seam xs ys)

pub behind_again : (xs ys : List ℕ) (n : ℕ) → length xs ≡ n → drop n (xs ++ ys) ≡ ys
behind_again xs ys n e = subst (λ (m : ℕ). drop m (xs ++ ys) ≡ ys) e (drop-append_seam xs ys)

module _ {X : Type 0} (f : X → List ℕ) (n : ℕ) (whole : (x : X) → length (f x) ≡ n) where
  -- the unit at a place of the block of an element
  pub block_at : (xs : List X) (k j : ℕ) (d : X) → k < length xs → j < n
      → slice_index (flat_map f xs) (n * k + j) ≡ slice_index (f (get_or xs k d)) j
  block_at [] k j d lt below = absurd (omega arith)
  block_at (x ∷ xs) zero j d lt below =
      let place : n * zero + j ≡ j = omega (arith, mul-zero n) in
      rw place (get_or_append_left (f x) (flat_map f xs) 0 j (omega (arith, whole x)))
  block_at (x ∷ xs) (suc k) j d lt below =
      let place : n * suc k + j ≡ length (f x) + (n * k + j) = omega (arith, mul-suc n k, whole x) in
      rw (place, get_or-append-add (f x) (flat_map f xs) (n * k + j) 0) (block_at xs k j d (omega arith) below)

module _ {X : Type 0} (g : X → ℕ) where
  -- the units of a number for each element
  abbrev pub words : List X → List ℕ
  words xs = flat_map (λ (x : X). word_units (g x)) xs

  pub length-words : (xs : List X) → length (words xs) ≡ 2 * length xs
  length-words xs = length_table (λ (x : X). word_units (g x)) 2 (λ x. refl) xs

  pub word_in : (xs : List X) (k : ℕ) (d : X) → k < length xs → word (words xs) (2 * k) ≡ g (get_or xs k d)
  word_in xs k d lt =
      let start : 2 * k ≡ 2 * k + 0 = omega arith in
      let low : slice_index (words xs) (2 * k) ≡ g (get_or xs k d) % 65536 =
      ap (slice_index (words xs)) start ∙ block_at (λ (x : X). word_units (g x)) 2 (λ x. refl) xs k 0 d lt (omega arith) in
      let high : slice_index (words xs) (2 * k + 1) ≡ g (get_or xs k d) / 65536 =
      block_at (λ (x : X). word_units (g x)) 2 (λ x. refl) xs k 1 d lt (omega arith) in
      rw (low, high) (word_again (g (get_or xs k d)))
