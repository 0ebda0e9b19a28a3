-- Parts that stand at offsets of a file, and what is read there.
use Rattle.std.proofs.Common.{◌≡◌, ℕ, zero, suc, ◌+◌, ◌-◌, ◌*◌, ◌%◌, ◌^◌, ◌<◌, ◌≤◌, List, [], ◌∷◌, ◌++◌, length, drop, Some, refl, sym, ap, subst, ◌∙◌, append_assoc, length-append, arith}
use Rattle.std.specs.Prelude.{All, ◌==◌, if◌then◌else◌}
use Rattle.std.specs.List.{flat_map, slice_get}
use Rattle.std.proofs.lemmas.List.{drop-drop, drop_at, drop_all, append-nil, length-replicate, length-drop}
use Rattle.std.proofs.lemmas.List.Elements.{All-head, All-tail}
use Rattle.std.proofs.lemmas.Bool.Decides.{nat_tests}
use Rattle.byteorder.specs.Endian.{little_bytes}
use Rattle.byteorder.specs.Numbers.{little_number-reads_back}
use Rattle.pi_bytes.specs.Numbers.{word_at, half_at, halves_at}
use Rattle.pi_parts.specs.Parts.{halves, words, padding, zeros, offsets, aligned, aligned_offsets}

-- a part stands at an offset
abbrev pub Stands : List ℕ → ℕ → List ℕ → Type 0
Stands file at part = drop at file ≡ part ++ drop (at + length part) file

pub stands_whole : (file : List ℕ) → Stands file 0 file
stands_whole file = sym (ap (λ z. file ++ z) (drop_all (0 + length file) file (omega arith)) ∙ append-nil file)

cut : (l a m : List ℕ) → l ≡ a ++ m → drop (length a) l ≡ m
cut l a m h = ap (λ z. drop (length a) z) h ∙ drop_at a m (length a) refl

-- the parts of a part
pub stands_left : (file a b : List ℕ) (at : ℕ) → Stands file at (a ++ b) → Stands file at a
stands_left file a b at h =
    let r = drop (at + length (a ++ b)) file in
    let one : drop at file ≡ a ++ (b ++ r) = h ∙ append_assoc a b r in
    let two : drop (at + length a) file ≡ b ++ r = sym (drop-drop (length a) at file) ∙ cut (drop at file) a (b ++ r) one in
    one ∙ ap (λ z. a ++ z) (sym two)

pub stands_right : (file a b : List ℕ) (at next : ℕ) → next ≡ at + length a → Stands file at (a ++ b) → Stands file next b
stands_right file a b at next e h =
    let r = drop (at + length (a ++ b)) file in
    let one : drop at file ≡ a ++ (b ++ r) = h ∙ append_assoc a b r in
    let two : drop (at + length a) file ≡ b ++ r = sym (drop-drop (length a) at file) ∙ cut (drop at file) a (b ++ r) one in
    let len : length (a ++ b) ≡ length a + length b = length-append a b in
    let three : at + length (a ++ b) ≡ next + length b = omega (arith, len, e) in
    ap (λ k. drop k file) e ∙ two ∙ ap (λ k. b ++ drop k file) three

pub stands_within : (file part : List ℕ) (at : ℕ) → 0 < length part → Stands file at part → at + length part ≤ length file
stands_within file part at some h =
    let here : length (drop at file) ≡ length file - at = length-drop at file in
    let parts : length (drop at file) ≡ length part + length (drop (at + length part) file) =
    ap length h ∙ length-append part (drop (at + length part) file) in
    omega (arith, here, parts, some)

-- numbers
pub word_stands : (file : List ℕ) (at x : ℕ) → Stands file at (little_bytes 4 x) → x < 2 ^ 32 → word_at file at ≡ x
word_stands file at x h lt = rw h (little_number-reads_back 4 x (drop (at + 4) file) lt)

pub half_stands : (file : List ℕ) (at x : ℕ) → Stands file at (little_bytes 2 x) → x < 2 ^ 16 → half_at file at ≡ x
half_stands file at x h lt = rw h (little_number-reads_back 2 x (drop (at + 2) file) lt)

-- entry i of a table of entries of one width
pub nth_stands : {X : Type 0} (file : List ℕ) (f : X → List ℕ) (w : ℕ) → ((x : X) → length (f x) ≡ w) → (xs : List X) (at i : ℕ) (x : X)
    → Stands file at (flat_map f xs) → slice_get xs i ≡ Some x → Stands file (at + w * i) (f x)
nth_stands file f w even [] at i x h g = absurd cc
nth_stands file f w even (y ∷ xs) at zero x h g =
    let same : y ≡ x = grind (arith, g) in
    let here : Stands file at (f y) = stands_left file (f y) (flat_map f xs) at h in
    let z : at + w * zero ≡ at = grind arith in
    rw (z, ← same) here
nth_stands file f w even (y ∷ xs) at (suc i) x h g =
    let next : Stands file (at + w) (flat_map f xs) = stands_right file (f y) (flat_map f xs) at (at + w) (ap (λ k. at + k) (sym (even y))) h in
    let e : at + w * suc i ≡ (at + w) + w * i = grind arith in
    rw e (nth_stands file f w even xs (at + w) i x next g)

pub length_table : {X : Type 0} (f : X → List ℕ) (w : ℕ) → ((x : X) → length (f x) ≡ w) → (xs : List X) → length (flat_map f xs) ≡ w * length xs
length_table f w even [] = grind arith
length_table f w even (x ∷ xs) =
    let one = length-append (f x) (flat_map f xs) in
    let two = length_table f w even xs in
    let three = even x in
    grind (arith, one, two, three)

pub length_words : (xs : List ℕ) → length (words xs) ≡ 4 * length xs
length_words xs = length_table (little_bytes 4) 4 (λ x. refl) xs

pub length_halves : (xs : List ℕ) → length (halves xs) ≡ 2 * length xs
length_halves xs = length_table (little_bytes 2) 2 (λ x. refl) xs

pub length_zeros : (n : ℕ) → length (zeros n) ≡ n
length_zeros n = length-replicate n 0

pub words_read : (file xs : List ℕ) (at i x : ℕ) → Stands file at (words xs) → slice_get xs i ≡ Some x → x < 2 ^ 32 → word_at file (at + 4 * i) ≡ x
words_read file xs at i x h g lt = word_stands file (at + 4 * i) x (nth_stands file (little_bytes 4) 4 (λ y. refl) xs at i x h g) lt

pub halves_read : (file xs : List ℕ) (at : ℕ) → Stands file at (halves xs) → All (λ x. x < 2 ^ 16) xs → halves_at file at (length xs) ≡ xs
halves_read file [] at h all = refl
halves_read file (x ∷ xs) at h all =
    let here : half_at file at ≡ x =
    half_stands file at x (stands_left file (little_bytes 2 x) (halves xs) at h) (All-head (λ x. x < 2 ^ 16) x xs all) in
    let next : Stands file (at + 2) (halves xs) = stands_right file (little_bytes 2 x) (halves xs) at (at + 2) refl h in
    rw (here, halves_read file xs (at + 2) next (All-tail (λ x. x < 2 ^ 16) x xs all)) refl

-- things one behind the other
pub length_offsets : {X : Type 0} (f : X → List ℕ) (at : ℕ) (xs : List X) → length (offsets f at xs) ≡ length xs
length_offsets f at [] = refl
length_offsets f at (x ∷ xs) = ap suc (length_offsets f (at + length (f x)) xs)

pub length_aligned_offsets : {X : Type 0} (f : X → List ℕ) (at : ℕ) (xs : List X) → length (aligned_offsets f at xs) ≡ length xs
length_aligned_offsets f at [] = refl
length_aligned_offsets f at (x ∷ xs) = ap suc (length_aligned_offsets f (at + padding at + length (f x)) xs)

-- thing i has its offset: 0 where it has no bytes, else the place where it stands
pub record Found {X : Type 0} (file : List ℕ) (f : X → List ℕ) (at i : ℕ) (x : X) (xs : List X) : Type 0 where
  pub offset : ℕ
  pub is : slice_get (offsets f at xs) i ≡ Some offset
  pub none : length (f x) ≡ 0 → offset ≡ 0
  pub there : 0 < length (f x) → Stands file offset (f x)
  pub behind : 0 < length (f x) → at ≤ offset
  pub within : 0 < length (f x) → offset + length (f x) ≤ at + length (flat_map f xs)

abbrev place_of : ℕ → ℕ → ℕ
place_of n at = if n == 0 then 0 else at

no_place : (n at : ℕ) → n ≡ 0 → place_of n at ≡ 0
no_place n at e = grind (arith, nat_tests)

some_place : (n at : ℕ) → 0 < n → place_of n at ≡ at
some_place n at lt = grind (arith, nat_tests)

pub found : {X : Type 0} (file : List ℕ) (f : X → List ℕ) (xs : List X) (at i : ℕ) (x : X) → Stands file at (flat_map f xs) → slice_get xs i ≡ Some x → Found file f at i x xs
found file f [] at i x h g = absurd cc
found {X = X} file f (y ∷ xs) at zero x h g =
    let same : y ≡ x = grind (arith, g) in
    let len : length (f y ++ flat_map f xs) ≡ length (f y) + length (flat_map f xs) = length-append (f y) (flat_map f xs) in
    let here : Stands file at (f y) = stands_left file (f y) (flat_map f xs) at h in
    let made : Found file f at zero y (y ∷ xs) = record {
      offset = place_of (length (f y)) at;
      is = refl;
      none = no_place (length (f y)) at;
      there = λ lt. subst (λ (k : ℕ). Stands file k (f y)) (sym (some_place (length (f y)) at lt)) here;
      behind = λ lt. (let e = some_place (length (f y)) at lt in omega (arith, e));
      within = λ lt. (let e = some_place (length (f y)) at lt in omega (arith, e, len));
    } in
    subst (λ z. Found file f at zero z (y ∷ xs)) same made
found file f (y ∷ xs) at (suc i) x h g =
    let next = stands_right file (f y) (flat_map f xs) at (at + length (f y)) refl h in
    let r = found file f xs (at + length (f y)) i x next g in
    let len : length (f y ++ flat_map f xs) ≡ length (f y) + length (flat_map f xs) = length-append (f y) (flat_map f xs) in
    record {
      offset = r.offset;
      is = r.is;
      none = r.none;
      there = r.there;
      behind = λ lt. (let b = r.behind lt in omega (arith, b));
      within = λ lt. (let w = r.within lt in omega (arith, len, w));
    }

pub record FoundAligned {X : Type 0} (file : List ℕ) (f : X → List ℕ) (at i : ℕ) (x : X) (xs : List X) : Type 0 where
  pub offset : ℕ
  pub is : slice_get (aligned_offsets f at xs) i ≡ Some offset
  pub there : Stands file offset (f x)
  pub even : offset % 4 ≡ 0
  pub behind : at ≤ offset
  pub within : offset + length (f x) ≤ at + length (aligned f at xs)

pub found_aligned : {X : Type 0} (file : List ℕ) (f : X → List ℕ) (xs : List X) (at i : ℕ) (x : X) → Stands file at (aligned f at xs) → slice_get xs i ≡ Some x → FoundAligned file f at i x xs
found_aligned file f [] at i x h g = absurd cc
found_aligned {X = X} file f (y ∷ xs) at i x h g =
    let pad = zeros (padding at) in
    let o = at + padding at in
    let next = o + length (f y) in
    let rest = aligned f next xs in
    let lp : length pad ≡ padding at = length_zeros (padding at) in
    let h1 : Stands file o (f y ++ rest) = stands_right file pad (f y ++ rest) at o (ap (λ k. at + k) (sym lp)) h in
    let h2 : Stands file next rest = stands_right file (f y) rest o next refl h1 in
    let l1 : length (f y ++ rest) ≡ length (f y) + length rest = length-append (f y) rest in
    let l2 : length (pad ++ (f y ++ rest)) ≡ length pad + length (f y ++ rest) = length-append pad (f y ++ rest) in
    let here : slice_get (y ∷ xs) zero ≡ Some x → FoundAligned file f at zero x (y ∷ xs) = λ e. (let same : y ≡ x = grind (arith, e) in
    subst (λ z. FoundAligned file f at zero z (y ∷ xs)) same (record { offset = o; is = refl; there = stands_left file (f y) rest o h1; even = omega arith; behind = omega arith; within = omega (arith, l1, l2, lp) })) in
    let later : (k : ℕ) → slice_get (y ∷ xs) (suc k) ≡ Some x → FoundAligned file f at (suc k) x (y ∷ xs) = λ k e. (let r = found_aligned file f xs next k x h2 e in
    record { offset = r.offset; is = r.is; there = r.there; even = r.even; behind = (let b = r.behind in omega (arith, b)); within = omega (arith, l1, l2, lp, r.within) }) in
    elim i as (λ z. slice_get (y ∷ xs) z ≡ Some x → FoundAligned file f at z x (y ∷ xs)) [ zero ↦ here | suc k ↦ later k ] g
