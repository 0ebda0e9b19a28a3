-- The front of a number's bytes, and places among things.
use Rattle.std.proofs.Common.{◌≡◌, ℕ, zero, suc, ◌+◌, ◌*◌, ◌<◌, ◌≤◌, List, [], ◌∷◌, ◌++◌, length, take, get_or, Option, Some, None, refl, sym, ap, ◌∙◌, arith, append_assoc}
use Rattle.std.specs.Prelude.{Bool, true, false, position, nat_lt, not, if◌then◌else◌}
use Rattle.std.specs.Int.{bytes_low_first, byte_at}
use Rattle.std.specs.List.{position_or_len}
use Rattle.byteorder.specs.Endian.{little_bytes}
use Rattle.pi_model.specs.Texts.{same_text}
use Rattle.pi_dextables.specs.Items.{offset_of, encoded_bytes}
use Rattle.pi_dextables.specs.declared.tables.Value.{Value}
use Rattle.pi_format.specs.Rules.Values.{value_bytes}
use Rattle.std.proofs.lemmas.Bool.Decides.{nat_tests}

front : (i n m x : ℕ) → n ≤ m → take n (bytes_low_first i m x) ≡ bytes_low_first i n x
front i zero m x le = refl
front i (suc n) zero x le = absurd (omega arith)
front i (suc n) (suc m) x le = ap (λ z. byte_at i x ∷ z) (front (suc i) n m x (omega arith))

pub value_put : (v : Value) (old mid new : List ℕ) (n : ℕ) → n ≡ value_bytes v.kind v.arg → n ≤ 8
    → mid ≡ old ++ (v.arg * 32 + v.kind) ∷ [] → new ≡ mid ++ take n (little_bytes 8 v.number) → new ≡ old ++ encoded_bytes v
unfolding encoded_bytes
value_put v old mid new n is le first rest =
    let same : take n (little_bytes 8 v.number) ≡ little_bytes (value_bytes v.kind v.arg) v.number =
    front 0 n 8 v.number le ∙ ap (λ k. little_bytes k v.number) is in
    rest ∙ ap (λ z. mid ++ z) same ∙ ap (λ z. z ++ little_bytes (value_bytes v.kind v.arg) v.number) first
    ∙ append_assoc old ((v.arg * 32 + v.kind) ∷ []) (little_bytes (value_bytes v.kind v.arg) v.number)

pub few_bytes : (n kind arg : ℕ) → n ≡ value_bytes kind arg → arg < 8 → n ≤ 8
few_bytes n kind arg e lt = grind (arith, nat_tests)

-- the offset of the thing that a search finds, 0 where it finds none
offset_at : (things : List (List ℕ)) (offsets : List ℕ) (x : List ℕ) → length offsets ≡ length things
    → offset_of things offsets x ≡ get_or offsets (position_or_len (same_text x) things) 0
offset_at [] [] x len = refl
offset_at [] (o ∷ os) x len = absurd (omega arith)
offset_at (y ∷ ys) [] x len = absurd (omega arith)
offset_at (y ∷ ys) (o ∷ os) x len = by_test (same_text x y) (offset_at ys os x (omega arith))
  where
    by_test : (b : Bool) → offset_of ys os x ≡ get_or os (position_or_len (same_text x) ys) 0
        → (if b then o else offset_of ys os x) ≡ get_or (o ∷ os) (if not b then 1 + position_or_len (same_text x) ys else 0) 0
    by_test true later = refl
    by_test false later = (let next : 1 + position_or_len (same_text x) ys ≡ suc (position_or_len (same_text x) ys) = omega arith in rw next later)

is_found : (n m k : ℕ) → (if nat_lt n m then Some n else None) ≡ Some k → n ≡ k
is_found n m k e = grind (arith, nat_tests)

is_wanting : (n m : ℕ) → (let none : Option ℕ = None in (if nat_lt n m then Some n else none) ≡ none) → m ≤ n
is_wanting n m e = grind (arith, nat_tests)

pub offset_found : (things : List (List ℕ)) (offsets : List ℕ) (x : List ℕ) (k : ℕ) → length offsets ≡ length things
    → position (same_text x) things ≡ Some k → get_or offsets k 0 ≡ offset_of things offsets x
offset_found things offsets x k len e =
    ap (λ j. get_or offsets j 0) (sym (is_found (position_or_len (same_text x) things) (length things) k e)) ∙ sym (offset_at things offsets x len)

pub offset_wanting : (things : List (List ℕ)) (offsets : List ℕ) (x : List ℕ) → length offsets ≡ length things
    → position (same_text x) things ≡ None → 0 ≡ offset_of things offsets x
offset_wanting things offsets x len e =
    let far : length things ≤ position_or_len (same_text x) things = is_wanting (position_or_len (same_text x) things) (length things) e in
    sym (offset_at things offsets x len ∙ get_or_past offsets (position_or_len (same_text x) things) (omega arith))
  where
    get_or_past : (xs : List ℕ) (k : ℕ) → length xs ≤ k → get_or xs k 0 ≡ 0
    get_or_past [] k le = refl
    get_or_past (x ∷ xs) zero le = absurd (omega arith)
    get_or_past (x ∷ xs) (suc k) le = get_or_past xs k (omega arith)
