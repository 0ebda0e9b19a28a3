-- Payloads that stand in units stand whole.
use Rattle.std.proofs.Common.{◌≡◌, ◌⊎◌, inl, inr, ℕ, ◌+◌, ◌*◌, ◌≤◌, List, [], ◌∷◌, length, take, drop, Option, Some, None, Bool, true, false, refl, sym, ◌∙◌, arith, subst}
use Rattle.std.specs.Prelude.{◌==◌, nat_lt, if◌then◌else◌}
use Rattle.std.proofs.lemmas.Bool.Decides.{nat_tests}
use Rattle.std.proofs.lemmas.List.{length-drop, length-take, length-take-le}
use Rattle.pi_bytes.specs.Numbers.{most_bytes}
use Rattle.pi_insn.specs.Numbers.{signed_number, word}
use Rattle.pi_insn.specs.Payloads.{Data, PackedData, SparseData, ArrayData, packed_data, sparse, is_width, units_for, array, payload}
use Rattle.pi_dexcode.specs.Whole.{IsWhole}
use Rattle.pi_dexcode.proofs.Types.{if_held}

unless_true : {A : Type 0} (b : Bool) (x y : A) → (if b then None else Some x) ≡ Some y → (b ≡ false) × (x ≡ y)
unless_true true x y e = cc
unless_true false x y e = (refl, cc)

packed_whole : (size : ℕ) (rest : List ℕ) (d : Data) → length rest ≤ most_bytes → packed_data size rest ≡ Some d → IsWhole d
packed_whole size rest d few e =
    let is = (unless_true (nat_lt (length rest) (2 + 2 * size)) (PackedData (signed_number 2147483648 (word rest 0)) (take (2 * size) (drop 2 rest))) d e).1 in
    subst IsWhole is (record { few = omega (arith, few, length-take (2 * size) (drop 2 rest), length-drop 2 rest) })

not_less : (a b : ℕ) → nat_lt a b ≡ false → b ≤ a
not_less a b e = grind (arith, nat_tests)

sparse_whole : (size : ℕ) (rest : List ℕ) (d : Data) → sparse size rest ≡ Some d → IsWhole d
sparse_whole size rest d e =
    let both = unless_true (nat_lt (length rest) (4 * size)) (SparseData (take (2 * size) rest) (take (2 * size) (drop (2 * size) rest))) d e in
    let long = not_less (length rest) (4 * size) both.0 in
    let keys : length (take (2 * size) rest) ≡ 2 * size = length-take-le (2 * size) rest (omega (arith, long)) in
    let targets : length (take (2 * size) (drop (2 * size) rest)) ≡ 2 * size = length-take-le (2 * size) (drop (2 * size) rest) (omega (arith, long, length-drop (2 * size) rest)) in
    subst IsWhole both.1 (record { same = keys ∙ sym targets })

widths : (n : ℕ) → is_width n ≡ true → (n ≡ 1) ⊎ ((n ≡ 2) ⊎ ((n ≡ 4) ⊎ (n ≡ 8)))
widths n e = by_tests (n == 1) (n == 2) (n == 4) refl refl refl
  where
    by_tests : (a b c : Bool) → (n == 1) ≡ a → (n == 2) ≡ b → (n == 4) ≡ c → (n ≡ 1) ⊎ ((n ≡ 2) ⊎ ((n ≡ 4) ⊎ (n ≡ 8)))
    by_tests true b c f g h = inl (grind (arith, nat_tests))
    by_tests false true c f g h = inr (inl (grind (arith, nat_tests)))
    by_tests false false true f g h = inr (inr (inl (grind (arith, nat_tests))))
    by_tests false false false f g h = inr (inr (inr (grind (arith, nat_tests))))

if_false : {A : Type 0} (b : Bool) (x : Option A) (y : A) → (if b then None else x) ≡ Some y → (b ≡ false) × (x ≡ Some y)
if_false true x y e = cc
if_false false x y e = (refl, e)

half_enough : (n : ℕ) → n ≤ 2 * units_for n
half_enough n = omega arith

array_whole : (width : ℕ) (rest : List ℕ) (d : Data) → array width rest ≡ Some d → IsWhole d
array_whole width rest d e =
    let n = units_for (width * word rest 0) in
    let x = ArrayData width (word rest 0) (take n (drop 2 rest)) in
    let a = if_held (is_width width) (if nat_lt (length rest) 2 then None else if nat_lt (length rest) (2 + n) then None else Some x) d e in
    let b = if_false (nat_lt (length rest) 2) (if nat_lt (length rest) (2 + n) then None else Some x) d a.1 in
    let c = unless_true (nat_lt (length rest) (2 + n)) x d b.1 in
    let long = not_less (length rest) (2 + n) c.0 in
    let items : length (take n (drop 2 rest)) ≡ n = length-take-le n (drop 2 rest) (omega (arith, long, length-drop 2 rest)) in
    subst IsWhole c.1 (record { known = widths width a.0; whole = omega (arith, half_enough (width * word rest 0), items) })

pub if_either : {A : Type 0} (b : Bool) (x y z : Option A) → (if b then x else y) ≡ z → (x ≡ z) ⊎ (y ≡ z)
if_either true x y z e = inl e
if_either false x y z e = inr e

pub payload_whole : (units : List ℕ) (d : Data) → length units ≤ most_bytes → payload units ≡ Some d → IsWhole d
unfolding payload
payload_whole [] d few e = cc
payload_whole (kind ∷ []) d few e = cc
payload_whole (kind ∷ second ∷ rest) d few e =
    by_kind (if_either (kind == 0x0100) (packed_data second rest) (if kind == 0x0200 then sparse second rest else if kind == 0x0300 then array second rest else None) (Some d) e)
  where
    by_array : (array second rest ≡ Some d) ⊎ (None ≡ Some d) → IsWhole d
    by_array (inl f) = array_whole second rest d f
    by_array (inr f) = cc

    by_sparse : (sparse second rest ≡ Some d) ⊎ ((if kind == 0x0300 then array second rest else None) ≡ Some d) → IsWhole d
    by_sparse (inl f) = sparse_whole second rest d f
    by_sparse (inr f) = by_array (if_either (kind == 0x0300) (array second rest) None (Some d) f)

    by_kind : (packed_data second rest ≡ Some d) ⊎ ((if kind == 0x0200 then sparse second rest else if kind == 0x0300 then array second rest else None) ≡ Some d) → IsWhole d
    by_kind (inl f) = packed_whole second rest d (omega (arith, few)) f
    by_kind (inr f) = by_sparse (if_either (kind == 0x0200) (sparse second rest) (if kind == 0x0300 then array second rest else None) (Some d) f)
