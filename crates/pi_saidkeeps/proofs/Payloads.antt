-- Payloads that stand in units: how many units they take, and that their parts fit each other.
use Rattle.std.proofs.Common.{◌≡◌, ℕ, zero, suc, ◌+◌, ◌*◌, ◌≤◌, List, [], ◌∷◌, length, take, drop, Option, Some, None, Bool, true, false, refl, sym, ◌∙◌, arith, subst}
use Rattle.std.specs.Prelude.{◌==◌, ◌&&◌, nat_lt, if◌then◌else◌}
use Rattle.std.specs.List.{list_all}
use Rattle.std.proofs.lemmas.Bool.{and_parts, and_from, eq-eqb, ltb-false}
use Rattle.std.proofs.lemmas.List.{length-drop, length-take-le}
use Rattle.pi_insn.specs.Numbers.{signed_number, word}
use Rattle.pi_insn.specs.Payloads.{Data, PackedData, SparseData, ArrayData, packed_data, sparse, is_width, units_for, array, payload}
use Rattle.pi_format.specs.Rules.Pieces.{payload_units}
use Rattle.pi_said.proofs.Members.{tested}

abbrev pub is_unit : ℕ → Bool
is_unit u = nat_lt u 65536

abbrev pub are_units : List ℕ → Bool
are_units us = list_all is_unit us

pub units_drop : (n : ℕ) (us : List ℕ) → are_units us ≡ true → are_units (drop n us) ≡ true
units_drop zero us all = all
units_drop (suc n) [] all = refl
units_drop (suc n) (u ∷ us) all = units_drop n us ((and_parts (is_unit u) (are_units us) all).1)

units_take : (n : ℕ) (us : List ℕ) → are_units us ≡ true → are_units (take n us) ≡ true
units_take zero us all = refl
units_take (suc n) [] all = refl
units_take (suc n) (u ∷ us) all =
    let parts = and_parts (is_unit u) (are_units us) all in
    and_from (is_unit u) (are_units (take n us)) parts.0 (units_take n us parts.1)

-- a sparse switch has as many keys as targets, and the items of an array have a width and are units
abbrev pub fits_whole : Data → Bool
fits_whole (PackedData first targets) = true
fits_whole (SparseData keys targets) = length keys == length targets
fits_whole (ArrayData width size items) = is_width width && are_units items

-- a payload at the front of units
pub record StandsThere (units : List ℕ) (d : Data) : Type 0 where
  pub some : 1 ≤ payload_units d
  pub inside : payload_units d ≤ length units
  pub whole : are_units units ≡ true → fits_whole d ≡ true

unless_true : {A : Type 0} (b : Bool) (x y : A) → (if b then None else Some x) ≡ Some y → (b ≡ false) × (x ≡ y)
unless_true true x y e = cc
unless_true false x y e = (refl, cc)

if_false : {A : Type 0} (b : Bool) (x : Option A) (y : A) → (if b then None else x) ≡ Some y → (b ≡ false) × (x ≡ Some y)
if_false true x y e = cc
if_false false x y e = (refl, e)

-- units that a kind and a number stand before
abbrev Behind : List ℕ → Data → Type 0
Behind rest d = (kind second : ℕ) → StandsThere (kind ∷ second ∷ rest) d

rest_units : (kind second : ℕ) (rest : List ℕ) → are_units (kind ∷ second ∷ rest) ≡ true → are_units rest ≡ true
rest_units kind second rest all = units_drop 2 (kind ∷ second ∷ rest) all

packed_there : (size : ℕ) (rest : List ℕ) (d : Data) → packed_data size rest ≡ Some d → Behind rest d
packed_there size rest d e =
    let both = unless_true (nat_lt (length rest) (2 + 2 * size)) (PackedData (signed_number 2147483648 (word rest 0)) (take (2 * size) (drop 2 rest))) d e in
    let long = ltb-false (length rest) (2 + 2 * size) both.0 in
    let targets : length (take (2 * size) (drop 2 rest)) ≡ 2 * size = length-take-le (2 * size) (drop 2 rest) (omega (arith, long, length-drop 2 rest)) in
    subst (Behind rest) both.1 (λ kind second. record { some = omega arith; inside = omega arith; whole = λ units. refl })

sparse_there : (size : ℕ) (rest : List ℕ) (d : Data) → sparse size rest ≡ Some d → Behind rest d
sparse_there size rest d e =
    let both = unless_true (nat_lt (length rest) (4 * size)) (SparseData (take (2 * size) rest) (take (2 * size) (drop (2 * size) rest))) d e in
    let long = ltb-false (length rest) (4 * size) both.0 in
    let keys : length (take (2 * size) rest) ≡ 2 * size = length-take-le (2 * size) rest (omega (arith, long)) in
    let targets : length (take (2 * size) (drop (2 * size) rest)) ≡ 2 * size = length-take-le (2 * size) (drop (2 * size) rest) (omega (arith, long, length-drop (2 * size) rest)) in
    subst (Behind rest) both.1 (λ kind second. record { some = omega arith; inside = omega arith; whole = λ units. eq-eqb _ _ (keys ∙ sym targets) })

array_there : (width : ℕ) (rest : List ℕ) (d : Data) → array width rest ≡ Some d → Behind rest d
array_there width rest d e =
    let n = units_for (width * word rest 0) in
    let x = ArrayData width (word rest 0) (take n (drop 2 rest)) in
    let a = tested (is_width width) (if nat_lt (length rest) 2 then None else if nat_lt (length rest) (2 + n) then None else Some x) d e in
    let b = if_false (nat_lt (length rest) 2) (if nat_lt (length rest) (2 + n) then None else Some x) d a.1 in
    let c = unless_true (nat_lt (length rest) (2 + n)) x d b.1 in
    let long = ltb-false (length rest) (2 + n) c.0 in
    let items : length (take n (drop 2 rest)) ≡ n = length-take-le n (drop 2 rest) (omega (arith, long, length-drop 2 rest)) in
    subst (Behind rest) c.1 (λ kind second. record {
      some = omega arith;
      inside = omega arith;
      whole = λ units. and_from (is_width width) (are_units (take n (drop 2 rest))) a.0
          (units_take n (drop 2 rest) (units_drop 2 rest (rest_units kind second rest units)));
    })

pub payload_there : (units : List ℕ) (d : Data) → payload units ≡ Some d → StandsThere units d
unfolding payload
payload_there [] d e = cc
payload_there (kind ∷ []) d e = cc
payload_there (kind ∷ second ∷ rest) d e = by_kind (kind == 0x0100) (kind == 0x0200) (kind == 0x0300) e
  where
    by_kind : (a b c : Bool) → (if a then packed_data second rest else if b then sparse second rest else if c then array second rest else None) ≡ Some d
        → StandsThere (kind ∷ second ∷ rest) d
    by_kind true b c e = packed_there second rest d e kind second
    by_kind false true c e = sparse_there second rest d e kind second
    by_kind false false true e = array_there second rest d e kind second
    by_kind false false false e = cc
