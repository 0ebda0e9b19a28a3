-- The values that a class gives its static fields: each fits the type of its field, and its number has so many bytes.
use Rattle.std.proofs.Common.{◌≡◌, ℕ, zero, suc, ◌+◌, ◌/◌, ◌%◌, ◌^◌, ◌<◌, List, [], ◌∷◌, length, Option, Some, None, Result, Ok, Err, Bool, true, false, refl, sym, subst}
use Rattle.std.specs.Prelude.{◌==◌, nat_le, slice_index, if◌then◌else◌}
use Rattle.std.proofs.lemmas.List.{get_or-drop}
use Rattle.byteorder.specs.Endian.{little_number}
use Rattle.byteorder.specs.Numbers.{little_from-lt}
use Rattle.pi_bytes.specs.declared.fault.ReadFault.{ReadFault}
use Rattle.pi_bytes.specs.declared.fault.ReadFault.TheVariants.{Short}
use Rattle.pi_bytes.specs.Place.{Place, bytes_from, place_behind}
use Rattle.pi_bytes.specs.Reading.{number_at, reading_at}
use Rattle.pi_bytes.specs.Leb.{uleb_by, uleb_at}
use Rattle.pi_insn.proofs.Steps.{bind_some}
use Rattle.pi_format.specs.Rules.Rows.{MemberRow, readable}
use Rattle.pi_format.specs.Rules.ClassData.{class_values_at, rows_of}
use Rattle.pi_format.specs.Rules.Values.{EncodedValue, value_bytes, encoded_value, value_fits, field_type, values_from, values_at, class_values}
use Rattle.pi_format.specs.Says.Classes.{values_in}
use Rattle.pi_said.proofs.Members.{some_is, tested}
use Rattle.pi_saidkeeps.specs.Chains.{AreBytes}

-- a number of so many bytes, and the place behind it
bytes_behind : (p : Place) → AreBytes p.bytes → (k : ℕ) → slice_index (bytes_from p) k < 256
bytes_behind p bytes k = subst (λ (u : ℕ). u < 256) (sym (get_or-drop p.at p.bytes k 0)) (bytes (p.at + k))

number_read : (n : ℕ) (p : Place) (r : ℕ × Place) → AreBytes p.bytes → readable (number_at n p) ≡ Some r → (r.0 < 256 ^ n) × AreBytes r.1.bytes
number_read n p r bytes e = by_length (nat_le n (length (bytes_from p))) e
  where
    by_length : (b : Bool) → readable (if b then Ok (little_number n (bytes_from p), place_behind n p) else Err Short) ≡ Some r → (r.0 < 256 ^ n) × AreBytes r.1.bytes
    by_length true e = subst (λ (q : ℕ × Place). (q.0 < 256 ^ n) × AreBytes q.1.bytes) (some_is e) (little_from-lt 0 n (bytes_from p) (bytes_behind p bytes), bytes)
    by_length false e = cc

count_read : (p : Place) (r : ℕ × Place) → AreBytes p.bytes → readable (uleb_at p) ≡ Some r → AreBytes r.1.bytes
unfolding uleb_at
count_read p r bytes e = by_read (uleb_by 4 (bytes_from p)) e
  where
    by_read : (o : Result (ℕ × ℕ) ReadFault) → readable (reading_at p o) ≡ Some r → AreBytes r.1.bytes
    by_read (Ok x) e = subst (λ (q : ℕ × Place). AreBytes q.1.bytes) (some_is e) bytes
    by_read (Err fault) e = cc

-- a value as it is read
record IsRead (v : EncodedValue) (p : Place) : Type 0 where
  small : v.number < 256 ^ value_bytes v.kind v.arg
  bytes : AreBytes p.bytes

value_read : (p : Place) (r : EncodedValue × Place) → AreBytes p.bytes → encoded_value p ≡ Some r → IsRead r.0 r.1
unfolding encoded_value
value_read p r bytes e =
    let head = bind_some (readable (number_at 1 p)) _ r e in
    let first = number_read 1 p head.0 bytes head.1.0 in
    let number = bind_some (readable (number_at (value_bytes (head.0.0 % 32) (head.0.0 / 32)) head.0.1)) _ r head.1.1 in
    let second = number_read (value_bytes (head.0.0 % 32) (head.0.0 / 32)) head.0.1 number.0 first.1 number.1.0 in
    subst (λ (q : EncodedValue × Place). IsRead q.0 q.1) (some_is number.1.1) (record { small = second.0; bytes = second.1 })

-- a value that fits the field of a row
pub record FitsRow (file : List ℕ) (row : MemberRow) (v : EncodedValue) : Type 0 where
  pub fits : value_fits file (field_type file row.id) v ≡ true
  pub small : v.number < 256 ^ value_bytes v.kind v.arg

-- the first rows have values that fit
abbrev pub FitRows : List ℕ → List MemberRow → List EncodedValue → Type 0
FitRows file rows [] = Unit {0}
FitRows file [] (v ∷ vs) = Unit {0}
FitRows file (row ∷ rows) (v ∷ vs) = FitsRow file row v × FitRows file rows vs

values_read : (file : List ℕ) (rows : List MemberRow) (n : ℕ) (p : Place) (vs : List EncodedValue) → AreBytes p.bytes → values_from file rows n p ≡ Some vs → FitRows file rows vs
values_read file rows zero p vs bytes e = subst (FitRows file rows) (some_is e) tt
values_read file [] (suc n) p vs bytes e = cc
values_read file (row ∷ rows) (suc n) p vs bytes e =
    let first = bind_some (encoded_value p) _ vs e in
    let read = value_read p first.0 bytes first.1.0 in
    let test = tested (value_fits file (field_type file row.id) first.0.0) _ vs first.1.1 in
    let others = bind_some (values_from file rows n first.0.1) _ vs test.1 in
    subst (FitRows file (row ∷ rows)) (some_is others.1.1)
    (record { fits = test.0; small = read.small }, values_read file rows n first.0.1 others.0 read.bytes others.1.0)

values_fit : (file : List ℕ) (rows : List MemberRow) (p : Place) (vs : List EncodedValue) → AreBytes p.bytes → values_at file rows p ≡ Some vs → FitRows file rows vs
unfolding values_at
values_fit file rows p vs bytes e =
    let count = bind_some (readable (uleb_at p)) _ vs e in
    values_read file rows count.0.0 count.0.1 vs (count_read p count.0 bytes count.1.0) count.1.1

given_fit : (file : List ℕ) (i : ℕ) (vs : List EncodedValue) → AreBytes file → class_values file i ≡ Some vs → FitRows file (rows_of file i).statics vs
unfolding class_values
given_fit file i vs bytes e = by_place (class_values_at file i == 0) e
  where
    by_place : (b : Bool) → (if b then Some [] else values_at file (rows_of file i).statics (record { bytes = file; at = class_values_at file i })) ≡ Some vs
        → FitRows file (rows_of file i).statics vs
    by_place true e = subst (FitRows file (rows_of file i).statics) (some_is e) tt
    by_place false e = values_fit file (rows_of file i).statics (record { bytes = file; at = class_values_at file i }) vs bytes e

-- the values that a class gives fit its first static fields
pub class_values_fit : (file : List ℕ) (i : ℕ) → AreBytes file → FitRows file (rows_of file i).statics (values_in (class_values file i))
class_values_fit file i bytes = by_values (class_values file i) refl
  where
    by_values : (o : Option (List EncodedValue)) → class_values file i ≡ o → FitRows file (rows_of file i).statics (values_in o)
    by_values None e = tt
    by_values (Some vs) e = given_fit file i vs bytes e
