-- What the static values of a class must hold, rule X19. Its place is the offset of the values.
use Rattle.std.specs.Prelude.{ℕ, zero, suc, ◌+◌, ◌/◌, ◌%◌, ◌==◌, ◌&&◌, ◌||◌, nat_lt, codes, List, [], ◌∷◌, Option, Some, None, Bool, false, is_some, if◌then◌else◌}
use Rattle.pi_bytes.specs.Place.{Place}
use Rattle.pi_bytes.specs.Reading.{number_at}
use Rattle.pi_bytes.specs.Leb.{uleb_at}
use Rattle.pi_model.specs.Texts.{same_text}
use Rattle.pi_insn.specs.Chain.{◌>>=◌}
use Rattle.pi_format.specs.Tables.{count_at, string_ids, type_ids, field_ids, class_defs}
use Rattle.pi_format.specs.Rules.Header.{unless}
use Rattle.pi_format.specs.Rules.Descriptors.{begins_with, is_class_type, is_array_type}
use Rattle.pi_format.specs.Rules.Strings.{type_units}
use Rattle.pi_format.specs.Rules.Members.{member_entry}
use Rattle.pi_format.specs.Rules.Lowest.{lowest_from}
use Rattle.pi_format.specs.Rules.Rows.{MemberRow, readable}
use Rattle.pi_format.specs.Rules.ClassData.{class_values_at, rows_of}

-- an encoded value: its kind, its argument, and the number in the bytes behind, the lowest first
pub record EncodedValue : Type 0 where
  pub kind : ℕ
  pub arg : ℕ
  pub number : ℕ

-- null and booleans have no bytes; all others have one more than the argument says
abbrev pub value_bytes : ℕ → ℕ → ℕ
value_bytes kind arg = if kind == 0x1e || kind == 0x1f then 0 else arg + 1

unfoldable pub encoded_value : Place → Option (EncodedValue × Place)
encoded_value p = do
  head ← readable (number_at 1 p)
  number ← readable (number_at (value_bytes (head.0 % 32) (head.0 / 32)) head.1)
  Some (record { kind = head.0 % 32; arg = head.0 / 32; number = number.0 }, number.1)

abbrev pub is_reference : List ℕ → Bool
is_reference ty = is_class_type ty || is_array_type ty

-- there is a type of that number, and it is a class or an array
abbrev pub names_reference : List ℕ → ℕ → Bool
names_reference file t = nat_lt t (count_at file type_ids) && is_reference (type_units file t)

-- A value fits a field of a type: B, S, C, I, J and Z by their letters, a string and a class with what they name, and
-- null for each reference.
unfoldable pub value_fits : List ℕ → List ℕ → EncodedValue → Bool
value_fits file ty v =
    if v.kind == 0x00 then begins_with 66 ty && nat_lt v.arg 1 else
    if v.kind == 0x02 then begins_with 83 ty && nat_lt v.arg 2 else
    if v.kind == 0x03 then begins_with 67 ty && nat_lt v.arg 2 else
    if v.kind == 0x04 then begins_with 73 ty && nat_lt v.arg 4 else
    if v.kind == 0x06 then begins_with 74 ty && nat_lt v.arg 8 else
    if v.kind == 0x1f then begins_with 90 ty && nat_lt v.arg 2 else
    if v.kind == 0x17 then
    same_text (codes "Ljava/lang/String;") ty && (nat_lt v.arg 4 && nat_lt v.number (count_at file string_ids)) else
    if v.kind == 0x18 then same_text (codes "Ljava/lang/Class;") ty && (nat_lt v.arg 4 && names_reference file v.number) else
    if v.kind == 0x1e then is_reference ty && (v.arg == 0) else false

-- the units of a field's type
abbrev pub field_type : List ℕ → ℕ → List ℕ
field_type file id = type_units file (member_entry file field_ids id).kind

-- that many values from a place on, one for each of the first fields, which it fits
abbrev pub values_from : List ℕ → List MemberRow → ℕ → Place → Option (List EncodedValue)
values_from file fields zero p = Some []
values_from file [] (suc n) p = None
values_from file (field ∷ fields) (suc n) p = do
  first ← encoded_value p
  if value_fits file (field_type file field.id) first.0 then (do
    others ← values_from file fields n first.1
    Some (first.0 ∷ others))
      else None

unfoldable pub values_at : List ℕ → List MemberRow → Place → Option (List EncodedValue)
values_at file fields p = do
  count ← readable (uleb_at p)
  values_from file fields count.0 count.1

-- the values of the first static fields of a class definition, none where it gives none; nothing where they do not hold
unfoldable pub class_values : List ℕ → ℕ → Option (List EncodedValue)
class_values file i =
    if class_values_at file i == 0 then Some []
    else values_at file (rows_of file i).statics (record { bytes = file; at = class_values_at file i })

-- X19: the static values of each class hold
abbrev pub broken_values : List ℕ → Option ℕ
broken_values file =
    lowest_from (λ i. unless (is_some (class_values file i)) (class_values_at file i)) 0 (count_at file class_defs)
