-- The bytes of lists of types, strings, entries of tables and static values; and things of which equal ones stand once.
use Rattle.std.specs.Prelude.{ℕ, ◌+◌, ◌*◌, List, [], ◌∷◌, ◌++◌, length, if◌then◌else◌}
use Rattle.std.specs.List.{flat_map, list_any}
use Rattle.byteorder.specs.Endian.{little_bytes}
use Rattle.pi_model.specs.Texts.{same_text}
use Rattle.pi_bytes.specs.Mutf8.{spellings}
use Rattle.pi_format.specs.Rules.Values.{EncodedValue, value_bytes}
use Rattle.pi_parts.specs.Parts.{halves}
use Rattle.pi_parts.specs.Lebs.{uleb_bytes}
use Rattle.pi_dextables.specs.declared.tables.Member.{Member}
use Rattle.pi_dextables.specs.declared.tables.Value.{Value}

-- a list of types: how many, and their ids
unfoldable pub type_list : List ℕ → List ℕ
type_list types = little_bytes 4 (length types) ++ halves types

-- a string: how many units, the units in MUTF-8, and a 0
unfoldable pub string_item : List ℕ → List ℕ
string_item units = uleb_bytes (length units) ++ (spellings units ++ 0 ∷ [])

-- the entry of a field or a method
unfoldable pub member_bytes : Member → List ℕ
member_bytes m = little_bytes 2 m.class ++ (little_bytes 2 m.kind ++ little_bytes 4 m.name)

-- an encoded value: its argument and its kind in one byte, and its number
unfoldable pub encoded_bytes : Value → List ℕ
encoded_bytes v = (v.arg * 32 + v.kind) ∷ little_bytes (value_bytes v.kind v.arg) v.number

-- the values of static fields: how many, and each of them
unfoldable pub array_item : List Value → List ℕ
array_item values = uleb_bytes (length values) ++ flat_map encoded_bytes values

-- the bytes of the lists, and of the values, that stand in the file: the empty ones do not
abbrev pub lists_in : List (List ℕ) → List (List ℕ)
lists_in [] = []
lists_in ([] ∷ lists) = lists_in lists
lists_in ((x ∷ xs) ∷ lists) = type_list (x ∷ xs) ∷ lists_in lists

abbrev pub arrays_in : List (List Value) → List (List ℕ)
arrays_in [] = []
arrays_in ([] ∷ arrays) = arrays_in arrays
arrays_in ((v ∷ vs) ∷ arrays) = array_item (v ∷ vs) ∷ arrays_in arrays

-- one more thing, unless an equal one is there; and many more, in order
abbrev pub with_new : List (List ℕ) → List ℕ → List (List ℕ)
with_new things x = if list_any (same_text x) things then things else things ++ x ∷ []

abbrev pub with_all : List (List ℕ) → List (List ℕ) → List (List ℕ)
with_all things [] = things
with_all things (x ∷ xs) = with_all (with_new things x) xs

-- the offset of a thing, by the things and their offsets; 0 where it is not among them
abbrev pub offset_of : List (List ℕ) → List ℕ → List ℕ → ℕ
offset_of [] offsets x = 0
offset_of (y ∷ ys) [] x = 0
offset_of (y ∷ ys) (o ∷ os) x = if same_text x y then o else offset_of ys os x

-- the offset of a list, and of the values of a class: 0 where it is empty
abbrev pub list_offset : List (List ℕ) → List ℕ → List ℕ → ℕ
list_offset things offsets [] = 0
list_offset things offsets (x ∷ xs) = offset_of things offsets (type_list (x ∷ xs))

abbrev pub array_offset : List (List ℕ) → List ℕ → List Value → ℕ
array_offset things offsets [] = 0
array_offset things offsets (v ∷ vs) = offset_of things offsets (array_item (v ∷ vs))

-- a value as the format reads it
abbrev pub read_value : Value → EncodedValue
read_value v = record { kind = v.kind; arg = v.arg; number = v.number }
