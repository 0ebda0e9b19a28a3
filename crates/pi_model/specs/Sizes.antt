-- How many bytes objects take, as they count against the limits on heap bytes. All of it is our own.
use Rattle.std.specs.Prelude.{ℕ, zero, suc, ◌+◌, ◌-◌, ◌*◌, ◌/◌, ◌==◌, ◌||◌, List, length, Option, Some, None, Bool, false, if◌then◌else◌, slice_index, count_by, not, option_map, unwrap_or}
use Rattle.pi_model.specs.declared.numbers.NameNo.{NameNo}
use Rattle.pi_model.specs.declared.describe.ClassDesc.{ClassDesc}
use Rattle.pi_model.specs.declared.describe.FieldDesc.{FieldDesc}
use Rattle.pi_model.specs.Flags.{is_static}
use Rattle.pi_model.specs.Program.{Program}
use Rattle.pi_model.specs.Texts.{units_of}
use Rattle.pi_model.specs.Values.{Object, Instance, Array, Text}
use Rattle.pi_model.specs.Search.{class_at, class_of}

-- a number of bytes rounded up to a multiple of eight
abbrev pub round_up : ℕ → ℕ
round_up n = (n + 7) / 8 * 8

-- how wide a field or an element is, by the first letter of its descriptor: Z and B one byte, C and S two, J eight,
-- ints and references four
abbrev pub width_of : ℕ → ℕ
width_of letter = if letter == 90 || letter == 66 then 1 else
    if letter == 67 || letter == 83 then 2 else
    if letter == 74 then 8 else 4

-- the size of an array or a text: a header of sixteen bytes and that many elements, rounded up
abbrev pub array_bytes : ℕ → ℕ → ℕ
array_bytes width n = round_up (16 + width * n)

-- a field that each instance has
abbrev pub of_instances : FieldDesc → Bool
of_instances f = not (is_static f.flags)

-- the letter that a field's descriptor begins with
abbrev pub letter_of : Program → FieldDesc → ℕ
letter_of p f = slice_index (units_of p f.ty.0) 0

-- how many fields of instances have that width
abbrev pub fields_of_width : Program → ℕ → List FieldDesc → ℕ
fields_of_width p width fields =
    count_by (λ f. if of_instances f then width_of (letter_of p f) == width else false) fields

-- a descriptor that begins so is that of a class or an array
abbrev pub is_reference : ℕ → Bool
is_reference letter = letter == 76 || letter == 91

-- how many fields of instances are references, which stand apart from ints
abbrev pub reference_fields : Program → List FieldDesc → ℕ
reference_fields p fields = count_by (λ f. if of_instances f then is_reference (letter_of p f) else false) fields

-- eight-byte fields begin at a multiple of eight
abbrev pub after_longs : ℕ → ℕ → ℕ
after_longs at zero = at
after_longs at (suc n) = round_up at + 8 * suc n

-- the size of an instance whose superclass's fields end at a place: own references, then longs, ints, units and bytes
abbrev pub own_end : Program → List FieldDesc → ℕ → ℕ
own_end p fields at = round_up (
    after_longs (at + 4 * reference_fields p fields) (fields_of_width p 8 fields)
    + 4 * (fields_of_width p 4 fields - reference_fields p fields)
    + 2 * fields_of_width p 2 fields
    + fields_of_width p 1 fields)

-- where the fields of a class begin: behind those of its superclass, else behind the object's header
abbrev pub begin_of : Program → (ℕ → ℕ) → Option NameNo → ℕ
begin_of p end_of None = 8
begin_of p end_of (Some parent) = unwrap_or (option_map end_of (class_of p parent)) 8

-- the size of an instance of a class, by the sizes of its superclasses
abbrev pub bytes_of : Program → (ℕ → ℕ) → Option ClassDesc → ℕ
bytes_of p end_of None = 8
bytes_of p end_of (Some d) = own_end p d.fields (begin_of p end_of d.parent)

-- the size of an instance of a class; the number bounds how many superclasses are looked at
abbrev pub class_bytes : ℕ → Program → ℕ → ℕ
class_bytes zero p c = 8
class_bytes (suc n) p c = bytes_of p (class_bytes n p) (class_at p c)

-- the size of an object
abbrev pub object_bytes : Program → Object → ℕ
object_bytes p (Instance c fields) = class_bytes (length p.classes) p c
object_bytes p (Array ty items) = array_bytes (width_of (slice_index (units_of p ty) 1)) (length items)
object_bytes p (Text units) = array_bytes 2 (length units)
