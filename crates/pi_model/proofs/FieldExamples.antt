-- The fields of instances, their order and what they begin with, and sizes behind a superclass, worked out by hand.
use Rattle.std.proofs.Common.{◌≡◌, ℕ, List, [], ◌∷◌, Some, None, refl}
use Rattle.std.specs.Prelude.{true, false}
use Rattle.pi_model.specs.declared.describe.FieldDesc.{FieldDesc}
use Rattle.pi_model.specs.Program.{Program}
use Rattle.pi_model.specs.Values.{Instance, Array, Word, Long}
use Rattle.pi_model.specs.Search.{in_class}
use Rattle.pi_model.specs.Fields.{first_fields, new_instance, fields_above, field_place, is_subclass}
use Rattle.pi_model.specs.Sizes.{object_bytes}
use Rattle.pi_model.proofs.Samples.{Hold, object, a, b, c, i, int, long, boolean, byte, short, char, ints, class, interface, own, static, program}

-- Object; A with a static field, an int and a long; B below A with a reference, a static field and a boolean; C below
-- Object with nothing
abbrev family : Program
family = program (
    class object None [] [] []
    ∷ class a (Some object) [] (static int ∷ own int ∷ own long ∷ []) []
    ∷ class b (Some a) [] (own object ∷ static long ∷ own boolean ∷ []) []
    ∷ class c (Some object) [] [] []
    ∷ [])

-- The fields of instances of a class stand in order, behind those of its superclass; static ones do not count. A static
-- field, one that is not there and one of no class have no place.
places : Hold (
    (field_place family (in_class 1 1), Some 0)
    ∷ (field_place family (in_class 1 2), Some 1)
    ∷ (field_place family (in_class 2 0), Some 2)
    ∷ (field_place family (in_class 2 2), Some 3)
    ∷ (field_place family (in_class 2 1), None)
    ∷ (field_place family (in_class 2 3), None)
    ∷ (field_place family (in_class 4 0), None)
    ∷ [])
places = refl

-- two fields come from the superclass
two_above : fields_above family 2 ≡ 2
two_above = refl

-- an int, a long, a reference and a boolean begin as 0 or null, a long as a long 0
begin_as_zero : first_fields family 2 ≡ Word 0 ∷ Long 0 ∷ Word 0 ∷ Word 0 ∷ []
begin_as_zero = refl

-- an instance of the superclass has the superclass's fields alone, and one of a class without fields has none
new_instances : Hold ((new_instance family 1, Instance 1 (Word 0 ∷ Long 0 ∷ [])) ∷ (new_instance family 3, Instance 3 []) ∷ [])
new_instances = refl

-- a class counts as its own subclass and is one of those above it, but not of one below it or beside it
subclasses : Hold (
    (is_subclass family 2 2, true)
    ∷ (is_subclass family 2 0, true)
    ∷ (is_subclass family 1 2, false)
    ∷ (is_subclass family 3 1, false)
    ∷ [])
subclasses = refl

-- an interface has no subclasses
interface_has_none : is_subclass (program (class object None [] [] [] ∷ interface i (Some object) [] [] ∷ class a (Some object) (i ∷ []) [] [] ∷ [])) 2 1 ≡ false
interface_has_none = refl

-- sizes

-- Object; A with a long and a byte, which has 24 bytes; B below A with a list of fields
abbrev below : List FieldDesc → Program
below fields = program (
    class object None [] [] []
    ∷ class a (Some object) [] (own byte ∷ own long ∷ []) []
    ∷ class b (Some a) [] fields []
    ∷ [])

-- the size of an instance of B with those fields
abbrev bytes_with : List FieldDesc → ℕ
bytes_with fields = object_bytes (below fields) (Instance 2 [])

-- the header, the long at 8 and the byte at 16 make 17 bytes, rounded up
superclass_alone : object_bytes (below []) (Instance 1 []) ≡ 24
superclass_alone = refl

-- fields begin behind the superclass's full size, references first, then longs at a multiple of eight, and then without
-- gaps ints, units and bytes, which do not fill the gap before the longs; static fields take nothing
sizes : Hold (
    (bytes_with [], 24)
    ∷ (bytes_with (own byte ∷ []), 32)
    ∷ (bytes_with (own object ∷ []), 32)
    ∷ (bytes_with (own object ∷ own ints ∷ []), 32)
    ∷ (bytes_with (own long ∷ own object ∷ own ints ∷ []), 40)
    ∷ (bytes_with (own object ∷ own long ∷ []), 40)
    ∷ (bytes_with (own object ∷ own long ∷ own int ∷ []), 48)
    ∷ (bytes_with (own object ∷ own int ∷ []), 32)
    ∷ (bytes_with (own byte ∷ own short ∷ own boolean ∷ own byte ∷ own char ∷ own byte ∷ []), 32)
    ∷ (bytes_with (own byte ∷ own short ∷ own boolean ∷ own byte ∷ own char ∷ own byte ∷ own byte ∷ []), 40)
    ∷ (bytes_with (own byte ∷ own short ∷ own int ∷ own long ∷ own object ∷ []), 48)
    ∷ (bytes_with (static long ∷ static object ∷ static int ∷ own byte ∷ []), 32)
    ∷ [])
sizes = refl

-- an array of arrays has four bytes for each element
array_of_arrays : object_bytes (below []) (Array 15 (Word 0 ∷ Word 0 ∷ Word 0 ∷ [])) ≡ 32
array_of_arrays = refl
