-- Sizes of objects and searches for fields and members in small programs, worked out by hand.
use Rattle.std.proofs.Common.{◌≡◌, ℕ, List, [], ◌∷◌, Some, None, refl}
use Rattle.pi_model.specs.declared.numbers.NameNo.{NameNo}
use Rattle.pi_model.specs.declared.describe.ClassDesc.{ClassDesc}
use Rattle.pi_model.specs.declared.describe.FieldDesc.{FieldDesc}
use Rattle.pi_model.specs.declared.insn.FieldRef.{FieldRef}
use Rattle.pi_model.specs.Program.{Program}
use Rattle.pi_model.specs.Values.{Instance, Array, Text, Word}
use Rattle.pi_model.specs.Search.{in_class, class_of, find_field, method_of, field_of}
use Rattle.pi_model.specs.Sizes.{object_bytes}
use Rattle.pi_model.proofs.Samples.{Hold, a, b, c, i, int, long, boolean, short, ints, n, m, class, own, static, method, program}

-- a class with fields below one without
abbrev below : List FieldDesc → Program
below fields = program (class a None [] [] [] ∷ class b (Some a) [] fields [] ∷ [])

-- the size of an instance of that class
abbrev bytes_with : List FieldDesc → ℕ
bytes_with fields = object_bytes (below fields) (Instance 1 [])

-- A reference stands at 8, a long at the next multiple of eight, and an int, a short and a byte behind it. A static field
-- is no part of an instance.
instances : Hold (
    (bytes_with [], 8)
    ∷ (bytes_with (own a ∷ []), 16)
    ∷ (bytes_with (own long ∷ []), 16)
    ∷ (bytes_with (own boolean ∷ own short ∷ own int ∷ own long ∷ own ints ∷ []), 32)
    ∷ (bytes_with (static long ∷ []), 8)
    ∷ [])
instances = refl

-- fields begin behind those of the superclass, whose size is a multiple of eight
two_levels : object_bytes (program (class a None [] (own boolean ∷ []) [] ∷ class b (Some a) [] (own boolean ∷ []) [] ∷ [])) (Instance 1 []) ≡ 24
two_levels = refl

-- an array of ints has four bytes for each, a text two for each unit
arrays_and_texts : Hold (
    (object_bytes (below []) (Array ints.0 (Word 1 ∷ Word 2 ∷ Word 3 ∷ Word 4 ∷ [])), 32)
    ∷ (object_bytes (below []) (Array ints.0 []), 16)
    ∷ (object_bytes (below []) (Text (65 ∷ [])), 24)
    ∷ (object_bytes (below []) (Text []), 16)
    ∷ [])
arrays_and_texts = refl

-- A with an int, the interface I with a long and an int, B below A that implements I, with fields of its own, and C
-- below B; each field has the same name
abbrev family : List FieldDesc → Program
family own_fields = program (
    class a None [] (own int ∷ []) []
    ∷ class i None [] (static long ∷ static int ∷ []) []
    ∷ class b (Some a) (i ∷ []) own_fields []
    ∷ class c (Some b) [] [] []
    ∷ [])

-- that field of a class and type
abbrev field_of_type : NameNo → NameNo → FieldRef
field_of_type named ty = record { class = named; name = n; ty = ty }

-- a class's own field comes first, then that of an interface, of its superclass too, and that of the superclass last
fields_by_name : Hold (
    (find_field (family (own long ∷ own int ∷ [])) (field_of_type b int), Some (in_class 2 1))
    ∷ (find_field (family []) (field_of_type b int), Some (in_class 1 1))
    ∷ (find_field (family (own long ∷ [])) (field_of_type c int), Some (in_class 1 1))
    ∷ (find_field (program (class a None [] (own int ∷ []) [] ∷ class b (Some a) [] [] [] ∷ [])) (field_of_type b int), Some (in_class 0 0))
    ∷ (find_field (family (own int ∷ [])) (field_of_type b ints), None)
    ∷ (find_field (below []) (field_of_type c int), None)
    ∷ [])
fields_by_name = refl

-- of two classes of a name the first is found
first_of_a_name : class_of (program (class a None [] [] [] ∷ class b None [] [] [] ∷ class b (Some a) [] [] [] ∷ [])) b ≡ Some 1
first_of_a_name = refl

-- classes with two methods, none and one
abbrev with_methods : List ClassDesc
with_methods =
    class a None [] [] (method m 1 ∷ method m 1 ∷ [])
    ∷ class b None [] [] []
    ∷ class c None [] [] (method m 1 ∷ [])
    ∷ []

-- numbers go on past a class without methods and end behind the last; fields are counted apart
members_by_number : Hold (
    (method_of (program with_methods) 1, Some (in_class 0 1))
    ∷ (method_of (program with_methods) 2, Some (in_class 2 0))
    ∷ (method_of (program with_methods) 3, None)
    ∷ (field_of (family []) 1, Some (in_class 1 0))
    ∷ [])
members_by_number = refl
