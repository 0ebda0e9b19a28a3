-- The search for a method in small programs, worked out by hand.
use Rattle.std.proofs.Common.{◌≡◌, List, [], ◌∷◌, Option, Some, None, refl}
use Rattle.pi_model.specs.declared.numbers.NameNo.{NameNo}
use Rattle.pi_model.specs.declared.describe.MethodDesc.{MethodDesc}
use Rattle.pi_model.specs.Known.{descriptor_of}
use Rattle.pi_model.specs.Program.{Program}
use Rattle.pi_model.specs.Search.{Member, in_class, find_method, lineage, superclass_of}
use Rattle.pi_model.proofs.Samples.{Hold, object, a, b, i, j, k, missing, int, long, ints, arrays_of_a, array_of_missing, arrays_of_missing, m, n, class, interface, method, method_ref, program}

-- a list of the one method m, with the flags of a public one
abbrev one : List MethodDesc
one = method m 1 ∷ []

-- the same, static or private
abbrev one_static : List MethodDesc
one_static = method m 9 ∷ []

abbrev one_private : List MethodDesc
one_private = method m 2 ∷ []

-- Object, the interface J, the interface I below J, the interface K, A that implements I, and B below A that implements
-- the interfaces of a list; each with its methods
abbrev family : List MethodDesc → List MethodDesc → List MethodDesc → List MethodDesc → List MethodDesc → List NameNo → List MethodDesc → Program
family of_object of_j of_i of_k of_a faces of_b = program (
    class object None [] [] of_object
    ∷ interface j (Some object) [] of_j
    ∷ interface i (Some object) (j ∷ []) of_i
    ∷ interface k (Some object) [] of_k
    ∷ class a (Some object) (i ∷ []) [] of_a
    ∷ class b (Some a) faces [] of_b
    ∷ [])

-- what the name m of a class finds
abbrev found : NameNo → Program → Option Member
found named p = find_method p (method_ref named m)

-- a class's superclasses in order, nearest first; Object has none
superclasses_in_order : lineage (family [] [] [] [] [] [] []) 5 ≡ 5 ∷ 4 ∷ 0 ∷ []
superclasses_in_order = refl

no_superclass : superclass_of (family [] [] [] [] [] [] []) 0 ≡ None
no_superclass = refl

-- The class's own method comes before all others, and one of another name is passed over. A superclass, the last one
-- too, comes before the interfaces of the class. Static and private methods of classes are found.
of_classes : Hold (
    (found b (family one one one one one (k ∷ []) one), Some (in_class 5 0))
    ∷ (found b (family [] [] [] [] [] [] (method n 1 ∷ method m 1 ∷ [])), Some (in_class 5 1))
    ∷ (found b (family one [] [] [] one [] []), Some (in_class 4 0))
    ∷ (found b (family [] [] [] one one (k ∷ []) []), Some (in_class 4 0))
    ∷ (found b (family one [] [] one [] (k ∷ []) []), Some (in_class 0 0))
    ∷ (found b (family [] [] [] [] one [] one_static), Some (in_class 5 0))
    ∷ (found b (family [] [] [] [] one_private (k ∷ []) []), Some (in_class 4 0))
    ∷ [])
of_classes = refl

-- a method of another result or other parameters, one that no class on the way has, and any of a class that is not there
not_found : Hold (
    (find_method (family [] [] [] [] [] [] one) (record { class = b; name = m; params = []; ret = long }), None)
    ∷ (find_method (family [] [] [] [] [] [] one) (record { class = b; name = m; params = int ∷ []; ret = int }), None)
    ∷ (found a (family [] [] [] one [] [] one), None)
    ∷ (found missing (family one one one one one [] one), None)
    ∷ [])
not_found = refl

-- The interfaces of a class come before those of its superclass, the first of the list first with all that stands above
-- it, and each before those above it.
of_interfaces : Hold (
    (found b (family [] [] [] one [] (k ∷ []) []), Some (in_class 3 0))
    ∷ (found b (family [] [] one [] [] [] []), Some (in_class 2 0))
    ∷ (found b (family [] one [] [] [] [] []), Some (in_class 1 0))
    ∷ (found b (family [] one one one [] (k ∷ []) []), Some (in_class 3 0))
    ∷ (found a (family [] one one [] [] [] []), Some (in_class 2 0))
    ∷ (found b (family [] [] one one [] (k ∷ i ∷ []) []), Some (in_class 3 0))
    ∷ (found b (family [] [] one one [] (i ∷ k ∷ []) []), Some (in_class 2 0))
    ∷ (found b (family [] one [] one [] (i ∷ k ∷ []) []), Some (in_class 1 0))
    ∷ [])
of_interfaces = refl

-- static and private methods of an interface are passed over, unless the interface itself is named
passed_over : Hold (
    (found b (family [] [] one one_static [] (k ∷ []) []), Some (in_class 2 0))
    ∷ (found a (family [] one one_private [] [] [] []), Some (in_class 1 0))
    ∷ (found b (family [] [] [] one_static [] (k ∷ []) []), None)
    ∷ (found k (family [] [] [] one_static [] [] []), Some (in_class 3 0))
    ∷ [])
passed_over = refl

-- of a named interface the methods of Object come before those of its superinterfaces
of_the_named_interface : Hold (
    (found i (family one one [] [] [] [] []), Some (in_class 0 0))
    ∷ (found i (family [] one [] [] [] [] []), Some (in_class 1 0))
    ∷ [])
of_the_named_interface = refl

-- a search that leads in a circle ends
circle_ends : found a (program (class a (Some b) (i ∷ []) [] [] ∷ class b (Some a) [] [] [] ∷ interface i None (j ∷ []) [] ∷ interface j None (i ∷ []) [] ∷ [])) ≡ None
circle_ends = refl

-- An array of primitives, or of arrays of a class that is there, has the methods of Object and no others. One of a class
-- that is not there has none, nor has a primitive.
of_arrays : Hold (
    (found ints (family one [] [] [] [] [] []), Some (in_class 0 0))
    ∷ (found arrays_of_a (family one [] one [] one [] []), Some (in_class 0 0))
    ∷ (found arrays_of_a (family [] [] one [] one [] []), None)
    ∷ (found array_of_missing (family one [] [] [] [] [] []), None)
    ∷ (found arrays_of_missing (family one [] [] [] [] [] []), None)
    ∷ (found int (family one [] [] [] [] [] []), None)
    ∷ [])
unfolding descriptor_of
of_arrays = refl
