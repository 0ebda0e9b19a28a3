-- Which descriptors are subtypes of which in small programs, worked out by hand.
use Rattle.std.proofs.Common.{ℕ, List, [], ◌∷◌, Some, None, refl}
use Rattle.std.specs.Prelude.{codes, Bool, true, false}
use Rattle.pi_model.specs.Known.{descriptor_of}
use Rattle.pi_model.specs.Program.{Program}
use Rattle.pi_model.specs.Subtypes.{subtype}
use Rattle.pi_model.proofs.Samples.{Hold, object, a, b, c, i, j, k, missing, class, interface, program}

-- Object, the interface J, the interface I below J, A that implements I, B below A, C below B, and the interface K
abbrev family : Program
family = program (
    class object None [] [] []
    ∷ interface j (Some object) [] []
    ∷ interface i None (j ∷ []) []
    ∷ class a (Some object) (i ∷ []) [] []
    ∷ class b (Some a) [] [] []
    ∷ class c (Some b) [] [] []
    ∷ interface k None [] []
    ∷ [])

-- whether one descriptor is a subtype of another in that program
abbrev below : List ℕ → List ℕ → Bool
below from to = subtype family from to

-- two classes that are each other's superclass
abbrev circle : Program
circle = program (class a (Some b) [] [] [] ∷ class b (Some a) [] [] [] ∷ [])

-- a type is below itself, a class below its superclasses at any distance, below the interfaces that one of them lists
-- and below those above these, and an interface below those above it and below Object, whatever it declares
classes_below : Hold (
    (below (codes "LA;") (codes "LA;"), true)
    ∷ (below (codes "I") (codes "I"), true)
    ∷ (below (codes "LB;") (codes "LA;"), true)
    ∷ (below (codes "LC;") (codes "LA;"), true)
    ∷ (below (codes "LC;") (codes "Ljava/lang/Object;"), true)
    ∷ (below (codes "LA;") (codes "LI;"), true)
    ∷ (below (codes "LA;") (codes "LJ;"), true)
    ∷ (below (codes "LB;") (codes "LI;"), true)
    ∷ (below (codes "LC;") (codes "LJ;"), true)
    ∷ (below (codes "LI;") (codes "LJ;"), true)
    ∷ (below (codes "LK;") (codes "Ljava/lang/Object;"), true)
    ∷ [])
unfolding descriptor_of
classes_below = refl

-- a class is not below its subclasses nor what it does not reach, and neither a primitive nor a class that is not there
-- is below another type
classes_apart : Hold (
    (below (codes "LA;") (codes "LB;"), false)
    ∷ (below (codes "LC;") (codes "LK;"), false)
    ∷ (below (codes "LK;") (codes "LI;"), false)
    ∷ (below (codes "I") (codes "J"), false)
    ∷ (below (codes "I") (codes "Ljava/lang/Object;"), false)
    ∷ (below (codes "LMissing;") (codes "Ljava/lang/Object;"), false)
    ∷ [])
unfolding descriptor_of
classes_apart = refl

-- a class that declares no superclass is below Object by an interface alone; a superclass that is declared counts
-- though it is not there; and in a circle classes are below each other and below no other class
superclasses_as_declared : Hold (
    (subtype (program (class a None (k ∷ []) [] [] ∷ interface k None [] [] ∷ [])) (codes "LA;") (codes "Ljava/lang/Object;"), true)
    ∷ (subtype (program (class a None [] [] [] ∷ [])) (codes "LA;") (codes "Ljava/lang/Object;"), false)
    ∷ (subtype (program (class a (Some missing) [] [] [] ∷ [])) (codes "LA;") (codes "LMissing;"), true)
    ∷ (subtype circle (codes "LA;") (codes "LB;"), true)
    ∷ (subtype circle (codes "LA;") (codes "LC;"), false)
    ∷ [])
unfolding descriptor_of
superclasses_as_declared = refl

-- every array is below Object, Cloneable and Serializable, and an array of references below an array of what its
-- component is below, an array or an interface too
arrays_below : Hold (
    (below (codes "[I") (codes "Ljava/lang/Object;"), true)
    ∷ (below (codes "[LA;") (codes "Ljava/lang/Cloneable;"), true)
    ∷ (below (codes "[[J") (codes "Ljava/io/Serializable;"), true)
    ∷ (below (codes "[I") (codes "[I"), true)
    ∷ (below (codes "[LB;") (codes "[LA;"), true)
    ∷ (below (codes "[LC;") (codes "[LJ;"), true)
    ∷ (below (codes "[LK;") (codes "[Ljava/lang/Object;"), true)
    ∷ (below (codes "[[LB;") (codes "[[LA;"), true)
    ∷ (below (codes "[[I") (codes "[Ljava/lang/Object;"), true)
    ∷ (below (codes "[[I") (codes "[Ljava/lang/Cloneable;"), true)
    ∷ [])
unfolding descriptor_of
arrays_below = refl

-- an array of primitives is below no other array, and no array below one of another depth, below its component or a class
-- whose name begins as a descriptor does, nor a class below an array
arrays_apart : Hold (
    (below (codes "[I") (codes "[J"), false)
    ∷ (below (codes "[I") (codes "[Ljava/lang/Object;"), false)
    ∷ (below (codes "[LA;") (codes "[LB;"), false)
    ∷ (below (codes "[LA;") (codes "LA;"), false)
    ∷ (below (codes "[LA;") (codes "LLA;"), false)
    ∷ (below (codes "LA;") (codes "[LA;"), false)
    ∷ (below (codes "Ljava/lang/Object;") (codes "[I"), false)
    ∷ (below (codes "[[LB;") (codes "[LA;"), false)
    ∷ [])
unfolding descriptor_of
arrays_apart = refl
