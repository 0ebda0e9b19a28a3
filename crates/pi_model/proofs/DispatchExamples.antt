-- Which method a call by the receiver's type reaches in small programs, worked out by hand.
use Rattle.std.proofs.Common.{ℕ, List, [], ◌∷◌, Option, Some, None, refl}
use Rattle.std.specs.Prelude.{option_and_then}
use Rattle.pi_model.specs.declared.numbers.NameNo.{NameNo}
use Rattle.pi_model.specs.declared.describe.MethodDesc.{MethodDesc}
use Rattle.pi_model.specs.Known.{descriptor_of}
use Rattle.pi_model.specs.Program.{Program}
use Rattle.pi_model.specs.Search.{Member, in_class, find_method, searched_class}
use Rattle.pi_model.specs.Dispatch.{is_virtual, dispatch}
use Rattle.pi_model.proofs.Samples.{Hold, object, a, b, c, i, int, long, ints, arrays_of_a, m, n, constructor, class, interface, method, method_ref, program}

-- a list of the one method m, with flags
abbrev one : ℕ → List MethodDesc
one flags = method m flags ∷ []

-- Object, the interface I with a method m, A that implements it, B below A, and C below B without methods
abbrev family : List MethodDesc → List MethodDesc → List MethodDesc → Program
family of_object of_a of_b = program (
    class object None [] [] of_object
    ∷ interface i (Some object) [] (one 1025)
    ∷ class a (Some object) (i ∷ []) [] of_a
    ∷ class b (Some a) [] [] of_b
    ∷ class c (Some b) [] [] []
    ∷ [])

-- what a call of m reaches from a class; the class that the instruction names does not matter
abbrev reached : Program → ℕ → Option Member
reached p from = dispatch p (method_ref object m) from

-- what a call of m reaches from a type
abbrev reached_from : Program → NameNo → Option Member
reached_from p ty = option_and_then (reached p) (searched_class p ty)

-- the nearest class from the receiver's upward that has the method, over any number of classes without it
nearest : Hold (
    (reached (family (one 1) (one 1) (one 1)) 3, Some (in_class 3 0))
    ∷ (reached (family (one 1) (one 1) (one 1)) 4, Some (in_class 3 0))
    ∷ (reached (family (one 1) (one 1) (one 1)) 2, Some (in_class 2 0))
    ∷ (reached (family (one 1) [] []) 4, Some (in_class 0 0))
    ∷ [])
unfolding is_virtual
nearest = refl

-- static and private methods and those of another name are passed over, and an abstract one is reached as any other
passed_over : Hold (
    (reached (family [] (one 1) (one 9)) 3, Some (in_class 2 0))
    ∷ (reached (family [] (one 1) (one 2)) 4, Some (in_class 2 0))
    ∷ (reached (family [] (one 1) (one 1025)) 4, Some (in_class 3 0))
    ∷ (reached (family [] (one 1) (method n 1 ∷ method m 1 ∷ [])) 4, Some (in_class 3 1))
    ∷ [])
unfolding is_virtual
passed_over = refl

-- a method of another result or other parameters is another one, and what an interface declares and a constructor are
-- not looked at
not_reached : Hold (
    (dispatch (family [] [] (one 1)) (record { class = b; name = m; params = []; ret = long }) 3, None)
    ∷ (dispatch (family [] [] (one 1)) (record { class = b; name = m; params = int ∷ []; ret = int }) 3, None)
    ∷ (reached (family [] [] []) 2, None)
    ∷ (dispatch (family [] [] (method constructor 1 ∷ [])) (method_ref b constructor) 3, None)
    ∷ [])
unfolding is_virtual
not_reached = refl

-- though a search by name finds these two
found_by_name : Hold (
    (find_method (family [] [] []) (method_ref a m), Some (in_class 1 0))
    ∷ (find_method (family [] [] (method constructor 1 ∷ [])) (method_ref b constructor), Some (in_class 3 0))
    ∷ [])
found_by_name = refl

-- a class's own type begins at the class, and an array of primitives or of arrays at Object
from_types : Hold (
    (reached_from (family (one 1) (one 1) []) b, Some (in_class 2 0))
    ∷ (reached_from (family (one 1) (one 1) []) ints, Some (in_class 0 0))
    ∷ (reached_from (family (one 1) (one 1) []) arrays_of_a, Some (in_class 0 0))
    ∷ [])
unfolding descriptor_of is_virtual
from_types = refl
