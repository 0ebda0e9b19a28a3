-- Two lists of handlers are the same exactly where their numbers are.
use Rattle.std.proofs.Common.{◌≡◌, ℕ, ◌+◌, List, [], ◌∷◌, ◌++◌, map, Bool, true, false, Option, Some, None, refl, sym, ap, ap₂, ◌∙◌}
use Rattle.std.specs.Prelude.{◌==◌, ◌&&◌, ◌||◌, nat_eq, not, if◌then◌else◌}
use Rattle.std.specs.Cmp.Lexicographic.{pointwise}
use Rattle.std.specs.List.{flat_map, list_any, position_or_len}
use Rattle.std.proofs.lemmas.Bool.{and_right, eq-eqb}
use Rattle.std.proofs.Math.Bool.{and_assoc}
use Rattle.pi_dextables.specs.declared.tables.Catch.{Catch}
use Rattle.pi_dextables.specs.declared.tables.Catches.{Catches}
use Rattle.pi_classtables.specs.Ranges.{same_last, same_typed, same_catches}
use Rattle.pi_dexdata.specs.Grouped.{last_number, catch_numbers, spelled}

and_true : (b : Bool) → (b && true) ≡ b
and_true true = refl
and_true false = refl

same_numbers : (hs is : List Catch) (a b : Option ℕ)
    → pointwise nat_eq (flat_map catch_numbers hs ++ last_number a) (flat_map catch_numbers is ++ last_number b) ≡ (same_typed hs is && same_last a b)
same_numbers [] [] None None = refl
same_numbers [] [] None (Some b) = refl
same_numbers [] [] (Some a) None = refl
same_numbers [] [] (Some a) (Some b) = and_true (a == b)
same_numbers [] (i ∷ is) None b = refl
same_numbers [] (i ∷ is) (Some a) b = and_right (a == i.ty) false refl
same_numbers (h ∷ hs) [] a None = refl
same_numbers (h ∷ hs) [] a (Some b) = and_right (h.ty == b) false refl
same_numbers (h ∷ hs) (i ∷ is) a b =
    ap (λ r. (h.ty == i.ty) && ((h.to == i.to) && r)) (same_numbers hs is a b)
    ∙ ap (λ r. (h.ty == i.ty) && r) (sym (and_assoc (h.to == i.to) (same_typed hs is) (same_last a b)))
    ∙ sym (and_assoc (h.ty == i.ty) ((h.to == i.to) && same_typed hs is) (same_last a b))

same_spelled : (l m : Catches) → pointwise nat_eq (spelled l) (spelled m) ≡ same_catches l m
same_spelled l m = same_numbers l.typed m.typed l.last m.last

-- a search among numbers finds what one among lists finds
pub any_spelled : (l : Catches) (lists : List Catches) → list_any (pointwise nat_eq (spelled l)) (map spelled lists) ≡ list_any (same_catches l) lists
any_spelled l [] = refl
any_spelled l (m ∷ lists) = ap₂ (λ a b. a || b) (same_spelled l m) (any_spelled l lists)

pub place_spelled : (l : Catches) (lists : List Catches)
    → position_or_len (pointwise nat_eq (spelled l)) (map spelled lists) ≡ position_or_len (same_catches l) lists
place_spelled l [] = refl
place_spelled l (m ∷ lists) = ap₂ (λ b k. if not b then 1 + k else 0) (same_spelled l m) (place_spelled l lists)

-- each list is the same as itself
equal_itself : (n : ℕ) → (n == n) ≡ true
equal_itself n = eq-eqb n n refl

typed_itself : (hs : List Catch) → same_typed hs hs ≡ true
typed_itself [] = refl
typed_itself (h ∷ hs) = ap₂ (λ a b. a && b) (equal_itself h.ty) (ap₂ (λ a b. a && b) (equal_itself h.to) (typed_itself hs))

last_itself : (a : Option ℕ) → same_last a a ≡ true
last_itself None = refl
last_itself (Some a) = equal_itself a

pub same_itself : (l : Catches) → same_catches l l ≡ true
same_itself l = ap₂ (λ a b. a && b) (typed_itself l.typed) (last_itself l.last)
