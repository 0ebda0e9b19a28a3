-- Members numbered over the classes in order.
use Rattle.std.proofs.Common.{◌≡◌, ℕ, zero, suc, ◌+◌, ◌<◌, List, [], ◌∷◌, take, sum_by, slice_get, Some, IsSomeAnd, arith, refl, ◌∙◌}
use Rattle.std.proofs.lemmas.List.Sums.{sum_by-cons}
use Rattle.std.proofs.lemmas.Bool.{lt-ltb, le-ltb}
use Rattle.std.proofs.Math.Nat.{add-sub_cancel_left}
use Rattle.pi_model.specs.declared.describe.ClassDesc.{ClassDesc}
use Rattle.pi_model.specs.Search.{member_by, in_class}

-- a member's number is below the count of all members
pub below_all : {X : Type 0} (f : X → ℕ) (xs : List X) (c i : ℕ) → IsSomeAnd (slice_get xs c) (λ x. i < f x) → sum_by f (take c xs) + i < sum_by f xs
below_all f [] c i h = absurd h
below_all f (x ∷ xs) zero i h = omega (arith, sum_by-cons f x xs, h)
below_all f (x ∷ xs) (suc c) i h =
    omega (arith, sum_by-cons f x xs, sum_by-cons f x (take c xs), below_all f xs c i h)

-- a small number is of the first class
member_here : (f : ClassDesc → ℕ) (d : ClassDesc) (ds : List ClassDesc) (c n : ℕ) → n < f d → member_by f (d ∷ ds) c n ≡ Some (in_class c n)
member_here f d ds c n h = rw (lt-ltb n (f d) h) refl

-- a number behind the first class's members is of a later class
member_after : (f : ClassDesc → ℕ) (d : ClassDesc) (ds : List ClassDesc) (c n : ℕ) → member_by f (d ∷ ds) c (f d + n) ≡ member_by f ds (c + 1) n
member_after f d ds c n = rw (le-ltb (f d + n) (f d) (omega arith), add-sub_cancel_left (f d) n) refl

-- the number of a member leads back to it
pub member_back : (f : ClassDesc → ℕ) (ds : List ClassDesc) (first c i n k : ℕ) → IsSomeAnd (slice_get ds c) (λ d. i < f d) → n ≡ sum_by f (take c ds) + i → k ≡ first + c → member_by f ds first n ≡ Some (in_class k i)
member_back f [] first c i n k h e at = absurd h
member_back f (d ∷ ds) first zero i n k h e at =
    let same : n ≡ i = omega arith in
    let here : k ≡ first = omega arith in
    rw (same, here) (member_here f d ds first i h)
member_back f (d ∷ ds) first (suc c) i n k h e at =
    let parts : n ≡ f d + (sum_by f (take c ds) + i) = omega (arith, sum_by-cons f d (take c ds)) in
    rw parts (member_after f d ds first (sum_by f (take c ds) + i) ∙ member_back f ds (first + 1) c i (sum_by f (take c ds) + i) k h refl (omega arith))
