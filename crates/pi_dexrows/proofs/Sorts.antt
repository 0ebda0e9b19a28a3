-- A stable sort by a number arranges.
use Rattle.std.proofs.Common.{◌≡◌, ℕ, List, nat_cmp}
use Rattle.std.specs.Fn.{Called, ComputesKey}
use Rattle.std.specs.List.Sorted.{IsSortedByKey, IsStableByKey}
use Rattle.std.proofs.lemmas.Fn.{always_returns_same}
use Rattle.std.proofs.lemmas.Cmp.{nat_cmp_total, on_total}
use denote.Param.Members.{Mut}
use denote.Ref.{Bor}
use Rattle.pi_classtables.specs.Sorted.{arranged}
use Rattle.pi_classtables.proofs.Arranged.{arranged_is}

pub arranged_by_key : {X : Type 0} (n : X → ℕ) {F : Type 0} {g : Mut F (Bor X × Unit {0}) ℕ} {f : F} (xs ys : List X)
    → ((key : X → ℕ) → ComputesKey g key f → IsSortedByKey key nat_cmp ys)
    → ((key : X → ℕ) → ComputesKey g key f → IsStableByKey key nat_cmp xs ys)
    → ((a : Bor X × Unit {0}) (r : ℕ) (f' : F) → Called g f a r f' → (r ≡ n a.0.now) × (f' ≡ f))
    → ys ≡ arranged (λ x y. nat_cmp (n x) (n y)) xs
arranged_by_key n {g = g} {f = f} xs ys sorted stable h =
    let by = always_returns_same g (λ a r. r ≡ n a.0.now) f h in
    arranged_is (on_total n nat_cmp_total) xs ys (sorted n by) (stable n by)
