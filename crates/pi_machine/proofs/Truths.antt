-- Small facts about tests and optional values, for any crate above.
use Rattle.std.proofs.Common.{◌≡◌, ◌⊎◌, inl, inr, ℕ, Bool, true, false, Some, refl, arith}
use Rattle.std.proofs.lemmas.Bool.Decides.{nat_tests}
use Rattle.std.specs.Prelude.{◌==◌, ◌||◌, ◌&&◌, not}

pub both : (a b : Bool) → (a && b) ≡ true → (a ≡ true) × (b ≡ true)
both true b e = (refl, e)
both false b e = cc

pub either : (a b : Bool) → (a || b) ≡ true → (a ≡ true) ⊎ (b ≡ true)
either true b e = inl refl
either false b e = inr e

pub neither : (a b : Bool) → (a || b) ≡ false → (a ≡ false) × (b ≡ false)
neither true b e = cc
neither false b e = (refl, e)

pub not_false : (b : Bool) → not b ≡ true → b ≡ false
not_false true e = cc
not_false false e = refl

pub or_true : (a b : Bool) → b ≡ true → (a || b) ≡ true
or_true true b e = refl
or_true false b e = e

pub same_of : (a b : ℕ) → (a == b) ≡ true → a ≡ b
same_of a b e = grind (arith, nat_tests)

pub same_self : (a : ℕ) → (a == a) ≡ true
same_self a = grind (arith, nat_tests)

pub turned : (a b : ℕ) (x : Bool) → (a == b) ≡ x → (b == a) ≡ x
turned a b true e = grind (arith, nat_tests)
turned a b false e = grind (arith, nat_tests)

pub some_same : {A : Type 0} (x y : A) → Some x ≡ Some y → x ≡ y
some_same x y e = cc
