-- Lemmas on lists.
use Rattle.std.proofs.Common.{◌≡◌, ℕ, zero, suc, Bool, true, false, List, [], ◌∷◌, Some, IsTrue, rules, subst}
use Rattle.std.specs.Prelude.{slice_get, IsTrue}
use Rattle.std.specs.List.{list_all}
use Rattle.pi_machine.proofs.Truths.{both, some_same}

-- what a test holds of all elements, it holds of each
pub list_all-get : {A : Type 0} (p : A → Bool) (xs : List A) (i : ℕ) (x : A) → list_all p xs ≡ true → slice_get xs i ≡ Some x → p x ≡ true
list_all-get p [] i x all at = cc
list_all-get p (y ∷ ys) zero x all at = subst (λ z. p z ≡ true) (some_same y x at) (both (p y) (list_all p ys) all).0
list_all-get p (y ∷ ys) (suc i) x all at = list_all-get p ys i x (both (p y) (list_all p ys) all).1 at

-- a test that computes to true holds
pub is_true : (b : Bool) → b ≡ true → IsTrue b
is_true true e = search rules
is_true false e = cc
