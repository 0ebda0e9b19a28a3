-- The lowest of places, one after another, and of the same things in other lists.
use Rattle.std.proofs.Common.{◌≡◌, ℕ, zero, suc, ◌+◌, ◌<◌, ◌≤◌, List, [], ◌∷◌, ◌++◌, length, drop, get_or, Option, Some, None, Bool, true, false, refl, sym, ap, ◌∙◌, arith, subst, add-zero}
use Rattle.std.specs.Prelude.{nat_le, if◌then◌else◌}
use Rattle.std.specs.List.{All, Contains}
use Rattle.std.proofs.Math.ListN.{drop_of_length-le}
use Rattle.std.proofs.lemmas.Bool.Decides.{nat_tests}
use Rattle.std.proofs.lemmas.List.{drop_more}
use Rattle.pi_format.specs.Rules.Lowest.{lower, lowest_from, lowest_of}
use Rattle.pi_format.proofs.Every.{all_nothing, all_more}
use Rattle.pi_format.proofs.Loops.{lower_none, lower_assoc}

-- one more of the things of a list
pub of_goes : {A : Type 0} (place : A → Option ℕ) (low : Option ℕ) (x : A) (xs : List A)
    → lower (lower low (place x)) (lowest_of place xs) ≡ lower low (lowest_of place (x ∷ xs))
of_goes place low x xs = lower_assoc low (place x) (lowest_of place xs)

pub of_append : {A : Type 0} (place : A → Option ℕ) (xs ys : List A) → lowest_of place (xs ++ ys) ≡ lower (lowest_of place xs) (lowest_of place ys)
of_append place [] ys = refl
of_append place (x ∷ xs) ys = ap (lower (place x)) (of_append place xs ys) ∙ sym (lower_assoc (place x) (lowest_of place xs) (lowest_of place ys))

-- an element that is there is none of a default
pub same_default : (xs : List ℕ) (j a b : ℕ) → j < length xs → get_or xs j a ≡ get_or xs j b
same_default [] j a b lt = absurd (omega arith)
same_default (x ∷ xs) zero a b lt = refl
same_default (x ∷ xs) (suc j) a b lt = same_default xs j a b (omega arith)

-- what stands behind i elements begins with the next one
pub drop_at : {A : Type 0} (xs : List A) (i : ℕ) (x : A) → i < length xs → x ≡ get_or xs i x → drop i xs ≡ x ∷ drop (i + 1) xs
drop_at xs i x lt is = drop_more xs i x lt ∙ ap (λ y. y ∷ drop (i + 1) xs) (sym is)

pub items_go : {A : Type 0} (place : A → Option ℕ) (low : Option ℕ) (xs : List A) (i : ℕ) (x : A) → i < length xs → x ≡ get_or xs i x
    → lower (lower low (place x)) (lowest_of place (drop (i + 1) xs)) ≡ lower low (lowest_of place (drop i xs))
items_go place low xs i x lt is =
    of_goes place low x (drop (i + 1) xs) ∙ ap (λ ys. lower low (lowest_of place ys)) (sym (drop_at xs i x lt is))

pub items_end : {A : Type 0} (place : A → Option ℕ) (low : Option ℕ) (xs : List A) (i : ℕ) → length xs ≤ i → lower low (lowest_of place (drop i xs)) ≡ low
items_end place low xs i le = rw (drop_of_length-le xs le) (lower_none low)

-- where there is no lowest place, there is none at all
none_lower : (a b : Option ℕ) → lower a b ≡ None → (a ≡ None) × (b ≡ None)
none_lower None b e = (refl, e)
none_lower (Some a) None e = cc
none_lower (Some a) (Some b) e = by_test (nat_le a b) e
  where
    by_test : (t : Bool) → (if t then Some a else Some b) ≡ None → (Some a ≡ None) × (Some b ≡ None)
    by_test true e = cc
    by_test false e = cc

from_none : (place : ℕ → Option ℕ) (i n : ℕ) → lowest_from place i n ≡ None → (k : ℕ) → k < n → place (i + k) ≡ None
from_none place i zero e k lt = absurd (omega arith)
from_none place i (suc n) e zero lt = rw (add-zero i) ((none_lower (place i) (lowest_from place (i + 1) n) e).0)
from_none place i (suc n) e (suc k) lt =
    let at : i + 1 + k ≡ i + suc k = omega arith in
    subst (λ (j : ℕ). place j ≡ None) at (from_none place (i + 1) n ((none_lower (place i) (lowest_from place (i + 1) n) e).1) k (omega arith))

pub none_from : (place : ℕ → Option ℕ) (n : ℕ) → lowest_from place 0 n ≡ None → (i : ℕ) → i < n → place i ≡ None
none_from place n e i lt =
    let at : 0 + i ≡ i = omega arith in
    subst (λ (j : ℕ). place j ≡ None) at (from_none place 0 n e i lt)

pub none_of : {A : Type 0} (place : A → Option ℕ) (xs : List A) → lowest_of place xs ≡ None → All (λ x. place x ≡ None) xs
none_of place [] e = all_nothing (λ x. place x ≡ None)
none_of place (x ∷ xs) e =
    let both = none_lower (place x) (lowest_of place xs) e in
    all_more (λ y. place y ≡ None) x xs both.0 (none_of place xs both.1)

-- in any order
lower_two : (a b : ℕ) → lower (Some a) (Some b) ≡ lower (Some b) (Some a)
lower_two a b = grind (arith, nat_tests)

lower_comm : (a b : Option ℕ) → lower a b ≡ lower b a
lower_comm None b = sym (lower_none b)
lower_comm (Some a) None = refl
lower_comm (Some a) (Some b) = lower_two a b

lower_one : (a : ℕ) → lower (Some a) (Some a) ≡ Some a
lower_one a = grind (arith, nat_tests)

lower_self : (a : Option ℕ) → lower a a ≡ a
lower_self None = refl
lower_self (Some a) = lower_one a

lower_mixed : (a b c d : Option ℕ) → lower (lower a b) (lower c d) ≡ lower (lower a c) (lower b d)
lower_mixed a b c d =
    lower_assoc a b (lower c d)
    ∙ ap (lower a) (sym (lower_assoc b c d) ∙ ap (λ o. lower o d) (lower_comm b c) ∙ lower_assoc c b d)
    ∙ sym (lower_assoc a c (lower b d))

-- two places for each thing
pub of_both : {A : Type 0} (f g : A → Option ℕ) (xs : List A) → lowest_of (λ x. lower (f x) (g x)) xs ≡ lower (lowest_of f xs) (lowest_of g xs)
of_both f g [] = refl
of_both f g (x ∷ xs) = ap (lower (lower (f x) (g x))) (of_both f g xs) ∙ lower_mixed (f x) (g x) (lowest_of f xs) (lowest_of g xs)

pub from_both : (f g : ℕ → Option ℕ) (i n : ℕ) → lowest_from (λ k. lower (f k) (g k)) i n ≡ lower (lowest_from f i n) (lowest_from g i n)
from_both f g i zero = refl
from_both f g i (suc n) =
    ap (lower (lower (f i) (g i))) (from_both f g (i + 1) n) ∙ lower_mixed (f i) (g i) (lowest_from f (i + 1) n) (lowest_from g (i + 1) n)

pub from_same : (f g : ℕ → Option ℕ) → ((k : ℕ) → f k ≡ g k) → (i n : ℕ) → lowest_from f i n ≡ lowest_from g i n
from_same f g is i zero = refl
from_same f g is i (suc n) = rw (is i, from_same f g is (i + 1) n) refl

pub of_same : {A : Type 0} (f g : A → Option ℕ) → ((x : A) → f x ≡ g x) → (xs : List A) → lowest_of f xs ≡ lowest_of g xs
of_same f g is [] = refl
of_same f g is (x ∷ xs) = rw (is x, of_same f g is xs) refl

-- no thing of a list has a lower place than the lowest
none_lower_than : (place : ℕ → Option ℕ) (xs : List ℕ) (x : ℕ) → Contains xs x → lower (lowest_of place xs) (place x) ≡ lowest_of place xs
none_lower_than place [] x c = absurd (omega (arith, c.1))
none_lower_than place (y ∷ ys) x (zero, lt, e) =
    let is : y ≡ x = e in
    lower_comm (lower (place y) (lowest_of place ys)) (place x)
    ∙ sym (lower_assoc (place x) (place y) (lowest_of place ys))
    ∙ ap (λ o. lower o (lowest_of place ys)) (ap (λ z. lower (place x) (place z)) is ∙ lower_self (place x) ∙ ap place (sym is))
none_lower_than place (y ∷ ys) x (suc k, lt, e) =
    lower_assoc (place y) (lowest_of place ys) (place x) ∙ ap (lower (place y)) (none_lower_than place ys x (k, omega arith, e))

absorbed : (place : ℕ → Option ℕ) (low : Option ℕ) (ys : List ℕ) → ((y : ℕ) → Contains ys y → lower low (place y) ≡ low) → lower low (lowest_of place ys) ≡ low
absorbed place low [] each = lower_none low
absorbed place low (y ∷ ys) each =
    sym (lower_assoc low (place y) (lowest_of place ys))
    ∙ ap (λ o. lower o (lowest_of place ys)) (each y (0, omega arith, refl))
    ∙ absorbed place low ys (λ z c. each z (suc c.0, omega (arith, c.1), c.2))

-- so lists of the same things have the same lowest place
pub same_lowest : (place : ℕ → Option ℕ) (xs ys : List ℕ) → ((x : ℕ) → Contains xs x → Contains ys x) → ((y : ℕ) → Contains ys y → Contains xs y)
    → lowest_of place xs ≡ lowest_of place ys
same_lowest place xs ys there back =
    sym (absorbed place (lowest_of place xs) ys (λ y c. none_lower_than place xs y (back y c)))
    ∙ lower_comm (lowest_of place xs) (lowest_of place ys)
    ∙ absorbed place (lowest_of place ys) xs (λ x c. none_lower_than place ys x (there x c))
