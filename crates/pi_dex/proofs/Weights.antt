-- Sums of what a file brings, one thing after another.
use Rattle.std.proofs.Common.{◌≡◌, ℕ, zero, suc, ◌+◌, ◌-◌, ◌<◌, ◌≤◌, Bool, true, false, nat_lt, nat_cmp, Less, Equal, Greater, List, [], ◌∷◌, length, drop, get_or, map, Some, refl, sym, ap, ◌∙◌, arith}
use Rattle.std.specs.Prelude.{◌==◌, cond, sum_by, slice_get, Result, Ok, Err, IfOk}
use Rattle.std.specs.List.{HoldsAt}
use Rattle.std.proofs.lemmas.Bool.Decides.{nat_tests}
use Rattle.std.proofs.Math.ListN.{drop_of_length-le}
use Rattle.std.proofs.lemmas.List.Sums.{sum_by-drop_more, sum_by-cons}
use Rattle.pi_format.specs.Rules.Lowest.{tabulation}

-- one more of the things of a list
pub sum_goes : {A : Type 0} (f : A → ℕ) (total : ℕ) (xs : List A) (i : ℕ) (x : A) → i < length xs → x ≡ get_or xs i x
    → (total + f x) + sum_by f (drop (i + 1) xs) ≡ total + sum_by f (drop i xs)
sum_goes f total xs i x lt is =
    let more : sum_by f (drop i xs) ≡ f x + sum_by f (drop (i + 1) xs) =
    sum_by-drop_more f xs i x lt ∙ ap (λ y. f y + sum_by f (drop (i + 1) xs)) (sym is) in
    omega (arith, more)

pub sum_ends : {A : Type 0} (f : A → ℕ) (total : ℕ) (xs : List A) (i : ℕ) → length xs ≤ i → total + sum_by f (drop i xs) ≡ total
sum_ends f total xs i le = rw (drop_of_length-le xs le) (omega arith)

-- one more of them, by the way in which a walk lends its pieces
pub piece_goes : {A : Type 0} (f : A → ℕ) (total : ℕ) (xs : List A) (i : ℕ) (x : A) → slice_get xs i ≡ Some x
    → (total + f x) + sum_by f (drop (i + 1) xs) ≡ total + sum_by f (drop i xs)
piece_goes f total [] i x e = cc
piece_goes f total (y ∷ ys) zero x e =
    let is : y ≡ x = cc in
    omega (arith, sum_by-cons f y ys, ap f is)
piece_goes f total (y ∷ ys) (suc i) x e =
    let place : suc i + 1 ≡ suc (i + 1) = omega arith in
    ap (λ j. (total + f x) + sum_by f (drop j (y ∷ ys))) place ∙ piece_goes f total ys i x e

-- what is known of a code item that was searched for
pub known_weight : (w : ℕ → ℕ) (codes weights : List ℕ) (k at : ℕ) → weights ≡ map w codes → k < length codes → HoldsAt (λ y. nat_cmp y at ≡ Equal) codes k
    → get_or weights k 0 ≡ w at
known_weight w codes weights k at are lt found =
    let same : get_or codes k 0 ≡ at = equal (get_or codes k 0) at (found 0) in
    ap (λ (xs : List ℕ). get_or xs k 0) are ∙ mapped codes k lt ∙ ap w same
  where
    equal : (a b : ℕ) → nat_cmp a b ≡ Equal → a ≡ b
    equal a b e = by_test (nat_lt a b) refl (a == b) refl e
      where
        by_test : (t : Bool) → nat_lt a b ≡ t → (u : Bool) → (a == b) ≡ u → cond t Less (cond u Equal Greater) ≡ Equal → a ≡ b
        by_test true l u m e = cc
        by_test false l true m e = grind (arith, nat_tests)
        by_test false l false m e = cc

    mapped : (xs : List ℕ) (j : ℕ) → j < length xs → get_or (map w xs) j 0 ≡ w (get_or xs j 0)
    mapped [] j lt = absurd (omega arith)
    mapped (x ∷ xs) zero lt = refl
    mapped (x ∷ xs) (suc j) lt = mapped xs j (omega arith)

-- a sum in other words
pub sum_is : {E : Type 0} (r : Result ℕ E) (a b : ℕ) → a ≡ b → IfOk r (λ s. s ≡ a) → IfOk r (λ s. s ≡ b)
sum_is (Ok s) a b e is = is ∙ e
sum_is (Err e) a b same is = _

-- one more number
pub number_goes : (f : ℕ → ℕ) (total i n : ℕ) → i < n
    → (total + f i) + sum_by f (tabulation (λ k. k) (i + 1) (n - (i + 1))) ≡ total + sum_by f (tabulation (λ k. k) i (n - i))
number_goes f total i n lt =
    let more : n - i ≡ suc (n - (i + 1)) = omega arith in
    let first : sum_by f (tabulation (λ k. k) i (n - i)) ≡ f i + sum_by f (tabulation (λ k. k) (i + 1) (n - (i + 1))) =
    ap (λ m. sum_by f (tabulation (λ k. k) i m)) more ∙ sum_by-cons f i (tabulation (λ k. k) (i + 1) (n - (i + 1))) in
    omega (arith, first)

pub numbers_end : (f : ℕ → ℕ) (total i n : ℕ) → n ≤ i → total + sum_by f (tabulation (λ k. k) i (n - i)) ≡ total
numbers_end f total i n le =
    let none : n - i ≡ zero = omega arith in
    rw none (omega arith)
