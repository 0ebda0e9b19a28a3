-- How many things a file brings: no more than its tables have entries, and each table lies in the file.
use Rattle.std.proofs.Common.{◌≡◌, ℕ, zero, suc, ◌+◌, ◌<◌, ◌≤◌, ◌&&◌, not, cond, List, [], ◌∷◌, length, Bool, true, false, inl, inr, refl, sym, subst, arith}
use Rattle.std.specs.Prelude.{◌==◌, nat_lt, nat_eq, sum_by}
use Rattle.std.specs.List.{list_all, list_any}
use Rattle.std.proofs.lemmas.Bool.{and_parts, and_from, or_parts, cases_Bool, cases_lt, eq-eqb, eqb-true, ltb-true}
use Rattle.std.proofs.lemmas.Bool.Decides.{nat_tests}
use Rattle.std.proofs.lemmas.List.Sums.{sum_by-cons}
use Rattle.pi_model.specs.Distinct.{all_distinct}
use Rattle.pi_format.specs.Rules.Lowest.{tabulation}
use Rattle.pi_said.proofs.Lists.{distinct_parts}

-- how many of the first n numbers pass a test
abbrev pub passing : (ℕ → Bool) → ℕ → ℕ
passing p zero = 0
passing p (suc n) = passing p n + cond (p n) 1 0

-- the same test, but for one number
abbrev without : (ℕ → Bool) → ℕ → ℕ → Bool
without p x k = p k && not (x == k)

other : (b : Bool) → (b && not false) ≡ b
other true = refl
other false = refl

passing_before : (p : ℕ → Bool) (x n : ℕ) → n ≤ x → passing (without p x) n ≡ passing p n
passing_before p x zero le = refl
passing_before p x (suc n) le =
    let no : (x == n) ≡ false = grind (arith, nat_tests) in
    let rest = passing_before p x n (omega arith) in
    let same : without p x n ≡ p n = rw no (other (p n)) in
    rw (rest, same) refl

-- one number less that passes
passing_less : (p : ℕ → Bool) (x n : ℕ) → x < n → p x ≡ true → passing (without p x) n + 1 ≡ passing p n
passing_less p x zero lt h = absurd (omega arith)
passing_less p x (suc n) lt h =
    elim (cases_lt x n) [
      | inl earlier ↦
          let rest = passing_less p x n earlier h in
          let no : (x == n) ≡ false = grind (arith, nat_tests) in
          let same : without p x n ≡ p n = rw no (other (p n)) in
          rw same (omega arith)
      | inr le ↦
          let here : x ≡ n = omega arith in
          let yes : (x == n) ≡ true = eq-eqb x n here in
          let passes : p n ≡ true = subst (λ (k : ℕ). p k ≡ true) here h in
          let gone : without p x n ≡ false = rw (yes, passes) refl in
          let rest = passing_before p x n le in
          rw (gone, passes) (omega arith)
    ]

-- the test of a key that is below a bound
abbrev pub fits : {A : Type 0} → (A → ℕ) → ℕ → (ℕ → Bool) → A → Bool
fits key n p x = nat_lt (key x) n && p (key x)

-- things whose keys are other ones than one fit without it
fit_without : {A : Type 0} (key : A → ℕ) (n : ℕ) (p : ℕ → Bool) (x : A) (xs : List A)
    → list_any (λ y. key x == key y) xs ≡ false → list_all (fits key n p) xs ≡ true → list_all (fits key n (without p (key x))) xs ≡ true
fit_without key n p x [] none all = refl
fit_without key n p x (y ∷ ys) none all =
    let apart = or_parts (key x == key y) (list_any (λ z. key x == key z) ys) none in
    let parts = and_parts (fits key n p y) (list_all (fits key n p) ys) all in
    let here = and_parts (nat_lt (key y) n) (p (key y)) parts.0 in
    let other : not (key x == key y) ≡ true = rw apart.0 refl in
    and_from (fits key n (without p (key x)) y) (list_all (fits key n (without p (key x))) ys)
    (and_from (nat_lt (key y) n) (without p (key x) (key y)) here.0 (and_from (p (key y)) (not (key x == key y)) here.1 other))
    (fit_without key n p x ys apart.1 parts.1)

-- there are no more things with distinct keys that pass than numbers that do
pub few_distinct : {A : Type 0} (key : A → ℕ) (n : ℕ) (p : ℕ → Bool) (xs : List A)
    → all_distinct (λ x y. key x == key y) xs ≡ true → list_all (fits key n p) xs ≡ true → length xs ≤ passing p n
few_distinct key n p [] distinct all = omega arith
few_distinct key n p (x ∷ xs) distinct all =
    let apart = distinct_parts (λ x y. key x == key y) x xs distinct in
    let parts = and_parts (fits key n p x) (list_all (fits key n p) xs) all in
    let here = and_parts (nat_lt (key x) n) (p (key x)) parts.0 in
    let rest = few_distinct key n (without p (key x)) xs apart.1 (fit_without key n p x xs apart.0 parts.1) in
    let less = passing_less p (key x) n (ltb-true (key x) n here.0) here.1 in
    omega arith

-- the owners of numbers: how many of the first n belong to an owner
abbrev pub owned : (ℕ → ℕ) → ℕ → ℕ → ℕ
owned of n owner = passing (λ k. of k == owner) n

sum_of_none : (owners : List ℕ) → sum_by (λ owner. 0) owners ≡ 0
sum_of_none [] = refl
sum_of_none (o ∷ os) = omega (arith, sum_by-cons (λ owner. 0) o os, sum_of_none os)

-- whether a number is that of an owner, as a count
abbrev is_owner : ℕ → ℕ → ℕ
is_owner o owner = cond (o == owner) 1 0

no_owner : (o : ℕ) (owners : List ℕ) → list_any (nat_eq o) owners ≡ false → sum_by (is_owner o) owners ≡ 0
no_owner o [] none = refl
no_owner o (x ∷ xs) none =
    let parts = or_parts (nat_eq o x) (list_any (nat_eq o) xs) none in
    let first : is_owner o x ≡ 0 = rw parts.0 refl in
    let rest : sum_by (is_owner o) xs ≡ 0 = no_owner o xs parts.1 in
    omega (arith, sum_by-cons (is_owner o) x xs)

-- one number has at most one of distinct owners
one_owner : (o : ℕ) (owners : List ℕ) → all_distinct nat_eq owners ≡ true → sum_by (is_owner o) owners ≤ 1
one_owner o [] distinct = omega arith
one_owner o (x ∷ xs) distinct =
    let parts = distinct_parts nat_eq x xs distinct in
    let rest : sum_by (is_owner o) xs ≤ 1 = one_owner o xs parts.1 in
    elim (cases_Bool (o == x)) [
      | inl e ↦
          let same : x ≡ o = sym (eqb-true o x e) in
          let others : sum_by (is_owner o) xs ≡ 0 = subst (λ (k : ℕ). sum_by (is_owner k) xs ≡ 0) same (no_owner x xs parts.0) in
          let first : is_owner o x ≡ 1 = rw e refl in
          omega (arith, sum_by-cons (is_owner o) x xs)
      | inr e ↦
          let first : is_owner o x ≡ 0 = rw e refl in
          omega (arith, sum_by-cons (is_owner o) x xs)
    ]

sum_of_both : {A : Type 0} (f g : A → ℕ) (xs : List A) → sum_by (λ x. f x + g x) xs ≡ sum_by f xs + sum_by g xs
sum_of_both f g [] = refl
sum_of_both f g (x ∷ xs) =
    omega (arith, sum_by-cons (λ x. f x + g x) x xs, sum_by-cons f x xs, sum_by-cons g x xs, sum_of_both f g xs)

-- distinct owners own no more numbers than there are
pub few_owned : (of : ℕ → ℕ) (n : ℕ) (owners : List ℕ) → all_distinct nat_eq owners ≡ true → sum_by (owned of n) owners ≤ n
few_owned of zero owners distinct = omega (arith, sum_of_none owners)
few_owned of (suc n) owners distinct =
    omega (arith, sum_of_both (owned of n) (is_owner (of n)) owners, few_owned of n owners distinct, one_owner (of n) owners distinct)

-- a sum over what a function gives, by a bound of each
pub sum-listed_le : {A B : Type 0} (f : A → ℕ) (g : B → ℕ) (a : ℕ → A) (b : ℕ → B) (i n : ℕ) → ((k : ℕ) → k < i + n → f (a k) ≤ g (b k))
    → sum_by f (tabulation a i n) ≤ sum_by g (tabulation b i n)
sum-listed_le f g a b i zero each = omega arith
sum-listed_le f g a b i (suc n) each =
    omega (
      arith,
      sum_by-cons f (a i) (tabulation a (i + 1) n),
      sum_by-cons g (b i) (tabulation b (i + 1) n),
      each i (omega arith),
      sum-listed_le f g a b (i + 1) n (λ k lt. each k (omega arith)),
    )
