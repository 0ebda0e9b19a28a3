-- What holds of each element of a list, or of each number below a bound.
use Rattle.std.proofs.Common.{◌≡◌, ℕ, zero, suc, ◌+◌, ◌<◌, ◌≤◌, List, get_or, Some, None, Bool, true, false, refl, sym, subst, arith}
use Rattle.std.specs.Prelude.{◌||◌, All, slice_get}
use Rattle.std.proofs.lemmas.Option.{slice_get_within, get_or_from_slice_get}
use Rattle.pi_format.specs.Rules.Entries.{first_bad, some_from, each_from}
use Rattle.pi_format.proofs.Every.{all_at}

-- what holds of each element holds of one
pub all_got : {X : Type 0} (P : X → Type 0) (xs : List X) (i : ℕ) (x : X) → All P xs → slice_get xs i ≡ Some x → P x
all_got P xs i x all e = all_at P xs i x all (slice_get_within xs i x e) (sym (get_or_from_slice_get xs i x x e))

-- what always holds holds of each
pub all_always : {X : Type 0} (P : X → Type 0) (xs : List X) → ((x : X) → P x) → All P xs
all_always P xs always k d lt = always (get_or xs k d)

-- what holds of n numbers from i on holds of the first, and of those behind it
abbrev From : (ℕ → Type 0) → ℕ → ℕ → Type 0
From P i n = (k : ℕ) → i ≤ k → k < i + n → P k

first_of : (P : ℕ → Type 0) (i n : ℕ) → From P i (suc n) → P i
first_of P i n h = h i (omega arith) (omega arith)

rest_of : (P : ℕ → Type 0) (i n : ℕ) → From P i (suc n) → From P (i + 1) n
rest_of P i n h k le lt = h k (omega (arith, le)) (omega (arith, lt))

all_below : (P : ℕ → Type 0) (n : ℕ) → ((k : ℕ) → k < n → P k) → From P 0 n
all_below P n h k le lt = h k (omega (arith, lt))

-- a test that holds of each number below a bound
each_true_from : (test : ℕ → Bool) (i n : ℕ) → From (λ k. test k ≡ true) i n → each_from test i n ≡ true
each_true_from test i zero h = refl
each_true_from test i (suc n) h = rw (first_of (λ k. test k ≡ true) i n h, each_true_from test (i + 1) n (rest_of (λ k. test k ≡ true) i n h)) refl

pub each_true : (test : ℕ → Bool) (n : ℕ) → ((k : ℕ) → k < n → test k ≡ true) → each_from test 0 n ≡ true
each_true test n h = each_true_from test 0 n (all_below (λ k. test k ≡ true) n h)

none_bad_from : (test : ℕ → Bool) (i n : ℕ) → From (λ k. test k ≡ true) i n → first_bad test i n ≡ None
none_bad_from test i zero h = refl
none_bad_from test i (suc n) h = rw (first_of (λ k. test k ≡ true) i n h) (none_bad_from test (i + 1) n (rest_of (λ k. test k ≡ true) i n h))

pub none_bad : (test : ℕ → Bool) (n : ℕ) → ((k : ℕ) → k < n → test k ≡ true) → first_bad test 0 n ≡ None
none_bad test n h = none_bad_from test 0 n (all_below (λ k. test k ≡ true) n h)

-- one that holds of none
some_false_from : (test : ℕ → Bool) (i n : ℕ) → From (λ k. test k ≡ false) i n → some_from test i n ≡ false
some_false_from test i zero h = refl
some_false_from test i (suc n) h = rw (first_of (λ k. test k ≡ false) i n h, some_false_from test (i + 1) n (rest_of (λ k. test k ≡ false) i n h)) refl

pub some_false : (test : ℕ → Bool) (n : ℕ) → ((k : ℕ) → k < n → test k ≡ false) → some_from test 0 n ≡ false
some_false test n h = some_false_from test 0 n (all_below (λ k. test k ≡ false) n h)

-- and one that holds of one
or_true : (a b : Bool) → b ≡ true → (a || b) ≡ true
or_true true b e = refl
or_true false b e = e

some_true_from : (test : ℕ → Bool) (i n k : ℕ) → k < n → test (i + k) ≡ true → some_from test i n ≡ true
some_true_from test i zero k lt e = absurd (omega arith)
some_true_from test i (suc n) zero lt e =
    let same : i + 0 ≡ i = omega arith in
    let here : test i ≡ true = subst (λ (j : ℕ). test j ≡ true) same e in
    rw here refl
some_true_from test i (suc n) (suc k) lt e =
    let place : i + suc k ≡ i + 1 + k = omega arith in
    or_true (test i) (some_from test (i + 1) n) (some_true_from test (i + 1) n k (omega (arith, lt)) (subst (λ (j : ℕ). test j ≡ true) place e))

pub some_true : (test : ℕ → Bool) (n k : ℕ) → k < n → test k ≡ true → some_from test 0 n ≡ true
some_true test n k lt e = (let same : k ≡ 0 + k = omega arith in some_true_from test 0 n k lt (subst (λ (j : ℕ). test j ≡ true) same e))
