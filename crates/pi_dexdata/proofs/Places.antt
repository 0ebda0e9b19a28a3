-- The place of the first element that passes a test, in a list that grows at its end.
use Rattle.std.proofs.Common.{◌≡◌, ◌+◌, ◌<◌, List, [], ◌∷◌, ◌++◌, length, Bool, true, false, Some, None, refl, ap, ◌∙◌, arith}
use Rattle.std.specs.Prelude.{◌||◌, position, unwrap_or, not, if◌then◌else◌}
use Rattle.std.specs.List.{list_any, position_or_len}
use Rattle.std.proofs.lemmas.Bool.{lt-ltb}
use Rattle.std.proofs.lemmas.List.Folds.{list_any-append}

-- a first place is in the list exactly where some element passes
place_below : {X : Type 0} (p : X → Bool) (xs : List X) → list_any p xs ≡ true → position_or_len p xs < length xs
place_below p [] found = cc
place_below p (x ∷ xs) found = by_test (p x) found (place_below p xs)
  where
    by_test : (b : Bool) → (b || list_any p xs) ≡ true → (list_any p xs ≡ true → position_or_len p xs < length xs)
        → (if not b then 1 + position_or_len p xs else 0) < length (x ∷ xs)
    by_test true found later = omega arith
    by_test false found later = let below : position_or_len p xs < length xs = later found in omega arith

pub place_past : {X : Type 0} (p : X → Bool) (xs : List X) → list_any p xs ≡ false → position_or_len p xs ≡ length xs
place_past p [] none = refl
place_past p (x ∷ xs) none = by_test (p x) none (place_past p xs)
  where
    by_test : (b : Bool) → (b || list_any p xs) ≡ false → (list_any p xs ≡ false → position_or_len p xs ≡ length xs)
        → (if not b then 1 + position_or_len p xs else 0) ≡ length (x ∷ xs)
    by_test true none later = cc
    by_test false none later = let past : position_or_len p xs ≡ length xs = later none in omega arith

-- where some element passes, no later one matters
pub place_front : {X : Type 0} (p : X → Bool) (xs ys : List X) → list_any p xs ≡ true → position_or_len p (xs ++ ys) ≡ position_or_len p xs
place_front p [] ys found = cc
place_front p (x ∷ xs) ys found = by_test (p x) found (place_front p xs ys)
  where
    by_test : (b : Bool) → (b || list_any p xs) ≡ true → (list_any p xs ≡ true → position_or_len p (xs ++ ys) ≡ position_or_len p xs)
        → (if not b then 1 + position_or_len p (xs ++ ys) else 0) ≡ (if not b then 1 + position_or_len p xs else 0)
    by_test true found later = refl
    by_test false found later = ap (λ k. 1 + k) (later found)

-- where none passes, the first place among more of them is behind these
pub place_behind : {X : Type 0} (p : X → Bool) (xs : List X) (y : X) → list_any p xs ≡ false → p y ≡ true
    → position_or_len p (xs ++ y ∷ []) ≡ length xs
place_behind p [] y none passes = ap (λ b. if not b then 1 + 0 else 0) passes
place_behind p (x ∷ xs) y none passes = by_test (p x) none (place_behind p xs y)
  where
    by_test : (b : Bool) → (b || list_any p xs) ≡ false
        → (list_any p xs ≡ false → p y ≡ true → position_or_len p (xs ++ y ∷ []) ≡ length xs)
        → (if not b then 1 + position_or_len p (xs ++ y ∷ []) else 0) ≡ length (x ∷ xs)
    by_test true none later = cc
    by_test false none later = let past : position_or_len p (xs ++ y ∷ []) ≡ length xs = later none passes in omega arith

-- a place in the list is what a search answers
pub found_at : {X : Type 0} (p : X → Bool) (xs : List X) → list_any p xs ≡ true → unwrap_or (position p xs) 0 ≡ position_or_len p xs
found_at p xs found =
    ap (λ b. unwrap_or (if b then Some (position_or_len p xs) else None) 0) (lt-ltb (position_or_len p xs) (length xs) (place_below p xs found))

pub any_front : {X : Type 0} (p : X → Bool) (xs ys : List X) → list_any p xs ≡ true → list_any p (xs ++ ys) ≡ true
any_front p xs ys found = list_any-append p xs ys ∙ ap (λ b. b || list_any p ys) found

pub any_behind : {X : Type 0} (p : X → Bool) (xs : List X) (y : X) → p y ≡ true → list_any p (xs ++ y ∷ []) ≡ true
any_behind p xs y passes = list_any-append p xs (y ∷ []) ∙ by_tests (list_any p xs) (p y) passes
  where
    by_tests : (a b : Bool) → b ≡ true → (a || (b || false)) ≡ true
    by_tests true b passes = refl
    by_tests false b passes = ap (λ c. c || false) passes
