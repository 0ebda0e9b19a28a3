-- The place of a thing in a list: a list that grows at its end keeps the place of what is there.
use Rattle.std.proofs.Common.{◌≡◌, ◌+◌, List, [], ◌∷◌, ◌++◌, length, take, drop, Bool, true, false, cond, refl, ap, sym, ◌∙◌}
use Rattle.std.specs.Prelude.{◌||◌, not, if◌then◌else◌}
use Rattle.std.specs.List.{list_any, position_or_len}
use Rattle.std.proofs.Math.Seq.{take-length, take-append_seam}
use Rattle.std.proofs.lemmas.List.{take-append-drop}
use Rattle.pi_dexpools.specs.Gathered.{with_new}

place_before : {A : Type 0} (p : A → Bool) (xs zs : List A) → list_any p xs ≡ true → position_or_len p (xs ++ zs) ≡ position_or_len p xs
place_before p [] zs h = absurd (cc)
place_before p (x ∷ xs) zs h = by_test (place_before p xs zs) (p x) h
  where
    by_test : (list_any p xs ≡ true → position_or_len p (xs ++ zs) ≡ position_or_len p xs) → (b : Bool) → (b || list_any p xs) ≡ true → cond (not b) (1 + position_or_len p (xs ++ zs)) 0 ≡ cond (not b) (1 + position_or_len p xs) 0
    by_test rest true e = refl
    by_test rest false e = ap (λ n. 1 + n) (rest e)

grown_is : {A : Type 0} (xs ys : List A) → take (length xs) ys ≡ xs → ys ≡ xs ++ drop (length xs) ys
grown_is xs ys e = sym (take-append-drop (length xs) ys) ∙ ap (λ l. l ++ drop (length xs) ys) e

pub place_grown : {A : Type 0} (p : A → Bool) (xs ys : List A) → take (length xs) ys ≡ xs → list_any p xs ≡ true → position_or_len p ys ≡ position_or_len p xs
place_grown p xs ys e h = ap (position_or_len p) (grown_is xs ys e) ∙ place_before p xs (drop (length xs) ys) h

-- a thing that is added stands behind what was there before
pub start_new : {A : Type 0} (same : A → A → Bool) (xs : List A) (x : A) → take (length xs) (with_new same xs x) ≡ xs
start_new same xs x = by_test (list_any (same x) xs)
  where
    by_test : (b : Bool) → take (length xs) (if b then xs else xs ++ x ∷ []) ≡ xs
    by_test true = take-length xs
    by_test false = take-append_seam xs (x ∷ [])
