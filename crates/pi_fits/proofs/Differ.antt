-- Texts that are distinct, one more at a time.
use Rattle.std.proofs.Common.{◌≡◌, ℕ, ◌+◌, ◌<◌, List, [], ◌∷◌, ◌++◌, length, get_or, take, drop, Bool, true, false, refl, sym, ◌∙◌}
use Rattle.std.proofs.Common.{inl, inr}
use Rattle.std.proofs.Math.Bool.{or-false}
use Rattle.std.proofs.lemmas.Bool.{eq-eqb, ne_eqb}
use Rattle.std.proofs.lemmas.Bool.Decides.{eqb_tells}
use Rattle.std.proofs.lemmas.List.{take_more, take-append-drop}
use Rattle.std.proofs.lemmas.List.Folds.{list_any-append}
use Rattle.std.specs.Prelude.{◌==◌, ◌||◌, if◌then◌else◌}
use Rattle.std.specs.List.{list_any}
use Rattle.pi_model.specs.Distinct.{all_distinct}
use Rattle.pi_model.specs.Texts.{same_text}

eq_other : (x y : ℕ) → (x == y) ≡ (y == x)
eq_other x y =
    elim (eqb_tells x y) [
      | inl (e, same) ↦ e ∙ sym (eq-eqb y x (sym same))
      | inr (e, other) ↦ e ∙ sym (ne_eqb y x (λ (back : y ≡ x). other (sym back)))
    ]

same_other : (a b : List ℕ) → same_text a b ≡ same_text b a
same_other [] [] = refl
same_other [] (y ∷ b) = refl
same_other (x ∷ a) [] = refl
same_other (x ∷ a) (y ∷ b) = rw (eq_other x y, same_other a b) refl

by_tests : (a b c d : Bool) → (if a || b then false else if c then false else d) ≡ (if b || c then false else if a then false else d)
by_tests true true c d = refl
by_tests true false true d = refl
by_tests true false false d = refl
by_tests false true c d = refl
by_tests false false true d = refl
by_tests false false false d = refl

-- behind distinct texts one that is none of them
one_more : (xs : List (List ℕ)) (x : List ℕ) → all_distinct same_text (xs ++ x ∷ []) ≡ (if list_any (same_text x) xs then false else all_distinct same_text xs)
one_more [] x = refl
one_more (y ∷ ys) x =
    rw (list_any-append (same_text y) ys (x ∷ []), or-false (same_text y x), same_other y x, one_more ys x)
    (by_tests (list_any (same_text y) ys) (same_text x y) (list_any (same_text x) ys) (all_distinct same_text ys))

pub next_distinct : (xs : List (List ℕ)) (i : ℕ) (x : List ℕ) → i < length xs → x ≡ get_or xs i x → list_any (same_text x) (take i xs) ≡ false
    → all_distinct same_text (take i xs) ≡ true → all_distinct same_text (take (i + 1) xs) ≡ true
next_distinct xs i x h e absent distinct =
    rw (take_more xs i x h, ← e, one_more (take i xs) x, absent, distinct) refl

-- where the first are not distinct, all are not
by_first : (b c d : Bool) → (if b then false else c) ≡ false → (c ≡ false → d ≡ false) → (other : Bool) → (if b || other then false else d) ≡ false
by_first true c d e more other = refl
by_first false c d e more true = refl
by_first false c d e more false = more e

front_twice : (xs ys : List (List ℕ)) → all_distinct same_text xs ≡ false → all_distinct same_text (xs ++ ys) ≡ false
front_twice [] ys e = cc
front_twice (x ∷ xs) ys e =
    rw (list_any-append (same_text x) xs ys)
    (by_first (list_any (same_text x) xs) (all_distinct same_text xs) (all_distinct same_text (xs ++ ys)) e (front_twice xs ys) (list_any (same_text x) ys))

pub twice_there : (xs : List (List ℕ)) (i : ℕ) (x : List ℕ) → i < length xs → x ≡ get_or xs i x → list_any (same_text x) (take i xs) ≡ true
    → all_distinct same_text xs ≡ false
twice_there xs i x h e there =
    let first : all_distinct same_text (take (i + 1) xs) ≡ false = rw (take_more xs i x h, ← e, one_more (take i xs) x, there) refl in
    rw take-append-drop at (front_twice (take (i + 1) xs) (drop (i + 1) xs) first)

-- one more text that is known
pub known_more : (xs : List (List ℕ)) (i : ℕ) (x units : List ℕ) (old new : List (List ℕ)) → i < length xs → x ≡ get_or xs i x → units ≡ x
    → old ≡ take i xs → all_distinct same_text (take i xs) ≡ true → new ≡ old ++ units ∷ [] → list_any (same_text units) old ≡ false
    → (new ≡ take (i + 1) xs) × (all_distinct same_text (take (i + 1) xs) ≡ true)
known_more xs i x units old new h e is known distinct more absent = (
  more ∙ rw (known, is, take_more xs i x h, ← e) refl,
  next_distinct xs i x h e (rw (known, is) at absent) distinct,
)
