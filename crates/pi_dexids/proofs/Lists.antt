-- Lists of facts, as they are filled.
use Rattle.std.proofs.Common.{◌≡◌, ◌≢◌, ℕ, zero, suc, ◌+◌, ◌<◌, ◌≤◌, List, [], ◌∷◌, ◌++◌, length, Some, Bool, true, false, refl, sym, ap, ◌∙◌, arith, subst}
use Rattle.std.specs.Prelude.{◌==◌, slice_get, slice_set}
use Rattle.std.proofs.lemmas.List.{length_push}
use Rattle.std.proofs.lemmas.Bool.Decides.{nat_tests}
use Rattle.pi_dexids.specs.Facts.{AreFacts}

-- what a list has stands in it
pub inside : {A : Type 0} (xs : List A) (k : ℕ) (x : A) → slice_get xs k ≡ Some x → k < length xs
inside [] k x e = cc
inside (y ∷ xs) zero x e = omega arith
inside (y ∷ xs) (suc k) x e =
    let rest = inside xs k x e in
    omega arith

get_append : {A : Type 0} (xs ys : List A) (n : ℕ) → n < length xs → slice_get (xs ++ ys) n ≡ slice_get xs n
get_append [] ys n h = absurd (omega arith)
get_append (x ∷ xs) ys zero h = refl
get_append (x ∷ xs) ys (suc n) h = get_append xs ys n (omega arith)

get_seam : {A : Type 0} (xs : List A) (y : A) (n : ℕ) → n ≡ length xs → slice_get (xs ++ y ∷ []) n ≡ Some y
get_seam [] y n e = rw e refl
get_seam (x ∷ xs) y zero e = absurd (omega arith)
get_seam (x ∷ xs) y (suc n) e = get_seam xs y n (omega arith)

-- one more fact at the end
pub facts_pushed : {A : Type 0} (f : ℕ → A) (n : ℕ) (list : List A) (x : A) → AreFacts f n list → x ≡ f n → AreFacts f (n + 1) (list ++ x ∷ [])
facts_pushed f n list x facts e = record {
  counted = length_push list x ∙ ap (λ k. k + 1) facts.counted;
  each = λ k lt. by_test k lt (k == n) refl;
}
  where
    by_test : (k : ℕ) → k < n + 1 → (b : Bool) → (k == n) ≡ b → slice_get (list ++ x ∷ []) k ≡ Some (f k)
    by_test k lt true q =
        let same : k ≡ n = grind (arith, nat_tests) in
        get_seam list x k (same ∙ sym facts.counted) ∙ ap Some (e ∙ ap f (sym same))
    by_test k lt false q =
        let below : k < n = grind (arith, nat_tests) in
        let inside : k < length list = omega (arith, facts.counted) in
        get_append list (x ∷ []) k inside ∙ facts.each k below

pub no_facts : {A : Type 0} (f : ℕ → A) → AreFacts f 0 []
no_facts f = record { counted = refl; each = λ k lt. absurd (omega arith) }

pub get_set_same : {A : Type 0} (xs : List A) (i : ℕ) (y : A) → i < length xs → slice_get (slice_set xs i y) i ≡ Some y
get_set_same [] i y lt = absurd (omega arith)
get_set_same (x ∷ xs) zero y lt = refl
get_set_same (x ∷ xs) (suc i) y lt = get_set_same xs i y (omega arith)

pub get_set_other : {A : Type 0} (xs : List A) (i : ℕ) (y : A) (j : ℕ) → j ≢ i → slice_get (slice_set xs i y) j ≡ slice_get xs j
get_set_other [] i y j e = refl
get_set_other (x ∷ xs) zero y zero e = absurd (e refl)
get_set_other (x ∷ xs) zero y (suc j) e = refl
get_set_other (x ∷ xs) (suc i) y zero e = refl
get_set_other (x ∷ xs) (suc i) y (suc j) e = get_set_other xs i y j (λ q. e (ap (λ n. suc n) q))

pub length_set : {A : Type 0} (xs : List A) (i : ℕ) (y : A) → length (slice_set xs i y) ≡ length xs
length_set [] i y = refl
length_set (x ∷ xs) zero y = refl
length_set (x ∷ xs) (suc i) y = ap (λ n. suc n) (length_set xs i y)

-- one fact is set: it becomes the new one, and the others are the old ones
pub facts_set : {A : Type 0} (f g : ℕ → A) (n i : ℕ) (list : List A) (y : A) → AreFacts f n list → y ≡ g i
    → ((k : ℕ) → k ≢ i → f k ≡ g k) → AreFacts g n (slice_set list i y)
facts_set f g n i list y facts e others = record {
  counted = length_set list i y ∙ facts.counted;
  each = λ k below. by_test k below (k == i) refl;
}
  where
    by_test : (k : ℕ) → k < n → (b : Bool) → (k == i) ≡ b → slice_get (slice_set list i y) k ≡ Some (g k)
    by_test k below true q =
        let same : k ≡ i = grind (arith, nat_tests) in
        let inside : i < length list = omega (arith, facts.counted, same, below) in
        subst (λ (j : ℕ). slice_get (slice_set list i y) j ≡ Some (g j)) (sym same) (get_set_same list i y inside ∙ ap Some e)
    by_test k below false q =
        let apart : k ≢ i = λ s. grind (arith, nat_tests) in
        get_set_other list i y k apart ∙ facts.each k below ∙ ap Some (others k apart)

pub some_is : {A : Type 0} {x y : A} → Some x ≡ Some y → x ≡ y
some_is e = cc

-- what a list of facts has for a number is the fact
pub fact_is : {A : Type 0} (f : ℕ → A) (n : ℕ) (list : List A) (k : ℕ) (x : A) → AreFacts f n list → k < n → slice_get list k ≡ Some x → x ≡ f k
fact_is f n list k x facts lt e = some_is (sym e ∙ facts.each k lt)

pub set_past : {A : Type 0} (xs : List A) (i : ℕ) (y : A) → length xs ≤ i → slice_set xs i y ≡ xs
set_past [] i y le = refl
set_past (x ∷ xs) zero y le = absurd (omega arith)
set_past (x ∷ xs) (suc i) y le = ap (λ zs. x ∷ zs) (set_past xs i y (omega arith))

-- the same facts
pub facts_same : {A : Type 0} (f g : ℕ → A) (n : ℕ) (list : List A) → AreFacts f n list → ((k : ℕ) → f k ≡ g k) → AreFacts g n list
facts_same f g n list facts same = record { counted = facts.counted; each = λ k lt. facts.each k lt ∙ ap Some (same k) }
