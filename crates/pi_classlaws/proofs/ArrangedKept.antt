-- What a list that is arranged keeps of the list: its elements, in the order of another list whose elements rank alike.
use Rattle.std.proofs.Common.{◌≡◌, ℕ, Bool, true, List, [], ◌∷◌, length, map, Ordering, Less, Equal, Greater, nat_cmp, refl, sym, ap, ◌∙◌, subst, arith}
use Rattle.std.specs.List.{All, list_all, list_any}
use Rattle.std.specs.List.Sorted.{IsPermutation, IsNonDecreasing}
use Rattle.std.proofs.lemmas.Cmp.{nat_cmp_total}
use Rattle.std.proofs.lemmas.List.Elements.{All-head, All-tail, All-weaker}
use Rattle.std.proofs.lemmas.List.Sorted.{IsPermutation-refl, IsPermutation-sym, IsPermutation-cons, IsPermutation-swap, IsPermutation-trans, length_permutation, list_any-IsPermutation, IsNonDecreasingBy-from_sort}
use Rattle.pi_model.specs.Distinct.{all_distinct}
use Rattle.pi_classtables.specs.Sorted.{with_first, arranged}
use Rattle.pi_classtables.proofs.Arranged.{all_arranged, arranged_in_order}
use Rattle.pi_classlaws.proofs.Reordered.{tests_reordered, distinct_reordered}

module _ {A : Type 0} (cmp : A → A → Ordering) where
  moved_first : (x : A) (ys : List A) → IsPermutation (x ∷ ys) (with_first cmp x ys)
  moved_first x [] = IsPermutation-refl (x ∷ [])
  moved_first x (y ∷ ys) = by_order (cmp x y) refl (moved_first x ys)
    where
      by_order : (o : Ordering) → cmp x y ≡ o → IsPermutation (x ∷ ys) (with_first cmp x ys) → IsPermutation (x ∷ y ∷ ys) (with_first cmp x (y ∷ ys))
      by_order Less e more = rw e (IsPermutation-refl (x ∷ y ∷ ys))
      by_order Equal e more = rw e (IsPermutation-refl (x ∷ y ∷ ys))
      by_order Greater e more =
          let turned : IsPermutation (x ∷ y ∷ ys) (y ∷ x ∷ ys) = IsPermutation-swap (x ∷ y ∷ ys) (y ∷ x ∷ ys) 0 1 (omega arith) (omega arith) refl in
          rw e
          (IsPermutation-trans (x ∷ y ∷ ys) (y ∷ x ∷ ys) (y ∷ with_first cmp x ys) turned (IsPermutation-cons y (x ∷ ys) (with_first cmp x ys) more))

  pub arranged_moved : (xs : List A) → IsPermutation xs (arranged cmp xs)
  arranged_moved [] = IsPermutation-refl []
  arranged_moved (x ∷ xs) =
      IsPermutation-trans (x ∷ xs) (x ∷ arranged cmp xs) (with_first cmp x (arranged cmp xs))
      (IsPermutation-cons x xs (arranged cmp xs) (arranged_moved xs)) (moved_first x (arranged cmp xs))

  -- so it has as many, and they pass the tests that those of the list pass
  pub length-arranged : (xs : List A) → length (arranged cmp xs) ≡ length xs
  length-arranged xs = length_permutation xs (arranged cmp xs) (arranged_moved xs)

  module _ (p : A → Bool) where
    pub tests_arranged : (xs : List A) → list_all p xs ≡ true → list_all p (arranged cmp xs) ≡ true
    tests_arranged xs h = tests_reordered p xs (arranged cmp xs) (arranged_moved xs) h

    pub tests_from_arranged : (xs : List A) → list_all p (arranged cmp xs) ≡ true → list_all p xs ≡ true
    tests_from_arranged xs h = tests_reordered p (arranged cmp xs) xs (IsPermutation-sym xs (arranged cmp xs) (arranged_moved xs)) h

    pub any_arranged : (xs : List A) → list_any p (arranged cmp xs) ≡ list_any p xs
    any_arranged xs = sym (list_any-IsPermutation p xs (arranged cmp xs) (arranged_moved xs))

  -- and no two of them are the same if no two of the list are
  pub distinct_arranged : (same : A → A → Bool) → ((x y : A) → same x y ≡ same y x) → (xs : List A)
      → all_distinct same xs ≡ true → all_distinct same (arranged cmp xs) ≡ true
  distinct_arranged same back xs h = distinct_reordered same back xs (arranged cmp xs) (arranged_moved xs) h

-- the images of elements are arranged as the elements are, if the elements are compared by their images
module _ {A B : Type 0} (f : A → B) (cmp : B → B → Ordering) where
  abbrev by_image : A → A → Ordering
  by_image x y = cmp (f x) (f y)

  map_with_first : (x : A) (ys : List A) → map f (with_first by_image x ys) ≡ with_first cmp (f x) (map f ys)
  map_with_first x [] = refl
  map_with_first x (y ∷ ys) = by_order (cmp (f x) (f y)) refl (map_with_first x ys)
    where
      by_order : (o : Ordering) → cmp (f x) (f y) ≡ o → map f (with_first by_image x ys) ≡ with_first cmp (f x) (map f ys)
          → map f (with_first by_image x (y ∷ ys)) ≡ with_first cmp (f x) (map f (y ∷ ys))
      by_order Less e more = rw e refl
      by_order Equal e more = rw e refl
      by_order Greater e more = rw e (ap (λ (zs : List B). f y ∷ zs) more)

  pub map_arranged : (xs : List A) → map f (arranged (λ a b. cmp (f a) (f b)) xs) ≡ arranged cmp (map f xs)
  map_arranged [] = refl
  map_arranged (x ∷ xs) = map_with_first x (arranged by_image xs) ∙ ap (with_first cmp (f x)) (map_arranged xs)

-- two orders that agree on all elements of a list arrange it alike
module _ {A : Type 0} (cmp other : A → A → Ordering) where
  with_first_agrees : (x : A) (ys : List A) → All (λ y. cmp x y ≡ other x y) ys → with_first cmp x ys ≡ with_first other x ys
  with_first_agrees x [] agree = refl
  with_first_agrees x (y ∷ ys) agree =
      by_order (other x y) refl (All-head (λ z. cmp x z ≡ other x z) y ys agree)
      (with_first_agrees x ys (All-tail (λ z. cmp x z ≡ other x z) y ys agree))
    where
      by_order : (o : Ordering) → other x y ≡ o → cmp x y ≡ other x y → with_first cmp x ys ≡ with_first other x ys
          → with_first cmp x (y ∷ ys) ≡ with_first other x (y ∷ ys)
      by_order Less e same more = rw (same, e) refl
      by_order Equal e same more = rw (same, e) refl
      by_order Greater e same more = rw (same, e) (ap (λ (zs : List A). y ∷ zs) more)

  pub arranged_agrees : (xs : List A) → All (λ x. All (λ y. cmp x y ≡ other x y) xs) xs → arranged cmp xs ≡ arranged other xs
  arranged_agrees [] agree = refl
  arranged_agrees (x ∷ xs) agree =
      let first = All-tail (λ y. cmp x y ≡ other x y) x xs (All-head (λ z. All (λ y. cmp z y ≡ other z y) (x ∷ xs)) x xs agree) in
      let others = All-tail (λ z. All (λ y. cmp z y ≡ other z y) (x ∷ xs)) x xs agree in
      let rest = arranged_agrees xs
      (All-weaker (λ z. All (λ y. cmp z y ≡ other z y) (x ∷ xs)) (λ z. All (λ y. cmp z y ≡ other z y) xs)
      (λ z all. All-tail (λ y. cmp z y ≡ other z y) x xs all) xs others) in
      with_first_agrees x (arranged cmp xs) (all_arranged cmp (λ y. cmp x y ≡ other x y) xs first) ∙ ap (with_first other x) rest

-- numbers that are arranged do not fall
numbers_rise : (ns : List ℕ) → IsNonDecreasing (arranged nat_cmp ns)
numbers_rise ns = IsNonDecreasingBy-from_sort (λ (n : ℕ). n) (arranged nat_cmp ns) (arranged_in_order nat_cmp_total ns)

-- so keys do not fall along elements that are arranged by them
pub keys_rise : {A : Type 0} (cmp : A → A → Ordering) (key : A → ℕ) (xs : List A)
    → All (λ x. All (λ y. cmp x y ≡ nat_cmp (key x) (key y)) xs) xs → IsNonDecreasing (map key (arranged cmp xs))
keys_rise {A = A} cmp key xs agree =
    let same : map key (arranged cmp xs) ≡ arranged nat_cmp (map key xs) =
    ap (map key) (arranged_agrees cmp (λ (x y : A). nat_cmp (key x) (key y)) xs agree) ∙ map_arranged key nat_cmp xs in
    subst IsNonDecreasing (sym same) (numbers_rise (map key xs))
