-- What a list keeps when its elements stand in another order: the tests that all of them pass, and that no two are the same.
use Rattle.std.proofs.Common.{◌≡◌, ℕ, zero, suc, ◌<◌, Bool, true, false, List, [], ◌∷◌, length, get_or, inl, inr, ◌⊎◌, refl, ap, ◌∙◌, arith}
use Rattle.std.specs.List.{All, list_all, list_any, swap}
use Rattle.std.specs.List.Sorted.{IsPermutation}
use Rattle.std.proofs.lemmas.Bool.{or_parts, cases_eq}
use Rattle.std.proofs.lemmas.List.Edits.{Swapped, swapped_from_swap, length-swap}
use Rattle.std.proofs.lemmas.List.Elements.{All-nil, All-cons}
use Rattle.std.proofs.lemmas.List.Folds.{list_any_none}
use Rattle.std.proofs.lemmas.List.Sorted.{All-permutation, IsPermutation-keeps}
use Rattle.std.proofs.lemmas.List.Sums.{AllPass-from_list_all, list_all-from_AllPass}
use Rattle.pi_model.specs.Distinct.{all_distinct}
use Rattle.pi_said.proofs.Lists.{distinct_parts, distinct_from}

pub tests_reordered : {A : Type 0} (p : A → Bool) (xs ys : List A) → IsPermutation xs ys → list_all p xs ≡ true → list_all p ys ≡ true
tests_reordered p xs ys moved h = list_all-from_AllPass p ys (All-permutation (λ x. p x ≡ true) xs ys moved (AllPass-from_list_all p xs h))

-- where none is found, each fails the test
none_passes : {A : Type 0} (p : A → Bool) (xs : List A) → list_any p xs ≡ false → All (λ x. p x ≡ false) xs
none_passes p [] h = All-nil (λ x. p x ≡ false)
none_passes p (x ∷ xs) h =
    let parts = or_parts (p x) (list_any p xs) h in
    All-cons (λ y. p y ≡ false) x xs parts.0 (none_passes p xs parts.1)

-- where an element stood before two of them changed places
Source : ℕ → ℕ → ℕ → ℕ → Type 0
Source a b k m = ((k ≡ a) × (m ≡ b)) ⊎ (((k ≡ b) × (m ≡ a)) ⊎ ((k ≡ a → ⊥) × (k ≡ b → ⊥) × (m ≡ k)))

source_of : {A : Type 0} (f g : ℕ → A) (n a b k : ℕ) → a < n → b < n → k < n → Swapped f g a b → (m : ℕ) × (m < n) × (g k ≡ f m) × Source a b k m
unfolding Source
source_of f g n a b k in_a in_b here moved =
    elim (cases_eq k a) [
      | inl e ↦ (b, in_b, ap g e ∙ moved.0, inl (e, refl))
      | inr other ↦ elim (cases_eq k b) [
        | inl e ↦ (a, in_a, ap g e ∙ moved.1, inr (inl (e, refl)))
        | inr none ↦ (k, here, moved.2 k other none, inr (inr (other, none, refl)))
      ]
    ]

sources_apart : (a b i j m n : ℕ) → Source a b i m → Source a b j n → m ≡ n → i ≡ j
unfolding Source
sources_apart a b i j m n f g e = grind arith

module _ {A : Type 0} (same : A → A → Bool) (back : (x y : A) → same x y ≡ same y x) where
  -- any two elements differ, whichever stands first
  Differ : List A → Type 0
  Differ xs = (i j : ℕ) (d : A) → i < length xs → j < length xs → (i ≡ j → ⊥) → same (get_or xs i d) (get_or xs j d) ≡ false

  differ_from_distinct : (xs : List A) → all_distinct same xs ≡ true → Differ xs
  unfolding Differ
  differ_from_distinct [] h i j d left right other = absurd (omega arith)
  differ_from_distinct (x ∷ xs) h zero zero d left right other = absurd (other refl)
  differ_from_distinct (x ∷ xs) h zero (suc j) d left right other =
      none_passes (same x) xs (distinct_parts same x xs h).0 j d (omega arith)
  differ_from_distinct (x ∷ xs) h (suc i) zero d left right other =
      back (get_or xs i d) x ∙ none_passes (same x) xs (distinct_parts same x xs h).0 i d (omega arith)
  differ_from_distinct (x ∷ xs) h (suc i) (suc j) d left right other =
      differ_from_distinct xs (distinct_parts same x xs h).1 i j d (omega arith) (omega arith) (λ e. other (ap suc e))

  distinct_from_differ : (xs : List A) → Differ xs → all_distinct same xs ≡ true
  unfolding Differ
  distinct_from_differ [] h = refl
  distinct_from_differ (x ∷ xs) h =
      distinct_from same x xs
      (list_any_none (same x) xs (λ k d lt. h 0 (suc k) d (omega arith) (omega arith) (λ e. omega arith)))
      (distinct_from_differ xs (λ i j d left right other. h (suc i) (suc j) d (omega arith) (omega arith) (λ e. other (omega arith))))

  differ_swapped : (xs : List A) (a b : ℕ) → a < length xs → b < length xs → Differ xs → Differ (swap xs a b)
  unfolding Differ
  differ_swapped xs a b in_a in_b h i j d left right other =
      let long : length (swap xs a b) ≡ length xs = length-swap xs a b in
      let moved = swapped_from_swap xs (swap xs a b) a b d in_a in_b refl in
      let first = source_of (λ k. get_or xs k d) (λ k. get_or (swap xs a b) k d) (length xs) a b i in_a in_b (omega arith) moved in
      let second = source_of (λ k. get_or xs k d) (λ k. get_or (swap xs a b) k d) (length xs) a b j in_a in_b (omega arith) moved in
      let apart = h first.0 second.0 d first.1 second.1 (λ e. other (sources_apart a b i j first.0 second.0 first.3 second.3 e)) in
      rw (first.2, second.2) apart

  -- so no two are the same in another order
  pub distinct_reordered : (xs ys : List A) → IsPermutation xs ys → all_distinct same xs ≡ true → all_distinct same ys ≡ true
  distinct_reordered xs ys moved h =
      distinct_from_differ ys (IsPermutation-keeps xs Differ (differ_from_distinct xs h) (λ zs a b in_a in_b. differ_swapped zs a b in_a in_b) ys moved)
