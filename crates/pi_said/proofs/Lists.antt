-- Lists by number, and lists without equal elements.
use Rattle.std.proofs.Common.{◌≡◌, ℕ, zero, suc, ◌+◌, ◌<◌, ◌≤◌, not, cond, List, [], ◌∷◌, ◌++◌, length, filter, map, Bool, true, false, inl, inr, refl, ◌∙◌, subst, arith, get_or}
use Rattle.std.specs.List.{list_all, list_any, flat_map}
use Rattle.std.proofs.lemmas.Bool.{and_parts, and_from, or_parts, or_from, cases_Bool, cases_lt, not-true, not_from_false}
use Rattle.std.proofs.lemmas.List.Folds.{list_all-append, list_any-append}
use Rattle.pi_model.specs.Distinct.{all_distinct}
use Rattle.pi_format.specs.Rules.Lowest.{tabulation}

pub length-listed : {A : Type 0} (f : ℕ → A) (i n : ℕ) → length (tabulation f i n) ≡ n
length-listed f i zero = refl
length-listed f i (suc n) = omega (arith, length-listed f (i + 1) n)

pub get_or-listed : {A : Type 0} (f : ℕ → A) (i n k : ℕ) (d : A) → k < n → get_or (tabulation f i n) k d ≡ f (i + k)
get_or-listed f i zero k d lt = absurd (omega arith)
get_or-listed f i (suc n) zero d lt = let here : i ≡ i + 0 = omega arith in ap_at f here
  where
    ap_at : {A : Type 0} (f : ℕ → A) {i j : ℕ} → i ≡ j → f i ≡ f j
    ap_at f e = cc
get_or-listed f i (suc n) (suc k) d lt =
    let place : i + 1 + k ≡ i + suc k = omega arith in
    subst (λ (j : ℕ). get_or (tabulation f (i + 1) n) k d ≡ f j) place (get_or-listed f (i + 1) n k d (omega arith))

-- what a function gives passes a test
pub listed_all : {A : Type 0} (p : A → Bool) (f : ℕ → A) (i n : ℕ) → ((k : ℕ) → k < i + n → p (f k) ≡ true) → list_all p (tabulation f i n) ≡ true
listed_all p f i zero each = refl
listed_all p f i (suc n) each =
    and_from (p (f i)) (list_all p (tabulation f (i + 1) n)) (each i (omega arith))
    (listed_all p f (i + 1) n (λ k lt. each k (omega arith)))

listed_none : {A : Type 0} (p : A → Bool) (f : ℕ → A) (i n : ℕ) → ((k : ℕ) → i ≤ k → k < i + n → p (f k) ≡ false) → list_any p (tabulation f i n) ≡ false
listed_none p f i zero each = refl
listed_none p f i (suc n) each =
    or_from (p (f i)) (list_any p (tabulation f (i + 1) n)) (each i (omega arith) (omega arith))
    (listed_none p f (i + 1) n (λ k le lt. each k (omega arith) (omega arith)))

pub distinct_from : {A : Type 0} (same : A → A → Bool) (x : A) (xs : List A) → list_any (same x) xs ≡ false → all_distinct same xs ≡ true → all_distinct same (x ∷ xs) ≡ true
distinct_from same x xs e h = rw e h

pub distinct_parts : {A : Type 0} (same : A → A → Bool) (x : A) (xs : List A) → all_distinct same (x ∷ xs) ≡ true → (list_any (same x) xs ≡ false) × (all_distinct same xs ≡ true)
distinct_parts same x xs h =
    elim (cases_Bool (list_any (same x) xs)) [
      | inl e ↦ let k : false ≡ true = rw e at h in cc
      | inr e ↦ let k : all_distinct same xs ≡ true = rw e at h in (e, k)
    ]

-- what a function gives is distinct, where what it gives for two numbers differs
pub listed_distinct : {A : Type 0} (same : A → A → Bool) (f : ℕ → A) (i n : ℕ) → ((j k : ℕ) → j < k → k < i + n → same (f j) (f k) ≡ false) → all_distinct same (tabulation f i n) ≡ true
listed_distinct same f i zero apart = refl
listed_distinct same f i (suc n) apart =
    distinct_from same (f i) (tabulation f (i + 1) n)
    (listed_none (same (f i)) f (i + 1) n (λ k le lt. apart i k (omega arith) (omega arith)))
    (listed_distinct same f (i + 1) n (λ j k less lt. apart j k less (omega arith)))

-- no element of a list is the same as one of another
abbrev pub apart : {A : Type 0} → (A → A → Bool) → List A → List A → Bool
apart same xs ys = list_all (λ x. not (list_any (same x) ys)) xs

-- two distinct lists that stand apart make a distinct one
pub distinct-append : {A : Type 0} (same : A → A → Bool) (xs ys : List A) → all_distinct same xs ≡ true → all_distinct same ys ≡ true → apart same xs ys ≡ true → all_distinct same (xs ++ ys) ≡ true
distinct-append same [] ys f g h = g
distinct-append same (x ∷ xs) ys f g h =
    let first = distinct_parts same x xs f in
    let parts = and_parts (not (list_any (same x) ys)) (apart same xs ys) h in
    distinct_from same x (xs ++ ys)
    (list_any-append (same x) xs ys ∙ or_from (list_any (same x) xs) (list_any (same x) ys) first.0 (not-true (list_any (same x) ys) parts.0))
    (distinct-append same xs ys first.1 g parts.1)

-- what passes a test stays distinct, and passes it
none-filter : {A : Type 0} (p q : A → Bool) (xs : List A) → list_any q xs ≡ false → list_any q (filter p xs) ≡ false
none-filter p q [] h = refl
none-filter p q (x ∷ xs) h =
    let parts = or_parts (q x) (list_any q xs) h in
    let rest = none-filter p q xs parts.1 in
    elim (p x) as (λ v. list_any q (cond v (x ∷ filter p xs) (filter p xs)) ≡ false) [
      | true ↦ or_from (q x) (list_any q (filter p xs)) parts.0 rest
      | false ↦ rest
    ]

pub distinct-filter : {A : Type 0} (same : A → A → Bool) (p : A → Bool) (xs : List A) → all_distinct same xs ≡ true → all_distinct same (filter p xs) ≡ true
distinct-filter same p [] h = refl
distinct-filter same p (x ∷ xs) h =
    let parts = distinct_parts same x xs h in
    let rest = distinct-filter same p xs parts.1 in
    elim (p x) as (λ v. all_distinct same (cond v (x ∷ filter p xs) (filter p xs)) ≡ true) [
      | true ↦ distinct_from same x (filter p xs) (none-filter p (same x) xs parts.0) rest
      | false ↦ rest
    ]

pub filter_passes : {A : Type 0} (p : A → Bool) (xs : List A) → list_all p (filter p xs) ≡ true
filter_passes p [] = refl
filter_passes p (x ∷ xs) =
    let rest = filter_passes p xs in
    elim (cases_Bool (p x)) [
      | inl e ↦ rw e (and_from (p x) (list_all p (filter p xs)) e rest)
      | inr e ↦ rw e rest
    ]

pub length-filter_le : {A : Type 0} (p : A → Bool) (xs : List A) → length (filter p xs) ≤ length xs
length-filter_le p [] = omega arith
length-filter_le p (x ∷ xs) =
    let rest = length-filter_le p xs in
    elim (p x) as (λ v. length (cond v (x ∷ filter p xs) (filter p xs)) ≤ length (x ∷ xs)) [
      | true ↦ omega arith
      | false ↦ omega arith
    ]

-- lists that stand apart one way stand apart the other way
apart_head : {A : Type 0} (same : A → A → Bool) → ((a b : A) → same a b ≡ same b a) → (x : A) (xs ys : List A)
    → list_all (λ y. not (list_any (same y) (x ∷ xs))) ys ≡ true → (list_any (same x) ys ≡ false) × (list_all (λ y. not (list_any (same y) xs)) ys ≡ true)
apart_head same back x xs [] h = (refl, refl)
apart_head same back x xs (y ∷ ys) h =
    let parts = and_parts (not (list_any (same y) (x ∷ xs))) (list_all (λ z. not (list_any (same z) (x ∷ xs))) ys) h in
    let here = or_parts (same y x) (list_any (same y) xs) (not-true (list_any (same y) (x ∷ xs)) parts.0) in
    let rest = apart_head same back x xs ys parts.1 in (
      or_from (same x y) (list_any (same x) ys) (back x y ∙ here.0) rest.0,
      and_from (not (list_any (same y) xs)) (list_all (λ z. not (list_any (same z) xs)) ys) (not_from_false (list_any (same y) xs) here.1) rest.1,
    )

pub apart_back : {A : Type 0} (same : A → A → Bool) → ((a b : A) → same a b ≡ same b a) → (xs ys : List A) → apart same ys xs ≡ true → apart same xs ys ≡ true
apart_back same back [] ys h = refl
apart_back same back (x ∷ xs) ys h =
    let parts = apart_head same back x xs ys h in
    and_from (not (list_any (same x) ys)) (apart same xs ys) (not_from_false (list_any (same x) ys) parts.0) (apart_back same back xs ys parts.1)

-- what rises from each number to the next rises from each to any later one
pub rises : {A : Type 0} (R : A → A → Type 0) → ((x y z : A) → R x y → R y z → R x z) → (f : ℕ → A) (n : ℕ)
    → ((k : ℕ) → suc k < n → R (f k) (f (suc k))) → (j k : ℕ) → j < k → k < n → R (f j) (f k)
rises R trans f n next j zero less lt = absurd (omega arith)
rises R trans f n next j (suc k) less lt =
    elim (cases_lt j k) [
      | inl earlier ↦ trans (f j) (f k) (f (suc k)) (rises R trans f n next j k earlier (omega arith)) (next k lt)
      | inr le ↦ let same : k ≡ j = omega arith in subst (λ (i : ℕ). R (f i) (f (suc k))) same (next k lt)
    ]

-- a test of the images of a list, and of the lists that its elements give
pub map_all : {A B : Type 0} (p : B → Bool) (f : A → B) (xs : List A) → ((x : A) → p (f x) ≡ true) → list_all p (map f xs) ≡ true
map_all p f [] each = refl
map_all p f (x ∷ xs) each = and_from (p (f x)) (list_all p (map f xs)) (each x) (map_all p f xs each)

pub append_all : {A : Type 0} (p : A → Bool) (xs ys : List A) → list_all p xs ≡ true → list_all p ys ≡ true → list_all p (xs ++ ys) ≡ true
append_all p xs ys f g = list_all-append p xs ys ∙ and_from (list_all p xs) (list_all p ys) f g

pub flat_map_all : {A B : Type 0} (p : B → Bool) (f : A → List B) (xs : List A) → ((x : A) → list_all p (f x) ≡ true) → list_all p (flat_map f xs) ≡ true
flat_map_all p f [] each = refl
flat_map_all p f (x ∷ xs) each = append_all p (f x) (flat_map f xs) (each x) (flat_map_all p f xs each)
