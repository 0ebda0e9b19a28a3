-- What stands in a list in rising order, and at which place.
use Rattle.std.proofs.Common.{◌≡◌, ℕ, zero, suc, ◌<◌, true, Bool, List, [], ◌∷◌, length, get_or, Some, Ordering, Less, Equal, Greater, nat_cmp, ◌⊎◌, inl, inr, refl, sym, ap, ◌∙◌, subst, arith}
use Rattle.std.specs.Prelude.{slice_get}
use Rattle.std.specs.List.{All, Contains, list_all}
use Rattle.std.specs.List.Sorted.{IsStrictlySortedBy}
use Rattle.std.proofs.lemmas.Bool.{cases_order}
use Rattle.std.proofs.lemmas.Bool.Decides.{nat_tests}
use Rattle.std.proofs.lemmas.List.Elements.{recursion_from_All, All-nil, All-cons, All-head, All-tail, All-weaker, All-contains, All-contains_itself}
use Rattle.std.proofs.lemmas.List.Sums.{AllPass-from_list_all, list_all-from_AllPass}
use Rattle.std.proofs.lemmas.Map.Keys.{sorted_tail, Less-from_sorted}
use Rattle.std.proofs.lemmas.Map.Views.{All-after_first}
use Rattle.std.proofs.lemmas.Option.{get_or_from_slice_get}
use Rattle.pi_classtables.specs.Sorted.{with_placed, sorted, place_in}
use Rattle.pi_classtables.proofs.Orders.{IsExactOrder, equal_from_same, greater_back, less_back}

-- a list rises where its first thing is below the others, and these rise
pub rising_cons : {A : Type 0} (cmp : A → A → Ordering) (x : A) (xs : List A) → All (λ y. cmp x y ≡ Less) xs → IsStrictlySortedBy cmp xs → IsStrictlySortedBy cmp (x ∷ xs)
unfolding IsStrictlySortedBy
rising_cons cmp x xs below rest = (recursion_from_All (λ y. cmp x y ≡ Less) xs below, rest)

pub rising_none : {A : Type 0} (cmp : A → A → Ordering) → IsStrictlySortedBy cmp []
unfolding IsStrictlySortedBy
rising_none cmp = tt

module _ {A : Type 0} (cmp : A → A → Ordering) where
  -- a thing is placed before the first, in its stead, or behind it
  placed_before : (x y : A) (ys : List A) → cmp x y ≡ Less → with_placed cmp x (y ∷ ys) ≡ x ∷ y ∷ ys
  placed_before x y ys e = rw e refl

  placed_at : (x y : A) (ys : List A) → cmp x y ≡ Equal → with_placed cmp x (y ∷ ys) ≡ y ∷ ys
  placed_at x y ys e = rw e refl

  placed_behind : (x y : A) (ys : List A) → cmp x y ≡ Greater → with_placed cmp x (y ∷ ys) ≡ y ∷ with_placed cmp x ys
  placed_behind x y ys e = rw e refl

  -- what holds of each thing of a list holds of each in order
  module _ (P : A → Type 0) where
    all_placed : (x : A) (ys : List A) → P x → All P ys → All P (with_placed cmp x ys)
    all_placed x [] here rest = All-cons P x [] here rest
    all_placed x (y ∷ ys) here rest = by_order (cmp x y) refl (all_placed x ys here (All-tail P y ys rest))
      where
        by_order : (o : Ordering) → cmp x y ≡ o → All P (with_placed cmp x ys) → All P (with_placed cmp x (y ∷ ys))
        by_order Less e more = rw (placed_before x y ys e) (All-cons P x (y ∷ ys) here rest)
        by_order Equal e more = rw (placed_at x y ys e) rest
        by_order Greater e more = rw (placed_behind x y ys e) (All-cons P y (with_placed cmp x ys) (All-head P y ys rest) more)

    pub all_sorted : (xs : List A) → All P xs → All P (sorted cmp xs)
    all_sorted [] all = all
    all_sorted (x ∷ xs) all = all_placed x (sorted cmp xs) (All-head P x xs all) (all_sorted xs (All-tail P x xs all))

  -- so what passes a test does
  pub tests_sorted : (p : A → Bool) (xs : List A) → list_all p xs ≡ true → list_all p (sorted cmp xs) ≡ true
  tests_sorted p xs h = list_all-from_AllPass p (sorted cmp xs) (all_sorted (λ x. p x ≡ true) xs (AllPass-from_list_all p xs h))

  -- and what stands in the order stands in the list
  pub contained_from_sorted : (xs : List A) (y : A) → Contains (sorted cmp xs) y → Contains xs y
  contained_from_sorted xs y here = All-contains (Contains xs) (sorted cmp xs) y (all_sorted (Contains xs) xs (All-contains_itself xs)) here

-- how numbers compare
nats_below : (m n : ℕ) → m < n → nat_cmp m n ≡ Less
nats_below m n lt = grind (arith, nat_tests)

nats_level : (m n : ℕ) → m ≡ n → nat_cmp m n ≡ Equal
nats_level m n e = grind (arith, nat_tests)

nats_above : (m n : ℕ) → n < m → nat_cmp m n ≡ Greater
nats_above m n lt = grind (arith, nat_tests)

module _ {A : Type 0} {cmp : A → A → Ordering} (o : IsExactOrder cmp) where
  -- a list in order rises
  rising_placed : (x : A) (ys : List A) → IsStrictlySortedBy cmp ys → IsStrictlySortedBy cmp (with_placed cmp x ys)
  rising_placed x [] rise = rising_cons cmp x [] (All-nil (λ y. cmp x y ≡ Less)) rise
  rising_placed x (y ∷ ys) rise = by_order (cmp x y) refl (rising_placed x ys (sorted_tail cmp y ys rise))
    where
      above : All (λ z. cmp y z ≡ Less) ys
      above = All-after_first cmp y ys rise

      further : cmp x y ≡ Less → All (λ z. cmp x z ≡ Less) ys
      further e = All-weaker (λ z. cmp y z ≡ Less) (λ z. cmp x z ≡ Less) (λ z f. o.total.trans x y z e f) ys above

      by_order : (r : Ordering) → cmp x y ≡ r → IsStrictlySortedBy cmp (with_placed cmp x ys) → IsStrictlySortedBy cmp (with_placed cmp x (y ∷ ys))
      by_order Less e more = rw (placed_before cmp x y ys e) (rising_cons cmp x (y ∷ ys) (All-cons (λ z. cmp x z ≡ Less) y ys e (further e)) rise)
      by_order Equal e more = rw (placed_at cmp x y ys e) rise
      by_order Greater e more =
          rw (placed_behind cmp x y ys e)
          (rising_cons cmp y (with_placed cmp x ys) (all_placed cmp (λ z. cmp y z ≡ Less) x ys (greater_back o x y e) above) more)

  pub sorted_rises : (xs : List A) → IsStrictlySortedBy cmp (sorted cmp xs)
  sorted_rises [] = rising_none cmp
  sorted_rises (x ∷ xs) = rising_placed x (sorted cmp xs) (sorted_rises xs)

  -- what holds of each thing in order holds of each of the list
  module _ (P : A → Type 0) where
    first_and_rest : (x : A) (ys : List A) → All P (with_placed cmp x ys) → P x × All P ys
    first_and_rest x [] all = (All-head P x [] all, All-nil P)
    first_and_rest x (y ∷ ys) all = by_order (cmp x y) refl (λ more. first_and_rest x ys more)
      where
        by_order : (r : Ordering) → cmp x y ≡ r → (All P (with_placed cmp x ys) → P x × All P ys) → P x × All P (y ∷ ys)
        by_order Less e more =
            let whole = subst (All P) (placed_before cmp x y ys e) all in
            (All-head P x (y ∷ ys) whole, All-tail P x (y ∷ ys) whole)
        by_order Equal e more =
            let whole = subst (All P) (placed_at cmp x y ys e) all in
            (subst P (sym (o.same x y e)) (All-head P y ys whole), whole)
        by_order Greater e more =
            let whole = subst (All P) (placed_behind cmp x y ys e) all in
            let parts = more (All-tail P y (with_placed cmp x ys) whole) in
            (parts.0, All-cons P y ys (All-head P y (with_placed cmp x ys) whole) parts.1)

    pub all_from_sorted : (xs : List A) → All P (sorted cmp xs) → All P xs
    all_from_sorted [] all = all
    all_from_sorted (x ∷ xs) all =
        let parts = first_and_rest x (sorted cmp xs) all in
        All-cons P x xs parts.0 (all_from_sorted xs parts.1)

  pub contained_sorted : (xs : List A) (y : A) → Contains xs y → Contains (sorted cmp xs) y
  contained_sorted xs y here =
      All-contains (Contains (sorted cmp xs)) xs y (all_from_sorted (Contains (sorted cmp xs)) xs (All-contains_itself (sorted cmp xs))) here

  -- the place of a thing is that of the first that is equal to it
  place_first : (x y : A) (ys : List A) → cmp x y ≡ Equal → place_in cmp x (y ∷ ys) ≡ zero
  place_first x y ys e = rw e refl

  place_later : (x y : A) (ys : List A) (r : Ordering) → cmp x y ≡ r → (r ≡ Equal → ⊥) → place_in cmp x (y ∷ ys) ≡ suc (place_in cmp x ys)
  place_later x y ys Less e other = rw e refl
  place_later x y ys Equal e other = absurd (other refl)
  place_later x y ys Greater e other = rw e refl

  one_further : (x y : A) (ys : List A) → place_in cmp x ys < length ys → place_in cmp x (y ∷ ys) < suc (length ys)
  one_further x y ys lt = by_order (cmp x y) refl
    where
      by_order : (r : Ordering) → cmp x y ≡ r → place_in cmp x (y ∷ ys) < suc (length ys)
      by_order Less e = rw (place_later x y ys Less e (λ no. cc)) (omega arith)
      by_order Equal e = rw (place_first x y ys e) (omega arith)
      by_order Greater e = rw (place_later x y ys Greater e (λ no. cc)) (omega arith)

  within_at : (x : A) (ys : List A) (k : ℕ) → k < length ys → get_or ys k x ≡ x → place_in cmp x ys < length ys
  within_at x [] k lt e = absurd (omega arith)
  within_at x (y ∷ ys) zero lt e = rw (place_first x y ys (equal_from_same o x y (sym e))) (omega arith)
  within_at x (y ∷ ys) (suc k) lt e = one_further x y ys (within_at x ys k (omega arith) e)

  -- a thing that stands in a list has a place in it
  pub place_within : (x : A) (ys : List A) → Contains ys x → place_in cmp x ys < length ys
  place_within x ys here = within_at x ys here.0 here.1 here.2

  pub all_placed_within : (xs : List A) → All (λ x. place_in cmp x xs < length xs) xs
  all_placed_within xs = All-weaker (Contains xs) (λ x. place_in cmp x xs < length xs) (λ x. place_within x xs) xs (All-contains_itself xs)

  pub all_placed_sorted : (xs : List A) → All (λ x. place_in cmp x (sorted cmp xs) < length (sorted cmp xs)) xs
  all_placed_sorted xs = all_from_sorted (λ x. place_in cmp x (sorted cmp xs) < length (sorted cmp xs)) xs (all_placed_within (sorted cmp xs))

  -- and stands there
  pub place_says : (x : A) (ys : List A) → place_in cmp x ys < length ys → slice_get ys (place_in cmp x ys) ≡ Some x
  place_says x [] lt = absurd (omega arith)
  place_says x (y ∷ ys) lt = by_order (cmp x y) refl (λ less. place_says x ys less)
    where
      later : place_in cmp x (y ∷ ys) ≡ suc (place_in cmp x ys) → (place_in cmp x ys < length ys → slice_get ys (place_in cmp x ys) ≡ Some x)
          → slice_get (y ∷ ys) (place_in cmp x (y ∷ ys)) ≡ Some x
      later e more = (let less : place_in cmp x ys < length ys = omega arith in rw e (more less))

      by_order : (r : Ordering) → cmp x y ≡ r → (place_in cmp x ys < length ys → slice_get ys (place_in cmp x ys) ≡ Some x)
          → slice_get (y ∷ ys) (place_in cmp x (y ∷ ys)) ≡ Some x
      by_order Less e more = later (place_later x y ys Less e (λ no. cc)) more
      by_order Equal e more = rw (place_first x y ys e) (ap Some (sym (o.same x y e)))
      by_order Greater e more = later (place_later x y ys Greater e (λ no. cc)) more

  pub place_reads : (x : A) (ys : List A) (d : A) → place_in cmp x ys < length ys → get_or ys (place_in cmp x ys) d ≡ x
  place_reads x ys d lt = get_or_from_slice_get ys (place_in cmp x ys) x d (place_says x ys lt)

  -- in a list that rises, places rise as the things do
  pub places_rise : (x y : A) (ys : List A) → IsStrictlySortedBy cmp ys → place_in cmp x ys < length ys → place_in cmp y ys < length ys
      → nat_cmp (place_in cmp x ys) (place_in cmp y ys) ≡ cmp x y
  places_rise x y ys rise left right = by_order (cases_order (place_in cmp x ys) (place_in cmp y ys))
    where
      less : (u v : A) → place_in cmp u ys < length ys → place_in cmp v ys < length ys → place_in cmp u ys < place_in cmp v ys → cmp u v ≡ Less
      less u v at bt lt =
          let e = place_reads u ys u at in
          let f = place_reads v ys u bt in
          let k = Less-from_sorted cmp ys (place_in cmp u ys) (place_in cmp v ys) u rise lt bt in
          rw (e, f) at k

      by_order : (place_in cmp x ys ≡ place_in cmp y ys) ⊎ ((place_in cmp x ys < place_in cmp y ys) ⊎ (place_in cmp y ys < place_in cmp x ys))
          → nat_cmp (place_in cmp x ys) (place_in cmp y ys) ≡ cmp x y
      by_order (inl e) =
          let same : x ≡ y = sym (place_reads x ys x left) ∙ ap (λ (k : ℕ). get_or ys k x) e ∙ place_reads y ys x right in
          nats_level (place_in cmp x ys) (place_in cmp y ys) e ∙ sym (equal_from_same o x y same)
      by_order (inr (inl lt)) = nats_below (place_in cmp x ys) (place_in cmp y ys) lt ∙ sym (less x y left right lt)
      by_order (inr (inr lt)) = nats_above (place_in cmp x ys) (place_in cmp y ys) lt ∙ sym (less_back o y x (less y x right left lt))

  -- two lists that rise and hold the same things are one list
  in_first_or_rest : (x y : A) (ys : List A) → Contains (y ∷ ys) x → (y ≡ x) ⊎ Contains ys x
  in_first_or_rest x y ys here = by_place here.0 here.1 here.2
    where
      by_place : (k : ℕ) → k < length (y ∷ ys) → get_or (y ∷ ys) k x ≡ x → (y ≡ x) ⊎ Contains ys x
      by_place zero lt e = inl e
      by_place (suc k) lt e = inr (k, omega arith, e)

  heads_same : (x y : A) (xs ys : List A) → All (λ z. cmp x z ≡ Less) xs → All (λ z. cmp y z ≡ Less) ys → Contains (y ∷ ys) x → Contains (x ∷ xs) y → x ≡ y
  heads_same x y xs ys first second there here = by_first (in_first_or_rest x y ys there) (in_first_or_rest y x xs here)
    where
      by_first : (y ≡ x) ⊎ Contains ys x → (x ≡ y) ⊎ Contains xs y → x ≡ y
      by_first (inl e) other = sym e
      by_first (inr far) (inl e) = e
      by_first (inr far) (inr near) =
          let below : cmp y x ≡ Less = All-contains (λ z. cmp y z ≡ Less) ys x second far in
          let above : cmp y x ≡ Greater = less_back o x y (All-contains (λ z. cmp x z ≡ Less) xs y first near) in
          absurd (cc)

  rest_in : (x y : A) (xs ys : List A) → x ≡ y → All (λ z. cmp x z ≡ Less) xs → All (Contains (y ∷ ys)) xs → All (Contains ys) xs
  rest_in x y xs ys same first all k d lt = by_first (in_first_or_rest (get_or xs k d) y ys (all k d lt))
    where
      by_first : (y ≡ get_or xs k d) ⊎ Contains ys (get_or xs k d) → Contains ys (get_or xs k d)
      by_first (inl e) =
          let level : cmp x (get_or xs k d) ≡ Equal = equal_from_same o x (get_or xs k d) (same ∙ e) in
          let below : cmp x (get_or xs k d) ≡ Less = first k d lt in
          absurd (cc)
      by_first (inr far) = far

  pub rising_same : (xs ys : List A) → IsStrictlySortedBy cmp xs → IsStrictlySortedBy cmp ys → All (Contains ys) xs → All (Contains xs) ys → xs ≡ ys
  rising_same [] [] first second there here = refl
  rising_same [] (y ∷ ys) first second there here = (let no = (here 0 y (omega arith)).1 in absurd (omega arith))
  rising_same (x ∷ xs) [] first second there here = (let no = (there 0 x (omega arith)).1 in absurd (omega arith))
  rising_same (x ∷ xs) (y ∷ ys) first second there here =
      let low = All-after_first cmp x xs first in
      let high = All-after_first cmp y ys second in
      let same = heads_same x y xs ys low high (All-head (Contains (y ∷ ys)) x xs there) (All-head (Contains (x ∷ xs)) y ys here) in
      let rest = rising_same xs ys (sorted_tail cmp x xs first) (sorted_tail cmp y ys second)
      (rest_in x y xs ys same low (All-tail (Contains (y ∷ ys)) x xs there))
      (rest_in y x ys xs (sym same) high (All-tail (Contains (x ∷ xs)) y ys here)) in
      cc

  -- so there is one list in order
  pub sorted_is : (xs ys : List A) → IsStrictlySortedBy cmp ys → All (Contains xs) ys → All (Contains ys) xs → ys ≡ sorted cmp xs
  sorted_is xs ys rise there here =
      rising_same ys (sorted cmp xs) rise (sorted_rises xs)
      (All-weaker (Contains xs) (Contains (sorted cmp xs)) (contained_sorted xs) ys there)
      (all_sorted cmp (Contains ys) xs here)
