-- The things kept and the ranks known after some keys in order.
use Rattle.std.proofs.Common.{◌≡◌, ◌≢◌, ℕ, zero, suc, ◌+◌, ◌<◌, false, List, [], ◌∷◌, ◌++◌, Some, length, map, get_or, Ordering, Less, Equal, Greater, ◌⊎◌, inl, inr, refl, sym, ap, ◌∙◌, subst, arith}
use Rattle.std.specs.Prelude.{slice_get}
use Rattle.std.specs.List.{All, Contains}
use Rattle.std.specs.List.Sorted.{IsStrictlySortedBy}
use Rattle.std.specs.Ordering.{is_lt}
use Rattle.std.proofs.Math.ListN.{set}
use Rattle.std.proofs.lemmas.Bool.{cases_order}
use Rattle.std.proofs.lemmas.Grind.{get_or-set_at}
use Rattle.std.proofs.lemmas.List.{map-append, get_or-set_other}
use Rattle.std.proofs.lemmas.List.Elements.{All-nil, All-push, All-map, All-weaker, All-contains, Contains-append_left, Contains-push}
use Rattle.std.proofs.lemmas.Map.Keys.{sorted_tail}
use Rattle.std.proofs.lemmas.Map.Views.{All-after_first}
use Rattle.std.proofs.lemmas.Option.{slice_get-get_or, slice_get_within, get_or_from_slice_get}
use Rattle.pi_classtables.specs.Sorted.{sorted, place_in}
use Rattle.pi_classtables.proofs.Orders.{IsExactOrder, equal_from_same, less_back}
use Rattle.pi_classtables.proofs.Sortings.{rising_none, sorted_is}
use Rattle.pi_dexranks.specs.Kept.{IsKept}
use Rattle.pi_dexranks.specs.Keys.{AreKeys}
use Rattle.pi_dexranks.proofs.Keeping.{kept_rises, kept_stays, kept_at, kept_all}

-- what is kept rises and comes from keys, and each key's rank names its thing
pub record AreRanked {A K : Type 0} (cmp : A → A → Ordering) (item : K → A) (place : K → ℕ) (xs : List A) (keys : List K) (kept : List A) (ranks : List ℕ) : Type 0 where
  pub rise : IsStrictlySortedBy cmp kept
  pub known : All (Contains (map item keys)) kept
  pub ranked : All (λ (k : K). slice_get kept (get_or ranks (place k) 0) ≡ slice_get xs (place k)) keys

-- what is found at a place is contained
found : {A : Type 0} (ys : List A) (i : ℕ) (x : A) → slice_get ys i ≡ Some x → Contains ys x
found ys i x e = (i, slice_get_within ys i x e, get_or_from_slice_get ys i x x e)

-- what holds of each key's thing holds of each of their things
of_things : {A K : Type 0} (item : K → A) (P : A → Type 0) (keys : List K) → All (λ (k : K). P (item k)) keys → (x : A) → Contains (map item keys) x → P x
of_things item P keys all x here = All-contains P (map item keys) x (All-map P item keys all) here

module _ {A : Type 0} {cmp : A → A → Ordering} (o : IsExactOrder cmp) where
  -- in a list that rises a thing has the place where it stands
  pub place_at : (x : A) (ys : List A) (i : ℕ) → IsStrictlySortedBy cmp ys → slice_get ys i ≡ Some x → place_in cmp x ys ≡ i
  place_at x [] i rise e = (let lt = slice_get_within [] i x e in absurd (omega arith))
  place_at x (y ∷ ys) zero rise e =
      let same : y ≡ x = cc in
      let level : cmp x y ≡ Equal = equal_from_same o x y (sym same) in
      rw level refl
  place_at x (y ∷ ys) (suc i) rise e =
      let below : cmp y x ≡ Less = All-contains (λ (z : A). cmp y z ≡ Less) ys x (All-after_first cmp y ys rise) (found ys i x e) in
      let above : cmp x y ≡ Greater = less_back o y x below in
      rw above (ap suc (place_at x ys i (sorted_tail cmp y ys rise) e))

-- a list is known by what stands at its places
pub ranks_are : {A : Type 0} (f : A → ℕ) (xs : List A) (ranks : List ℕ) → length ranks ≡ length xs
    → ((n : ℕ) (x : A) → slice_get xs n ≡ Some x → get_or ranks n 0 ≡ f x) → ranks ≡ map f xs
ranks_are f [] [] long each = refl
ranks_are f [] (r ∷ rs) long each = absurd (omega arith)
ranks_are f (x ∷ xs) [] long each = absurd (omega arith)
ranks_are f (x ∷ xs) (r ∷ rs) long each =
    let first : r ≡ f x = each 0 x refl in
    let rest : rs ≡ map f xs = ranks_are f xs rs (omega arith) (λ n y e. each (suc n) y e) in
    λ i. first i ∷ rest i

module _ {A K : Type 0} {cmp : A → A → Ordering} (o : IsExactOrder cmp) (item : K → A) (place : K → ℕ) (xs : List A) where
  pub ranked_none : (ranks : List ℕ) → AreRanked cmp item place xs [] [] ranks
  ranked_none ranks = record {
    rise = rising_none cmp;
    known = All-nil (Contains (map item []));
    ranked = All-nil (λ (k : K). slice_get [] (get_or ranks (place k) 0) ≡ slice_get xs (place k));
  }

  -- a key's rank is written, and the ranks of other places stay
  one_more : (key : K) (kept new : List A) (ranks : List ℕ) (r : ℕ) → slice_get xs (place key) ≡ Some (item key) → length ranks ≡ length xs
      → IsKept kept (item key) new → r + 1 ≡ length new
      → (k : K) → slice_get xs (place k) ≡ Some (item k) → slice_get kept (get_or ranks (place k) 0) ≡ slice_get xs (place k)
      → slice_get new (get_or (set ranks (place key) r) (place k) 0) ≡ slice_get xs (place k)
  one_more key kept new ranks r here long is last k there was = by_place (cases_order (place k) (place key))
    where
      other : place k ≢ place key → slice_get new (get_or (set ranks (place key) r) (place k) 0) ≡ slice_get xs (place k)
      other ne =
          ap (slice_get new) (get_or-set_other ranks (place key) (place k) r 0 ne)
          ∙ kept_stays kept (item key) new is (get_or ranks (place k) 0) (item k) (was ∙ there) ∙ sym there

      by_place : (place k ≡ place key) ⊎ ((place k < place key) ⊎ (place key < place k))
          → slice_get new (get_or (set ranks (place key) r) (place k) 0) ≡ slice_get xs (place k)
      by_place (inl e) =
          let within : place key < length ranks = omega (arith, long, slice_get_within xs (place key) (item key) here) in
          ap (slice_get new) (get_or-set_at ranks (place key) (place k) r 0 e within)
          ∙ kept_at kept (item key) new r is last ∙ sym here ∙ ap (slice_get xs) (sym e)
      by_place (inr (inl lt)) = other (omega arith)
      by_place (inr (inr lt)) = other (omega arith)

  new_one : (key : K) (kept new : List A) (ranks : List ℕ) (r : ℕ) → slice_get xs (place key) ≡ Some (item key) → length ranks ≡ length xs
      → IsKept kept (item key) new → r + 1 ≡ length new
      → slice_get new (get_or (set ranks (place key) r) (place key) 0) ≡ slice_get xs (place key)
  new_one key kept new ranks r here long is last =
      let within : place key < length ranks = omega (arith, long, slice_get_within xs (place key) (item key) here) in
      ap (slice_get new) (get_or-set_at ranks (place key) (place key) r 0 refl within) ∙ kept_at kept (item key) new r is last ∙ sym here

  pub ranked_more : (keys : List K) (key : K) (kept new : List A) (ranks : List ℕ) (r : ℕ)
      → All (λ (k : K). slice_get xs (place k) ≡ Some (item k)) keys → slice_get xs (place key) ≡ Some (item key)
      → All (λ (k : K). is_lt (cmp (item key) (item k)) ≡ false) keys → length ranks ≡ length xs
      → IsKept kept (item key) new → r + 1 ≡ length new → AreRanked cmp item place xs keys kept ranks
      → AreRanked cmp item place xs (keys ++ key ∷ []) new (set ranks (place key) r)
  ranked_more keys key kept new ranks r holds here up long is last was = record { rise = rise; known = known; ranked = ranked }
    where
      rise : IsStrictlySortedBy cmp new
      rise =
          kept_rises o kept (item key) new is was.rise
          (All-weaker (Contains (map item keys)) (λ (z : A). is_lt (cmp (item key) z) ≡ false)
          (of_things item (λ (z : A). is_lt (cmp (item key) z) ≡ false) keys up) kept was.known)

      known : All (Contains (map item (keys ++ key ∷ []))) new
      known =
          subst (λ (ys : List A). All (Contains ys) new) (sym (map-append item keys (key ∷ [])))
          (kept_all (Contains (map item keys ++ item key ∷ [])) kept (item key) new is
          (All-weaker (Contains (map item keys)) (Contains (map item keys ++ item key ∷ []))
          (λ z. Contains-append_left (map item keys) (item key ∷ []) z) kept was.known)
          (Contains-push (map item keys) (item key)))

      ranked : All (λ (k : K). slice_get new (get_or (set ranks (place key) r) (place k) 0) ≡ slice_get xs (place k)) (keys ++ key ∷ [])
      ranked =
          All-push (λ (k : K). slice_get new (get_or (set ranks (place key) r) (place k) 0) ≡ slice_get xs (place k)) keys key
          (λ n d lt. one_more key kept new ranks r here long is last (get_or keys n d) (holds n d lt) (was.ranked n d lt))
          (new_one key kept new ranks r here long is last)

  -- once all keys are ranked
  module _ (keys : List K) (are : AreKeys item place xs keys) (kept : List A) (ranks : List ℕ) (all : AreRanked cmp item place xs keys kept ranks) where
    by_number : (n : ℕ) → n < length xs → slice_get kept (get_or ranks n 0) ≡ slice_get xs n
    by_number n lt = of_things place (λ (m : ℕ). slice_get kept (get_or ranks m 0) ≡ slice_get xs m) keys all.ranked n (are.each n lt)

    there : All (Contains xs) kept
    there =
        All-weaker (Contains (map item keys)) (Contains xs)
        (of_things item (Contains xs) keys (λ n d lt. found xs (place (get_or keys n d)) (item (get_or keys n d)) (are.holds n d lt))) kept all.known

    here : All (Contains kept) xs
    here n d lt = found kept (get_or ranks n 0) (get_or xs n d) (by_number n lt ∙ slice_get-get_or xs n d lt)

    pub kept_sorted : kept ≡ sorted cmp xs
    kept_sorted = sorted_is o xs kept all.rise there here

    pub ranks_places : length ranks ≡ length xs → ranks ≡ map (λ (x : A). place_in cmp x (sorted cmp xs)) xs
    ranks_places long =
        ranks_are (λ (x : A). place_in cmp x (sorted cmp xs)) xs ranks long
        (λ n x e. sym (place_at o x (sorted cmp xs) (get_or ranks n 0) (subst (IsStrictlySortedBy cmp) kept_sorted all.rise)
        (ap (λ (ys : List A). slice_get ys (get_or ranks n 0)) (sym kept_sorted) ∙ by_number n (slice_get_within xs n x e) ∙ e)))
