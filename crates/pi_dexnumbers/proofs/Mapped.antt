-- Things that are sorted by their images under a function that keeps their order.
use Rattle.std.proofs.Common.{◌≡◌, ℕ, suc, ◌≤◌, List, [], ◌∷◌, map, length, Ordering, Less, Equal, Greater, refl, sym, ap, ◌∙◌, arith}
use Rattle.std.specs.List.{All}
use Rattle.std.proofs.lemmas.List.Elements.{All-head, All-tail}
use Rattle.pi_classtables.specs.Sorted.{with_placed, sorted, place_in, text_order}
use Rattle.pi_classtables.proofs.Sortings.{all_sorted}
use Rattle.pi_dexnumbers.specs.Rows.{row_places}

-- a function over the images of another, and over the things themselves
pub map_twice : {A B C : Type 0} (h : B → C) (g : A → B) (xs : List A) → map h (map g xs) ≡ map (λ x. h (g x)) xs
map_twice h g [] = refl
map_twice h g (x ∷ xs) = ap (λ ys. h (g x) ∷ ys) (map_twice h g xs)

pub map_through : {A B C : Type 0} (f : A → C) (g : A → B) (h : B → C) (Q : A → Type 0) → ((x : A) → Q x → f x ≡ h (g x))
    → (xs : List A) → All Q xs → map f xs ≡ map h (map g xs)
map_through f g h Q same [] all = refl
map_through f g h Q same (x ∷ xs) all =
    let first = same x (All-head Q x xs all) in
    let rest = map_through f g h Q same xs (All-tail Q x xs all) in
    λ i. first i ∷ rest i

-- one thing more among those in order, by how it compares with the first
module _ {A : Type 0} (cmp : A → A → Ordering) where
  placed_less : (x y : A) (ys : List A) → cmp x y ≡ Less → with_placed cmp x (y ∷ ys) ≡ x ∷ y ∷ ys
  placed_less x y ys e = rw e refl

  placed_equal : (x y : A) (ys : List A) → cmp x y ≡ Equal → with_placed cmp x (y ∷ ys) ≡ y ∷ ys
  placed_equal x y ys e = rw e refl

  placed_greater : (x y : A) (ys : List A) → cmp x y ≡ Greater → with_placed cmp x (y ∷ ys) ≡ y ∷ with_placed cmp x ys
  placed_greater x y ys e = rw e refl

  place_less : (x y : A) (ys : List A) → cmp x y ≡ Less → place_in cmp x (y ∷ ys) ≡ suc (place_in cmp x ys)
  place_less x y ys e = rw e refl

  place_equal : (x y : A) (ys : List A) → cmp x y ≡ Equal → place_in cmp x (y ∷ ys) ≡ 0
  place_equal x y ys e = rw e refl

  place_greater : (x y : A) (ys : List A) → cmp x y ≡ Greater → place_in cmp x (y ∷ ys) ≡ suc (place_in cmp x ys)
  place_greater x y ys e = rw e refl

  -- no list in order is longer than the list that it was made of
  placed_short : (x : A) (ys : List A) → length (with_placed cmp x ys) ≤ suc (length ys)
  placed_short x [] = omega arith
  placed_short x (y ∷ ys) = by_order (cmp x y) refl (placed_short x ys)
    where
      by_order : (r : Ordering) → cmp x y ≡ r → length (with_placed cmp x ys) ≤ suc (length ys) → length (with_placed cmp x (y ∷ ys)) ≤ suc (length (y ∷ ys))
      by_order Less e more = rw (placed_less x y ys e) (omega arith)
      by_order Equal e more = rw (placed_equal x y ys e) (omega arith)
      by_order Greater e more = rw (placed_greater x y ys e) (omega arith)

  pub sorted_short : (xs : List A) → length (sorted cmp xs) ≤ length xs
  sorted_short [] = omega arith
  sorted_short (x ∷ xs) =
      let more = placed_short x (sorted cmp xs) in
      let rest = sorted_short xs in
      omega arith

module _ {A B : Type 0} (cmp : A → A → Ordering) (other : B → B → Ordering) (f : A → B) (P : A → Type 0)
    (keeps : (x y : A) → P x → P y → other (f x) (f y) ≡ cmp x y) where
  placed_mapped : (x : A) (ys : List A) → P x → All P ys → with_placed other (f x) (map f ys) ≡ map f (with_placed cmp x ys)
  placed_mapped x [] here all = refl
  placed_mapped x (y ∷ ys) here all = by_order (cmp x y) refl (keeps x y here (All-head P y ys all)) (placed_mapped x ys here (All-tail P y ys all))
    where
      by_order : (r : Ordering) → cmp x y ≡ r → other (f x) (f y) ≡ cmp x y → with_placed other (f x) (map f ys) ≡ map f (with_placed cmp x ys)
          → with_placed other (f x) (map f (y ∷ ys)) ≡ map f (with_placed cmp x (y ∷ ys))
      by_order Less e kept more =
          placed_less other (f x) (f y) (map f ys) (kept ∙ e) ∙ sym (ap (map f) (placed_less cmp x y ys e))
      by_order Equal e kept more =
          placed_equal other (f x) (f y) (map f ys) (kept ∙ e) ∙ sym (ap (map f) (placed_equal cmp x y ys e))
      by_order Greater e kept more =
          placed_greater other (f x) (f y) (map f ys) (kept ∙ e) ∙ ap (λ zs. f y ∷ zs) more ∙ sym (ap (map f) (placed_greater cmp x y ys e))

  pub sorted_mapped : (xs : List A) → All P xs → sorted other (map f xs) ≡ map f (sorted cmp xs)
  sorted_mapped [] all = refl
  sorted_mapped (x ∷ xs) all =
      ap (with_placed other (f x)) (sorted_mapped xs (All-tail P x xs all))
      ∙ placed_mapped x (sorted cmp xs) (All-head P x xs all) (all_sorted cmp P xs (All-tail P x xs all))

  place_mapped : (x : A) (ys : List A) → P x → All P ys → place_in other (f x) (map f ys) ≡ place_in cmp x ys
  place_mapped x [] here all = refl
  place_mapped x (y ∷ ys) here all = by_order (cmp x y) refl (keeps x y here (All-head P y ys all)) (place_mapped x ys here (All-tail P y ys all))
    where
      by_order : (r : Ordering) → cmp x y ≡ r → other (f x) (f y) ≡ cmp x y → place_in other (f x) (map f ys) ≡ place_in cmp x ys
          → place_in other (f x) (map f (y ∷ ys)) ≡ place_in cmp x (y ∷ ys)
      by_order Less e kept more =
          place_less other (f x) (f y) (map f ys) (kept ∙ e) ∙ ap suc more ∙ sym (place_less cmp x y ys e)
      by_order Equal e kept more =
          place_equal other (f x) (f y) (map f ys) (kept ∙ e) ∙ sym (place_equal cmp x y ys e)
      by_order Greater e kept more =
          place_greater other (f x) (f y) (map f ys) (kept ∙ e) ∙ ap suc more ∙ sym (place_greater cmp x y ys e)

  -- so each image has the place of its thing
  places_among : (zs xs : List A) → All P zs → All P xs
      → map (λ y. place_in other y (map f (sorted cmp zs))) (map f xs) ≡ map (λ x. place_in cmp x (sorted cmp zs)) xs
  places_among zs [] there all = refl
  places_among zs (x ∷ xs) there all =
      let first = place_mapped x (sorted cmp zs) (All-head P x xs all) (all_sorted cmp P zs there) in
      let rest = places_among zs xs there (All-tail P x xs all) in
      λ i. first i ∷ rest i

  pub places_mapped : (xs : List A) → All P xs
      → map (λ y. place_in other y (sorted other (map f xs))) (map f xs) ≡ map (λ x. place_in cmp x (sorted cmp xs)) xs
  places_mapped xs all = ap (λ ys. map (λ y. place_in other y ys) (map f xs)) (sorted_mapped xs all) ∙ places_among xs xs all all

-- what rows give that are the images of things
module _ {A : Type 0} (cmp : A → A → Ordering) (f : A → List ℕ) (P : A → Type 0) (keeps : (x y : A) → P x → P y → text_order (f x) (f y) ≡ cmp x y) where
  pub entries_mapped : {E : Type 0} (e : List ℕ → E) (rows : List (List ℕ)) (xs : List A) → All P xs → rows ≡ map f xs
      → map e (sorted text_order rows) ≡ map (λ x. e (f x)) (sorted cmp xs)
  entries_mapped e rows xs all same =
      ap (λ ys. map e (sorted text_order ys)) same ∙ ap (map e) (sorted_mapped cmp text_order f P keeps xs all) ∙ map_twice e f (sorted cmp xs)

  pub ranks_mapped : (rows : List (List ℕ)) (xs : List A) → All P xs → rows ≡ map f xs → row_places rows ≡ map (λ x. place_in cmp x (sorted cmp xs)) xs
  ranks_mapped rows xs all same = ap row_places same ∙ places_mapped cmp text_order f P keeps xs all
