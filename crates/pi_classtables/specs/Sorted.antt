-- Lists in order: without equal things, or with all things and equal ones as they stood.
use Rattle.std.specs.Prelude.{ℕ, zero, suc, List, [], ◌∷◌}
use Rattle.std.specs.declared.cmp.Ordering.{Ordering}
use Rattle.std.specs.declared.cmp.Ordering.TheVariants.{Less, Equal, Greater}
use Rattle.std.specs.Ordering.{nat_cmp}
use Rattle.std.specs.Cmp.Lexicographic.{slice_cmp}

-- a list in rising order with one thing more, unless an equal one is there
abbrev pub with_placed : {A : Type 0} → (A → A → Ordering) → A → List A → List A
with_placed cmp x [] = x ∷ []
with_placed cmp x (y ∷ ys) = by_order (cmp x y) x y ys (with_placed cmp x ys)
  where
    by_order : {A : Type 0} → Ordering → A → A → List A → List A → List A
    by_order Less x y ys placed = x ∷ y ∷ ys
    by_order Equal x y ys placed = y ∷ ys
    by_order Greater x y ys placed = y ∷ placed

-- the things of a list in rising order, each once
abbrev pub sorted : {A : Type 0} → (A → A → Ordering) → List A → List A
sorted cmp [] = []
sorted cmp (x ∷ xs) = with_placed cmp x (sorted cmp xs)

-- a list in order with one thing more, before all that are not below it
abbrev pub with_first : {A : Type 0} → (A → A → Ordering) → A → List A → List A
with_first cmp x [] = x ∷ []
with_first cmp x (y ∷ ys) = by_order (cmp x y) x y ys (with_first cmp x ys)
  where
    by_order : {A : Type 0} → Ordering → A → A → List A → List A → List A
    by_order Less x y ys placed = x ∷ y ∷ ys
    by_order Equal x y ys placed = x ∷ y ∷ ys
    by_order Greater x y ys placed = y ∷ placed

-- all things of a list in order, equal ones in the order in which they stood
abbrev pub arranged : {A : Type 0} → (A → A → Ordering) → List A → List A
arranged cmp [] = []
arranged cmp (x ∷ xs) = with_first cmp x (arranged cmp xs)

-- the place of the first thing that is equal to one, the length of the list where none is
abbrev pub place_in : {A : Type 0} → (A → A → Ordering) → A → List A → ℕ
place_in cmp x [] = zero
place_in cmp x (y ∷ ys) = by_order (cmp x y) (place_in cmp x ys)
  where
    by_order : Ordering → ℕ → ℕ
    by_order Less behind = suc behind
    by_order Equal behind = zero
    by_order Greater behind = suc behind

-- texts by their units, and lists of texts
abbrev pub text_order : List ℕ → List ℕ → Ordering
text_order = slice_cmp nat_cmp

abbrev pub texts_order : List (List ℕ) → List (List ℕ) → Ordering
texts_order = slice_cmp text_order
