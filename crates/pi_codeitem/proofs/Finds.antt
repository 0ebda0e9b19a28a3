-- The first of several things at a place, by the places in their order.
use Rattle.std.proofs.Common.{◌≡◌, ◌≢◌, ℕ, zero, suc, ◌<◌, ◌≤◌, List, [], ◌∷◌, ◌++◌, length, get_or, Some, None, Bool, true, false, refl, sym, ap, ◌∙◌, ◌⊎◌, inl, inr, cond, arith, subst, length-append}
use Rattle.std.specs.Prelude.{◌==◌, ◌||◌, map, find, is_some, slice_get, slice_index, Ok, Err}
use Rattle.std.specs.List.{list_any}
use Rattle.std.proofs.Math.Nat.{eq-or-lt_of_le}
use Rattle.std.proofs.Math.Seq.{get_or-append_seam}
use Rattle.std.proofs.lemmas.Bool.Decides.{nat_tests}
use Rattle.std.proofs.lemmas.List.{get_or_append_left, length-map, map-append}
use Rattle.std.proofs.lemmas.List.Sorted.{searched}
use Rattle.std.specs.List.Sorted.{IsBinarySearchResult}
use Rattle.std.specs.Ordering.{nat_cmp}
use Rattle.pi_bytes.specs.Numbers.{word_end}
use Rattle.pi_codeitem.specs.Places.{Rises, ArePlaces, AreBelow, AreStarts}

pub no_places : {A : Type 0} (place : A → ℕ) → ArePlaces place [] []
no_places place = record { named = refl; rise = record { each = λ i j lt len. absurd (omega arith) } }

pub below_push : (n m x : ℕ) (xs : List ℕ) → AreBelow n xs → n ≤ m → x < m → AreBelow m (xs ++ x ∷ [])
below_push n m x xs below le lt =
    record { each = λ k len. within k (eq-or-lt_of_le (short k len)) }
  where
    short : (k : ℕ) → k < length (xs ++ x ∷ []) → k ≤ length xs
    short k len = omega (arith, length-append xs (x ∷ []))

    within : (k : ℕ) → (k ≡ length xs) ⊎ (k < length xs) → slice_index (xs ++ x ∷ []) k < m
    within k (inl e) = rw (e, get_or-append_seam xs x [] 0) lt
    within k (inr l) = rw (get_or_append_left xs (x ∷ []) 0 k l) (omega (arith, below.each k l))

pub rises_push : (n x : ℕ) (xs : List ℕ) → Rises xs → AreBelow n xs → n ≤ x → Rises (xs ++ x ∷ [])
rises_push n x xs rise below le =
    record { each = λ i j lt len. within i j lt (eq-or-lt_of_le (short j len)) }
  where
    short : (k : ℕ) → k < length (xs ++ x ∷ []) → k ≤ length xs
    short k len = omega (arith, length-append xs (x ∷ []))

    within : (i j : ℕ) → i < j → (j ≡ length xs) ⊎ (j < length xs) → slice_index (xs ++ x ∷ []) i < slice_index (xs ++ x ∷ []) j
    within i j lt (inl e) =
        let l : i < length xs = omega arith in
        rw (e, get_or-append_seam xs x [] 0, get_or_append_left xs (x ∷ []) 0 i l) (omega (arith, below.each i l))
    within i j lt (inr l) =
        let l' : i < length xs = omega arith in
        rw (get_or_append_left xs (x ∷ []) 0 j l, get_or_append_left xs (x ∷ []) 0 i l') (rise.each i j lt l)

pub places_push : {A : Type 0} (place : A → ℕ) (n x : ℕ) (places : List ℕ) (things : List A) (a : A) → ArePlaces place places things → AreBelow n places
    → n ≤ x → x ≡ place a → ArePlaces place (places ++ x ∷ []) (things ++ a ∷ [])
places_push place n x places things a are below le e =
    record {
      named = rw (map-append place things (a ∷ [])) (ap (λ xs. xs ++ x ∷ []) are.named ∙ ap (λ y. map place things ++ y ∷ []) e);
      rise = rises_push n x places are.rise below le;
    }

first_is : {A : Type 0} (place : A → ℕ) (x k : ℕ) (things : List A) → Rises (map place things) → k < length things → get_or (map place things) k 0 ≡ x
    → find (λ a. place a == x) things ≡ slice_get things k
first_is place x k [] rise len e = absurd (omega arith)
first_is place x zero (a ∷ others) rise len e =
    let t : (place a == x) ≡ true = grind (arith, nat_tests) in
    rw t refl
first_is place x (suc k) (a ∷ others) rise len e =
    let shorter : k < length others = omega arith in
    let l : suc k < length (map place (a ∷ others)) = omega (arith, length-map others place) in
    let lt : place a < get_or (map place others) k 0 = rise.each 0 (suc k) (omega arith) l in
    let t : (place a == x) ≡ false = grind (arith, nat_tests) in
    let rest : Rises (map place others) = record { each = λ i j lt len. rise.each (suc i) (suc j) (omega arith) (omega arith) } in
    rw t (first_is place x k others rest shorter e)

none_is : {A : Type 0} (place : A → ℕ) (x : ℕ) (things : List A) → ((k : ℕ) → k < length things → get_or (map place things) k 0 ≢ x)
    → find (λ a. place a == x) things ≡ None
none_is place x [] other = refl
none_is place x (a ∷ others) other =
    let ne : place a ≢ x = other 0 (omega arith) in
    let t : (place a == x) ≡ false = grind (arith, nat_tests) in
    rw t (none_is place x others (λ k len. other (suc k) (omega arith)))

rises_le : (xs : List ℕ) → Rises xs → (i j : ℕ) → i ≤ j → j < length xs → get_or xs i 0 ≤ get_or xs j 0
rises_le xs rise i j le len = by_cases (eq-or-lt_of_le le)
  where
    by_cases : (i ≡ j) ⊎ (i < j) → get_or xs i 0 ≤ get_or xs j 0
    by_cases (inl e) = rw e (omega arith)
    by_cases (inr lt) = omega (arith, rise.each i j lt len)

pub search_finds : {A : Type 0} (place : A → ℕ) (x k : ℕ) (places : List ℕ) (things : List A) → ArePlaces place places things
    → IsBinarySearchResult (λ y. nat_cmp y x) places (Ok k) → find (λ a. place a == x) things ≡ slice_get things k
search_finds place x k places things are r =
    let found = searched places x (Ok k) r (rises_le places are.rise) in
    first_is place x k things (subst Rises are.named are.rise) (omega (arith, found.0, ap length are.named, length-map things place))
    (ap (λ (xs : List ℕ). get_or xs k 0) (sym are.named) ∙ found.1)

pub search_fails : {A : Type 0} (place : A → ℕ) (x i : ℕ) (places : List ℕ) (things : List A) → ArePlaces place places things
    → IsBinarySearchResult (λ y. nat_cmp y x) places (Err i) → find (λ a. place a == x) things ≡ None
search_fails place x i places things are r =
    let found = searched places x (Err i) r (rises_le places are.rise) in
    none_is place x things (λ k len e.
    let e' : get_or places k 0 ≡ x = ap (λ (xs : List ℕ). get_or xs k 0) are.named ∙ e in
    let l : k < length places = omega (arith, ap length are.named, length-map things place) in
    apart k l e' found.0 found.1 found.2)
  where
    apart : (k : ℕ) → k < length places → get_or places k 0 ≡ x → i ≤ length places → ((k : ℕ) → k < i → get_or places k 0 < x)
        → ((k : ℕ) → i ≤ k → k < length places → x < get_or places k 0) → ⊥
    apart k l e le low high = grind (arith, low k, high k)

pub none_past : {A : Type 0} (place : A → ℕ) (x : ℕ) (places : List ℕ) (things : List A) → AreStarts place places things → word_end ≤ x → find (λ a. place a == x) things ≡ None
none_past place x places things are le =
    none_is place x things (λ k len e.
    let e' : get_or places k 0 ≡ x = ap (λ (xs : List ℕ). get_or xs k 0) are.named.named ∙ e in
    let l : k < length places = omega (arith, ap length are.named.named, length-map things place) in
    omega (arith, are.small.each k l, e', le))

-- one of them stands there
pub any_found : {A : Type 0} (test : A → Bool) (things : List A) → list_any test things ≡ is_some (find test things)
any_found test [] = refl
any_found test (a ∷ others) =
    elim (test a) as (λ b. (b || list_any test others) ≡ is_some (cond b (Some a) (find test others))) [ true ↦ refl | false ↦ any_found test others ]
