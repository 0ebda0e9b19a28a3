-- The number of a list of handlers stays as it is when more lists come behind.
use Rattle.std.proofs.Common.{◌≡◌, ℕ, List, [], ◌∷◌, ◌++◌, map, Bool, true, false, refl, sym, ap, ap₂, ◌∙◌}
use Rattle.std.specs.Prelude.{nat_eq, not, if◌then◌else◌}
use Rattle.std.specs.Cmp.Lexicographic.{pointwise}
use Rattle.std.specs.List.{list_any, position_or_len}
use Rattle.pi_dextables.specs.declared.tables.Catches.{Catches}
use Rattle.pi_classtables.specs.Ranges.{same_catches, with_list, list_no}
use Rattle.pi_dexdata.specs.Grouped.{spelled}
use Rattle.pi_dexdata.proofs.Places.{place_past, place_front, place_behind, any_front, any_behind, found_at}
use Rattle.pi_dexdata.proofs.SameNumbers.{any_spelled, place_spelled, same_itself}

-- a list that is put behind others where it is new
abbrev put : Bool → List Catches → Catches → List Catches
put found lists l = if found then lists else lists ++ l ∷ []

-- what a search among the numbers says of the list
pub put_is : (lists after : List Catches) (l : Catches) (key : List ℕ) (keys : List (List ℕ)) (is_new : Bool) → key ≡ spelled l → keys ≡ map spelled lists
    → is_new ≡ not (list_any (pointwise nat_eq key) keys) → after ≡ (if is_new then lists ++ l ∷ [] else lists) → after ≡ with_list lists l
put_is lists after l key keys is_new spells of new is =
    let told : is_new ≡ not (list_any (same_catches l) lists) =
    new ∙ ap₂ (λ k ks. not (list_any (pointwise nat_eq k) ks)) spells of ∙ ap not (any_spelled l lists) in
    is ∙ ap (λ b. if b then lists ++ l ∷ [] else lists) told ∙ turned (list_any (same_catches l) lists)
  where
    turned : (b : Bool) → (if not b then lists ++ l ∷ [] else lists) ≡ (if b then lists else lists ++ l ∷ [])
    turned true = refl
    turned false = refl

-- the number of a list that was put, by its place among those before
number_put : (lists : List Catches) (l : Catches) → list_no (with_list lists l) l ≡ position_or_len (same_catches l) lists
number_put lists l = by_test (list_any (same_catches l) lists) refl
  where
    by_test : (b : Bool) → list_any (same_catches l) lists ≡ b → list_no (put b lists l) l ≡ position_or_len (same_catches l) lists
    by_test true found = found_at (same_catches l) lists found
    by_test false none =
        found_at (same_catches l) (lists ++ l ∷ []) (any_behind (same_catches l) lists l (same_itself l))
        ∙ place_behind (same_catches l) lists l none (same_itself l)
        ∙ sym (place_past (same_catches l) lists none)

pub number_is : (lists after : List Catches) (l : Catches) (key : List ℕ) (keys : List (List ℕ)) (place number : ℕ) → key ≡ spelled l → keys ≡ map spelled lists
    → after ≡ with_list lists l → place ≡ position_or_len (pointwise nat_eq key) keys → number ≡ place → number ≡ list_no after l
number_is lists after l key keys place number spells of put at is =
    is ∙ at ∙ ap₂ (λ k ks. position_or_len (pointwise nat_eq k) ks) spells of
    ∙ place_spelled l lists ∙ sym (number_put lists l) ∙ ap (λ ls. list_no ls l) (sym put)

-- a list that is there stays there, with its number
pub still_there : (lists : List Catches) (l m : Catches) → list_any (same_catches m) lists ≡ true → list_any (same_catches m) (with_list lists l) ≡ true
still_there lists l m there = by_test (list_any (same_catches l) lists)
  where
    by_test : (b : Bool) → list_any (same_catches m) (put b lists l) ≡ true
    by_test true = there
    by_test false = any_front (same_catches m) lists (l ∷ []) there

pub number_stays : (lists : List Catches) (l m : Catches) → list_any (same_catches m) lists ≡ true → list_no (with_list lists l) m ≡ list_no lists m
number_stays lists l m there = by_test (list_any (same_catches l) lists)
  where
    by_test : (b : Bool) → list_no (put b lists l) m ≡ list_no lists m
    by_test true = refl
    by_test false =
        found_at (same_catches m) (lists ++ l ∷ []) (any_front (same_catches m) lists (l ∷ []) there)
        ∙ place_front (same_catches m) lists (l ∷ []) there
        ∙ sym (found_at (same_catches m) lists there)

-- and one that was put is there
pub now_there : (lists : List Catches) (l : Catches) → list_any (same_catches l) (with_list lists l) ≡ true
now_there lists l = by_test (list_any (same_catches l) lists) refl
  where
    by_test : (b : Bool) → list_any (same_catches l) lists ≡ b → list_any (same_catches l) (put b lists l) ≡ true
    by_test true found = found
    by_test false none = any_behind (same_catches l) lists l (same_itself l)
