-- Slots that are set and emptied again.
use Rattle.std.proofs.Common.{◌≡◌, ℕ, zero, suc, ◌+◌, ◌<◌, ◌≤◌, Bool, true, false, cond, List, [], ◌∷◌, ◌++◌, length, get_or, set, slice_get, is_some, Option, Some, None, IsTrue, arith, refl, sym, ap, ◌∙◌, length-set}
use Rattle.std.specs.List.{count_by}
use Rattle.std.proofs.lemmas.Bool.{and_from, and_parts, lt-ltb, ltb-true}
use Rattle.std.proofs.lemmas.List.{set-set, set-get_or, length_push}
use Rattle.std.proofs.lemmas.List.Folds.{list_all-append}
use Rattle.std.proofs.lemmas.List.Sums.{count_by-le-length, sum_by-cons}
use Rattle.std.proofs.lemmas.Option.{get_or_from_slice_get}
use Rattle.pi_model.specs.declared.numbers.Addr.{Addr}
use Rattle.pi_model.specs.declared.numbers.NameNo.{NameNo}
use Rattle.pi_model.specs.Uses.{name_below, names_below}
use Rattle.pi_intern.specs.Literals.{without_names, at_begin, IsKept}

-- emptying a slot that is empty changes nothing
set_empty : (slots : List (Option Addr)) (i : ℕ) → slice_get slots i ≡ Some None → set slots i None ≡ slots
set_empty slots i e =
    let is : get_or slots i None ≡ None = get_or_from_slice_get slots i None None e in
    ap (λ v. set slots i v) (sym is) ∙ set-get_or slots i None

-- one slot more is set, and one name more is remembered
pub cleared_set : (slots : List (Option Addr)) (n : NameNo) (at : Addr) (names : List NameNo) → slice_get slots n.0 ≡ Some None → without_names (set slots n.0 (Some at)) (names ++ n ∷ []) ≡ without_names slots names
cleared_set slots n at [] e = set-set slots n.0 (Some at) None ∙ set_empty slots n.0 e
cleared_set slots n at (m ∷ names) e = ap (λ v. set v m.0 None) (cleared_set slots n at names e)

-- the last name is forgotten, and its slot is emptied
pub cleared_last : (slots : List (Option Addr)) (names : List NameNo) (n : NameNo) → without_names slots (names ++ n ∷ []) ≡ without_names (set slots n.0 None) names
cleared_last slots [] n = refl
cleared_last slots (m ∷ names) n = ap (λ v. set v m.0 None) (cleared_last slots names n)

count_some : (x : Addr) (slots : List (Option Addr)) → count_by is_some (Some x ∷ slots) ≡ 1 + count_by is_some slots
count_some x slots = sum_by-cons (λ (o : Option Addr). cond (is_some o) 1 0) (Some x) slots

count_none : (slots : List (Option Addr)) → count_by is_some (None ∷ slots) ≡ count_by is_some slots
count_none slots = sum_by-cons (λ (o : Option Addr). cond (is_some o) 1 0) None slots ∙ omega arith

-- a slot more that is not empty
pub count_set : (slots : List (Option Addr)) (i : ℕ) (at : Addr) → slice_get slots i ≡ Some None → count_by is_some (set slots i (Some at)) ≡ count_by is_some slots + 1
count_set [] i at e = cc
count_set (None ∷ slots) zero at e = count_some at slots ∙ omega (arith, count_none slots)
count_set (Some x ∷ slots) zero at e = cc
count_set (None ∷ slots) (suc i) at e = count_none (set slots i (Some at)) ∙ omega (arith, count_set slots i at e, count_none slots)
count_set (Some x ∷ slots) (suc i) at e = count_some x (set slots i (Some at)) ∙ omega (arith, count_set slots i at e, count_some x slots)

pub count_below : (slots : List (Option Addr)) (i : ℕ) → slice_get slots i ≡ Some None → count_by is_some slots < length slots
count_below [] i e = cc
count_below (None ∷ slots) zero e = omega (arith, count_by-le-length {X = Option Addr} is_some slots, count_none slots)
count_below (Some x ∷ slots) zero e = cc
count_below (None ∷ slots) (suc i) e = omega (arith, count_below slots i e, count_none slots)
count_below (Some x ∷ slots) (suc i) e = omega (arith, count_below slots i e, count_some x slots)

-- names with slots, and one more
pub names_push : (count : ℕ) (names : List NameNo) (n : NameNo) → IsTrue (names_below count names) → n.0 < count → IsTrue (names_below count (names ++ n ∷ []))
names_push count names n all below =
    list_all-append (name_below count) names (n ∷ []) ∙ and_from _ _ all (and_from _ _ (lt-ltb n.0 count below) refl)

-- the last of names with slots
pub names_last : (count : ℕ) (names : List NameNo) (n : NameNo) → IsTrue (names_below count (names ++ n ∷ [])) → IsTrue (names_below count names) × (n.0 < count)
names_last count names n all =
    let parts = and_parts (names_below count names) (names_below count (n ∷ [])) (sym (list_all-append (name_below count) names (n ∷ [])) ∙ all) in
    (parts.0, ltb-true n.0 count (and_parts (name_below count n) _ parts.1).0)

-- one slot more is set and remembered
pub kept_set : (slots : List (Option Addr)) (names : List NameNo) (room : ℕ) (n : NameNo) (at : Addr) → n.0 < length slots → slice_get slots n.0 ≡ Some None → IsKept slots names room → IsKept (set slots n.0 (Some at)) (names ++ n ∷ []) room
kept_set slots names room n at within empty k = record {
  named = rw (length-set slots n.0 (Some at)) (names_push (length slots) names n k.named within);
  few = omega (arith, k.few, count_set slots n.0 at empty, length_push names n);
  taken = omega (arith, k.taken, length-set slots n.0 (Some at));
}

-- there is room for the name of an empty slot
pub room_left : (slots : List (Option Addr)) (names : List NameNo) (room i : ℕ) → slice_get slots i ≡ Some None → IsKept slots names room → length names < room
room_left slots names room i empty k = omega (arith, k.few, k.taken, count_below slots i empty)

-- more room does no harm
pub kept_room : (slots : List (Option Addr)) (names : List NameNo) (room more : ℕ) → room ≤ more → IsKept slots names room → IsKept slots names more
kept_room slots names room more le k = record { named = k.named; few = k.few; taken = omega (arith, k.taken) }

-- what a transaction began with stands
pub begun_set : (pending : Bool) (slots : List (Option Addr)) (names : List NameNo) (n : NameNo) (at : Addr) → pending ≡ true → slice_get slots n.0 ≡ Some None → at_begin pending (set slots n.0 (Some at)) (names ++ n ∷ []) ≡ at_begin pending slots names
begun_set true slots names n at e empty = ap (λ v. Some v) (cleared_set slots n at names empty)
begun_set false slots names n at e empty = refl

-- emptying a slot leaves the number of slots
pub names_emptied : (slots : List (Option Addr)) (names : List NameNo) (i : ℕ) → IsTrue (names_below (length slots) names) → IsTrue (names_below (length (set slots i None)) names)
names_emptied slots names i k = rw (length-set slots i None) k
