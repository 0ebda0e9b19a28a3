-- Slots for names, and a transaction that remembers which of them it has set.
use Rattle.std.specs.Prelude.{ℕ, ◌≤◌, Bool, true, false, List, [], ◌∷◌, length, count_by, is_some, slice_set, Option, Some, None, IsTrue}
use Rattle.pi_model.specs.declared.numbers.Addr.{Addr}
use Rattle.pi_model.specs.declared.numbers.NameNo.{NameNo}
use Rattle.pi_model.specs.Uses.{names_below}

-- the slots of the names as they are now, and while a transaction is pending as they were at its begin
pub record Slots : Type 0 where
  pub now : List (Option Addr)
  pub begun : Option (List (Option Addr))

-- the slots with those of some names emptied
abbrev pub without_names : List (Option Addr) → List NameNo → List (Option Addr)
without_names slots [] = slots
without_names slots (n ∷ names) = slice_set (without_names slots names) n.0 None

-- the slots at the begin of a transaction, which sets empty slots alone
abbrev pub at_begin : Bool → List (Option Addr) → List NameNo → Option (List (Option Addr))
at_begin false slots names = None
at_begin true slots names = Some (without_names slots names)

-- the names that were set have slots and are no more than the slots that are not empty, and there is room for as many
-- names as there are slots
pub record IsKept (slots : List (Option Addr)) (names : List NameNo) (room : ℕ) : Type 0 where
  pub named : IsTrue (names_below (length slots) names)
  pub few : length names ≤ count_by is_some slots
  pub taken : length slots ≤ room
