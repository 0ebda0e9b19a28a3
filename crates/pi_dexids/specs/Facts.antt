-- Facts that are computed once and kept in lists by number.
use Rattle.std.specs.Prelude.{◌≡◌, ◌<◌, ◌+◌, ◌-◌, ◌==◌, zero, suc, if◌then◌else◌, ℕ, List, [], ◌∷◌, length, slice_get, Some, Bool}
use Rattle.pi_format.specs.Tables.{count_at, string_ids, type_ids, class_defs}
use Rattle.pi_format.specs.Rules.Strings.{type_string, type_units}
use Rattle.pi_format.specs.Rules.Classes.{class_entry}
use Rattle.pi_dexids.specs.Tables.{HasTables}

-- a list has for each number below a bound what a function gives
pub record AreFacts {A : Type 0} (fact : ℕ → A) (n : ℕ) (list : List A) : Type 0 where
  pub counted : length list ≡ n
  pub each : (k : ℕ) → k < n → slice_get list k ≡ Some (fact k)

abbrev pub first_unit : List ℕ → ℕ
first_unit [] = 0
first_unit (u ∷ units) = u

-- the first unit of a type's descriptor
unfoldable pub letter_of : List ℕ → ℕ → ℕ
letter_of file t = first_unit (type_units file t)

-- the first of n numbers, from i on, that passes a test, or else the number behind them
abbrev pub first_from : (ℕ → Bool) → ℕ → ℕ → ℕ
first_from test i zero = i
first_from test i (suc n) = if test i then i else first_from test (i + 1) n

-- the first definition of a type from the i-th definition on, or else their number
unfoldable pub first_definition : List ℕ → ℕ → ℕ → ℕ
first_definition file i t = first_from (λ k. (class_entry file k).class == t) i (count_at file class_defs - i)

-- A file whose tables lie in it and whose types name strings; a list of the first unit of each type, and one of the
-- first definition of each.
pub record KnowsTypes (file letters firsts : List ℕ) : Type 0 where
  pub tables : HasTables file
  pub strings : (t : ℕ) → t < count_at file type_ids → type_string file t < count_at file string_ids
  pub facts : AreFacts (letter_of file) (count_at file type_ids) letters
  pub definitions : AreFacts (first_definition file 0) (count_at file type_ids) firsts
