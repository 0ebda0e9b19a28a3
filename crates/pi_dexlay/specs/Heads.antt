-- The front of a code item, and whether its ranges reach their lists.
use Rattle.std.specs.Prelude.{ℕ, nat_le, List, [], ◌∷◌, ◌++◌, length, slice_index, Bool}
use Rattle.std.specs.List.{list_all}
use Rattle.pi_parts.specs.Parts.{halves, words}
use Rattle.pi_dextables.specs.declared.tables.Body.{Body}
use Rattle.pi_dextables.specs.Codes.{list_places}
use Rattle.pi_dextables.specs.declared.tables.Range.{Range}
use Rattle.pi_format.specs.Rules.Rows.{MemberRow}
use Rattle.pi_dexlay.specs.declared.rows.Row.{Row}

-- the head of a code item, and the units
abbrev pub head_bytes : Body → List ℕ
head_bytes b =
    halves (b.registers ∷ b.ins ∷ b.outs ∷ length b.ranges ∷ []) ++ (words (0 ∷ length b.units ∷ []) ++ halves b.units)

-- the place of the list of each range fits its 16 bits
abbrev pub fit : List ℕ → List Range → Bool
fit places ranges = list_all (λ r. nat_le (slice_index places r.list) 65535) ranges

-- a row as the format reads it
abbrev pub read_row : Row → MemberRow
read_row r = record { id = r.id; flags = r.flags; code = r.code }

abbrev pub all_fit : List Body → Bool
all_fit bodies = list_all (λ b. fit (list_places b.lists) b.ranges) bodies
