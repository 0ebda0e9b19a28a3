use Rattle.std.proofs.Common.{◌≡◌, take, map}
use Rattle.pi_dexnumbers.specs.Rows.{member_of_row}
use Rattle.pi_dexnumbers.proofs.members.member_entries.Given as goal

abbrev pub invariant-loop-row : goal.invariant-loop-row
invariant-loop-row l = l.entries ≡ map member_of_row (take l.row-index l.rows)
