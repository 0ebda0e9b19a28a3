use Rattle.std.proofs.Common.{◌≡◌, take, map}
use Rattle.pi_dexnumbers.specs.Rows.{member_row}
use Rattle.pi_dexnumbers.proofs.members.member_rows.Given as goal

abbrev pub invariant-loop-member : goal.invariant-loop-member
invariant-loop-member l = l.rows ≡ map (member_row l.classes l.names l.kinds) (take l.member-index l.members)
