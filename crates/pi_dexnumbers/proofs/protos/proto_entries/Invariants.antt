use Rattle.std.proofs.Common.{◌≡◌, take, map}
use Rattle.pi_dexnumbers.specs.Rows.{proto_of_line}
use Rattle.pi_dexnumbers.proofs.protos.proto_entries.Given as goal

abbrev pub invariant-loop-line : goal.invariant-loop-line
invariant-loop-line l = l.entries ≡ map proto_of_line (take l.line-index l.lines)
