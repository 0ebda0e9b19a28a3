use Rattle.std.proofs.Common.{◌≡◌, take, length}
use Rattle.pi_dexnumbers.specs.Rows.{proto_lines}
use Rattle.pi_dexnumbers.proofs.protos.lines_of.Given as goal

abbrev pub invariant-loop-number : goal.invariant-loop-number
invariant-loop-number l = l.lines ≡ proto_lines l.texts l.types (take (length l.yielded) l.ranks) l.protos
