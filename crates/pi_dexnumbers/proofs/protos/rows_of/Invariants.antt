use Rattle.std.proofs.Common.{◌≡◌, take, map}
use Rattle.pi_dexnumbers.specs.Rows.{proto_row}
use Rattle.pi_dexnumbers.proofs.protos.rows_of.Given as goal

abbrev pub invariant-loop-proto : goal.invariant-loop-proto
invariant-loop-proto l = l.rows ≡ map (proto_row l.types) (take l.proto-index l.protos)
