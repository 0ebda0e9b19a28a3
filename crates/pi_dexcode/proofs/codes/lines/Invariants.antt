use Rattle.std.proofs.Common.{◌≡◌, ◌++◌, drop}
use Rattle.std.specs.List.{flat_map}
use Rattle.pi_format.specs.Says.Codes.{line_of, lines_of}
use Rattle.pi_dexcode.proofs.codes.lines.Given as goal

abbrev pub invariant-loop-k : goal.invariant-loop-k
invariant-loop-k l = l.lines ++ flat_map (line_of l.names l.walk.pieces) (drop l.k l.walk.pieces) ≡ lines_of l.names l.walk.pieces
