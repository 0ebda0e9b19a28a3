use Rattle.std.proofs.Common.{◌≡◌, drop}
use Rattle.pi_format.specs.Rules.Pieces.{points_well, first_insn}
use Rattle.pi_codeitem.proofs.switches.broken_payload.Given as goal

abbrev pub invariant-loop-k : goal.invariant-loop-k
invariant-loop-k l = first_insn (points_well l.walk.pieces) (drop l.k l.walk.pieces) ≡ first_insn (points_well l.walk.pieces) l.walk.pieces
