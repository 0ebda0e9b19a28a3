use Rattle.std.proofs.Common.{◌≡◌, drop}
use Rattle.pi_format.specs.Rules.Pieces.{index_holds, first_insn}
use Rattle.pi_codeitem.proofs.indices.broken_index.Given as goal

abbrev pub invariant-loop-k : goal.invariant-loop-k
invariant-loop-k l = first_insn (λ at i. index_holds l.file i.body) (drop l.k l.walk.pieces) ≡ first_insn (λ at i. index_holds l.file i.body) l.walk.pieces
