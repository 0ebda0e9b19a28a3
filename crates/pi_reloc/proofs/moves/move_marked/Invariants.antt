use Rattle.pi_reloc.proofs.Words.{IsMovedTo}
use Rattle.pi_reloc.proofs.moves.move_marked.Given as goal

abbrev pub invariant-loop-k : goal.invariant-loop-k
invariant-loop-k l = IsMovedTo l.map l.delta l.k l.fn.bytes l.bytes
