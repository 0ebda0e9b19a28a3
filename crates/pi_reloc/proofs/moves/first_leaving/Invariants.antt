use Rattle.std.proofs.Common.{ℕ, ◌<◌}
use Rattle.pi_reloc.specs.Patch.{IsMarked, Stays, word_at}
use Rattle.pi_reloc.proofs.moves.first_leaving.Given as goal

abbrev pub invariant-loop-k : goal.invariant-loop-k
invariant-loop-k l = (k : ℕ) → k < l.k → IsMarked l.map k → Stays (word_at l.bytes k) l.delta
