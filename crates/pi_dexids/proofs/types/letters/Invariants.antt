use Rattle.pi_dexids.specs.Facts.{AreFacts, letter_of}
use Rattle.pi_dexids.proofs.types.letters.Given as goal

abbrev pub invariant-loop-t : goal.invariant-loop-t
invariant-loop-t l = AreFacts (letter_of l.file) l.t l.list.items
