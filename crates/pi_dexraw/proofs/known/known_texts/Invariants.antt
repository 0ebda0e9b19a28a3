use Rattle.pi_dexids.specs.Facts.{AreFacts}
use Rattle.pi_dexraw.specs.Whole.{known_of}
use Rattle.pi_dexraw.proofs.known.known_texts.Given as goal

abbrev pub invariant-loop-i : goal.invariant-loop-i
invariant-loop-i l = AreFacts (known_of l.file) l.i l.list.items
