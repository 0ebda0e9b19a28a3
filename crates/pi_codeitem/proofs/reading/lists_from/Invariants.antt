use Rattle.pi_codeitem.proofs.Readers.{AreListed}
use Rattle.pi_codeitem.proofs.reading.lists_from.Given as goal

abbrev pub invariant-loop-i : goal.invariant-loop-i
invariant-loop-i l = AreListed l.file l.units l.n l.i l.fn.cursor l.cursor l.places.items l.lists.items
