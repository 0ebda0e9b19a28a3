use Rattle.std.proofs.Common.{◌-◌, length, drop}
use Rattle.pi_dexraw.proofs.Marks.{AreMarked}
use Rattle.pi_dexraw.proofs.distinct.are_distinct.Given as goal

abbrev pub invariant-loop-done : goal.invariant-loop-done
invariant-loop-done l = AreMarked l.mark (length l.initial.marks.items) (drop (length l.list - l.done) l.list) l.marks.items
