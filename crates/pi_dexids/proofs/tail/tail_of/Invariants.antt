use Rattle.std.proofs.Common.{◌≡◌, ◌-◌, length, drop}
use Rattle.pi_dexids.specs.Tails.{tail_of}
use Rattle.pi_dexids.proofs.tail.tail_of.Given as goal

abbrev pub invariant-loop-done : goal.invariant-loop-done
invariant-loop-done l = l.tail ≡ tail_of (drop (length l.units - l.done) l.units)
