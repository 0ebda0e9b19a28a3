use Rattle.std.proofs.Common.{◌≡◌, take}
use Rattle.pi_dexrows.proofs.numbers.halves.Given as goal

abbrev pub invariant-loop-number : goal.invariant-loop-number
invariant-loop-number l = l.units ≡ take l.number-index l.numbers
