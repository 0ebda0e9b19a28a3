use Rattle.std.proofs.Common.{◌≡◌, take}
use Rattle.pi_dexnumbers.proofs.protos.halves.Given as goal

abbrev pub invariant-loop-number : goal.invariant-loop-number
invariant-loop-number l = l.units ≡ take l.number-index l.numbers
