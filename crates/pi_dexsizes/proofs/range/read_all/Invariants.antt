use Rattle.std.proofs.Common.{All, take}
use Rattle.pi_dexsizes.proofs.range.read_all.Given as goal

abbrev pub invariant-loop-value : goal.invariant-loop-value
invariant-loop-value g l = All g.T.InRange.in_range (take l.value-index l.values)
