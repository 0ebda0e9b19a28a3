use Rattle.std.specs.List.{AllWithin}
use Rattle.pi_dextables.specs.Writable.{RangeFits}
use Rattle.pi_dextables.proofs.fits.ranges_fit.Given as goal

abbrev pub invariant-loop-range : goal.invariant-loop-range
invariant-loop-range l = AllWithin (RangeFits l.lists) l.ranges 0 l.range-index
