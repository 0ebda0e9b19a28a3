use Rattle.std.proofs.Common.{All, take}
use Rattle.pi_dextables.proofs.fits.all_fit.Given as goal

abbrev pub invariant-loop-x : goal.invariant-loop-x
invariant-loop-x g l = All g.T.Fit.fits (take l.x-index l.xs)
