use Rattle.std.proofs.Common.{◌≡◌, drop}
use Rattle.pi_dexlay.specs.Heads.{fit}
use Rattle.pi_dexlay.proofs.codes.places_fit.Given as goal

abbrev pub invariant-loop-range : goal.invariant-loop-range
invariant-loop-range l = fit l.places (drop l.range-index l.ranges) ≡ fit l.places l.ranges
