use Rattle.std.proofs.Common.{arith, refl, subst}
use Rattle.std.proofs.lemmas.List.Elements.{AllWithin-more}
use Rattle.std.proofs.lemmas.List.{get_or_default}
use Rattle.pi_dextables.specs.Writable.{RangeFits}
use Rattle.pi_dextables.proofs.fits.ranges_fit.Goals as goal

pub loop-range-preserved : goal.loop-range-preserved
loop-range-preserved c = AllWithin-more (RangeFits c.args.lists.now) c.args.ranges.now 0 c.loop-range.range-index c.loop-range.invariant
    (λ d. subst (RangeFits c.args.lists.now) (get_or_default c.args.ranges.now c.loop-range.range-index _ d c.loop-range-test.true) (c.range_fits.ensures.0 c.if-not-range_fits.false))

pub returns : goal.returns
returns c = (λ _ k d lt. c.loop-range.invariant k d (omega arith) (omega arith), λ _. refl)
