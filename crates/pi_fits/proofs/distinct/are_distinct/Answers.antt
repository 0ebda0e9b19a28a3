use Rattle.pi_fits.proofs.Differ.{known_more}
use Rattle.pi_fits.proofs.distinct.are_distinct.Goals as goal

pub loop-units-preserved : goal.loop-units-preserved
loop-units-preserved c =
    let (keys, absent) = c.in_ok-add_text.ensures.new c.if-not-branch.false in
    let (known, distinct) =
    known_more c.args.texts.now c.loop-units.units-index c.units-item.result c.as_slice.result.now c.loop-units.known.keys c.add_text.new.known.keys
    c.loop-units-test.true c.units-item.is c.as_slice.ensures c.loop-units.invariant.known c.loop-units.invariant.distinct keys absent in
    record { known = known; distinct = distinct }
