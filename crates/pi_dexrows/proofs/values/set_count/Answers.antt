use Rattle.std.proofs.Common.{arith}
use Rattle.pi_dexrows.proofs.SetValues.{set_here, unset_here}
use Rattle.pi_dexrows.proofs.values.set_count.Goals as goal
use Rattle.pi_dexrows.proofs.values.set_count.Goals.{then-field, else-field}

pub loop-place-preserved : goal.loop-place-preserved
loop-place-preserved c =
    elim c.if-field.branch [
      | then-field w ↦ record { within = omega arith; values = rw w.count-is (set_here c.args.fields.now c.loop-place.place _ c.loop-place-test.true w.if-field.true) }
      | else-field w ↦ record { within = omega arith; values = rw w.count-is (unset_here c.args.fields.now c.loop-place.place c.loop-place.count _ c.loop-place-test.true w.if-field.false c.loop-place.invariant.values) }
    ]
