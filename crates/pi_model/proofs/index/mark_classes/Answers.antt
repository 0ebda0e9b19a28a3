use Rattle.std.proofs.Common.{length}
use Rattle.pi_model.specs.Uses.{class_below}
use Rattle.pi_model.specs.Index.{class_name}
use Rattle.pi_model.proofs.Firsts.{firsts_step, all_at, class_name_below}
use Rattle.pi_model.proofs.index.mark_classes.Goals as goal

pub loop-place-preserved : goal.loop-place-preserved
loop-place-preserved c =
    let passes = all_at (class_below (length c.args.slots.now)) c.args.classes.now c.loop-place.place c.index-classes-place.result c.loop-place-test.true c.index-classes-place.is c.requires.named in
    let below = class_name_below c.index-classes-place.result (length c.args.slots.now) passes in
    rw c.mark.ensures (firsts_step class_name c.loop-place.slots c.args.classes.now c.loop-place.place c.index-classes-place.result c.loop-place-test.true c.index-classes-place.is c.loop-place.invariant (rw c.loop-place.auto.slots below))
