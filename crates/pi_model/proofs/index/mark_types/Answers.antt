use Rattle.std.proofs.Common.{length, get_or}
use Rattle.std.proofs.lemmas.List.{get_or_default}
use Rattle.pi_model.specs.declared.numbers.NameNo.{NameNo}
use Rattle.pi_model.specs.Uses.{name_below}
use Rattle.pi_model.specs.Index.{type_name}
use Rattle.pi_model.proofs.Firsts.{firsts_step, all_at, below_count}
use Rattle.pi_model.proofs.index.mark_types.Goals as goal

pub loop-place-preserved : goal.loop-place-preserved
loop-place-preserved c =
    let zero : NameNo = record { 0 = 0 } in
    let t : NameNo = get_or c.args.types.now c.loop-place.place zero in
    let is = get_or_default c.args.types.now c.loop-place.place zero t c.loop-place-test.true in
    let passes = all_at (name_below (length c.args.slots.now)) c.args.types.now c.loop-place.place t c.loop-place-test.true is c.requires.named in
    let below = below_count t (length c.args.slots.now) passes in
    rw c.mark.ensures (firsts_step type_name c.loop-place.slots c.args.types.now c.loop-place.place t c.loop-place-test.true is c.loop-place.invariant (rw c.loop-place.auto.slots below))
