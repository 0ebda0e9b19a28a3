use Rattle.std.proofs.Common.{refl}
use Rattle.pi_dexids.proofs.Lists.{facts_pushed}
use Rattle.pi_dexids.proofs.facts.numbers.Goals as goal

pub loop-done-preserved : goal.loop-done-preserved
loop-done-preserved c =
    let items = c.in_ok-push.ensures.items in
    rw items (facts_pushed (λ k. c.args.number) c.loop-done.done c.loop-done.list.items c.args.number c.loop-done.invariant refl)
