use Rattle.std.proofs.Common.{◌≡◌, ◌-◌, [], length, map, arith, refl, ◌∙◌}
use Rattle.std.proofs.lemmas.List.{get_or_default}
use Rattle.std.proofs.lemmas.Result.{IfOk-weaker}
use Rattle.pi_model.specs.Order.{IsOrder}
use Rattle.pi_model.proofs.Orders.{keys_more, order_of_keys}
use Rattle.pi_model.proofs.order.order_of.Goals as goal

pub loop-n-preserved : goal.loop-n-preserved
loop-n-preserved c =
    rw c.in_ok-push.ensures.items (keys_more _ _ _ _ (c.as_slice.result, c.loop-n.n) c.loop-n.invariant c.loop-n.auto.n refl (c.as_slice.ensures ∙ c.index-names-n.is ∙ get_or_default _ _ _ [] c.loop-n-test.true))

pub returns : goal.returns
returns c =
    let end : c.loop-n.n ≡ length c.args.names.now = omega (arith, c.loop-n.auto.n-end c.requires.within, c.loop-n-test.false) in
    let done = order_of_keys c.args.names.now c.args.first c.loop-n.n c.loop-n.keyed.items c.sort_unstable.new.self.items c.loop-n.invariant (omega (arith, end)) c.sort_unstable.ensures.permutation c.sort_unstable.ensures.sorted in
    IfOk-weaker c.numbers_of.result (λ order. order.items ≡ map (λ key. key.1) c.as_slice-2.result.now) (λ order. IsOrder c.args.names.now c.args.first (length c.args.names.now - c.args.first) order.items)
    (λ order e. rw (e, c.as_slice-2.ensures.value, ← end) done) c.numbers_of.ensures
