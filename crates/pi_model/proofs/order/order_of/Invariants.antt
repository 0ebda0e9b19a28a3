use Rattle.pi_model.proofs.Orders.{AreKeys}
use Rattle.pi_model.proofs.order.order_of.Given as goal

abbrev pub invariant-loop-n : goal.invariant-loop-n
invariant-loop-n l = AreKeys l.names l.first l.n l.keyed.items
