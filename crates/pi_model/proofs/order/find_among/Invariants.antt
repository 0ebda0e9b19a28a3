use Rattle.std.proofs.Common.{drop}
use Rattle.pi_model.proofs.Orders.{Searched}
use Rattle.pi_model.proofs.order.find_among.Given as goal

abbrev pub invariant-loop-order : goal.invariant-loop-order
invariant-loop-order l = Searched l.names l.text (drop l.order-index l.orders)
