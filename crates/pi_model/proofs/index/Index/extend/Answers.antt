use Rattle.std.proofs.Common.{rules, ◌≡◌, ◌∷◌, [], ◌++◌, length}
use Rattle.pi_model.specs.Order.{AreOrders}
use Rattle.pi_model.proofs.Orders.{AreOrders-from, at_any}
use Rattle.pi_model.proofs.index.Index.extend.Goals as goal

pub returns-else-is_err-clause-ordered : goal.returns-else-is_err-clause-ordered
returns-else-is_err-clause-ordered c =
    let grown : AreOrders c.args.names.now 0 (c.args.self.now.orders ++ c.in_ok-order.order.items ∷ []) =
    AreOrders-from c.args.names.now (length c.args.self.now.type_slots) c.args.self.now.orders c.in_ok-order.order.items c.requires.more c.requires.ordered (search rules) in
    let orders : c.mark_all-marked.new.self.orders ≡ c.args.self.now.orders ++ c.in_ok-order.order.items ∷ [] = search rules in
    rw orders (at_any c.mark_all-marked.result grown)
