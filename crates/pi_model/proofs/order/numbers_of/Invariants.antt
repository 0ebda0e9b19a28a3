use Rattle.std.proofs.Common.{◌≡◌, take, map}
use Rattle.pi_model.proofs.order.numbers_of.Given as goal

abbrev pub invariant-loop-key : goal.invariant-loop-key
invariant-loop-key l = l.order.items ≡ map (λ key. key.1) (take l.key-index l.keyed)
