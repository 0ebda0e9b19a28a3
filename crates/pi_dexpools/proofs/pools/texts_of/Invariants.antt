use Rattle.std.proofs.Common.{◌≡◌, ◌++◌}
use Rattle.pi_dexpools.proofs.pools.texts_of.Given as goal

abbrev pub invariant-loop-key : goal.invariant-loop-key
invariant-loop-key l = l.texts ++ l.key-iterator ≡ l.fn.set.keys
