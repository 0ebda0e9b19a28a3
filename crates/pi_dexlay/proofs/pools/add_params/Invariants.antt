use Rattle.std.proofs.Common.{◌≡◌, drop, map}
use Rattle.pi_dextables.specs.Items.{lists_in, with_all}
use Rattle.pi_dexlay.proofs.pools.add_params.Given as goal

abbrev pub invariant-loop-proto : goal.invariant-loop-proto
invariant-loop-proto l = with_all l.pool.keys (lists_in (map (λ p. p.params) (drop l.proto-index l.protos))) ≡ with_all l.fn.pool.keys (lists_in (map (λ p. p.params) l.protos))
