use Rattle.std.proofs.Common.{◌≡◌, drop, map, []}
use Rattle.pi_dextables.specs.Items.{arrays_in, with_all}
use Rattle.pi_dexlay.proofs.pools.arrays_pool.Given as goal

abbrev pub invariant-loop-class : goal.invariant-loop-class
invariant-loop-class l = with_all l.pool.keys (arrays_in (map (λ c. c.values) (drop l.class-index l.class-items))) ≡ with_all [] (arrays_in (map (λ c. c.values) l.tables.classes))
