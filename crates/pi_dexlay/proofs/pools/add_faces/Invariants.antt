use Rattle.std.proofs.Common.{◌≡◌, drop, map}
use Rattle.pi_dextables.specs.Items.{lists_in, with_all}
use Rattle.pi_dexlay.proofs.pools.add_faces.Given as goal

abbrev pub invariant-loop-class : goal.invariant-loop-class
invariant-loop-class l = with_all l.pool.keys (lists_in (map (λ c. c.faces) (drop l.class-index l.classes))) ≡ with_all l.fn.pool.keys (lists_in (map (λ c. c.faces) l.classes))
