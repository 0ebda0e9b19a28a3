use Rattle.std.proofs.Common.{arith, ◌++◌, take}
use Rattle.std.proofs.lemmas.Grind.{common_steps}
use Rattle.pi_base.proofs.Taken.{took_more}
use Rattle.pi_base.proofs.put.put_all.Goals as goal

pub loop-rest-preserved : goal.loop-rest-preserved
loop-rest-preserved g c =
    record {
      taken = c.loop-rest.invariant.taken ++ take c.in-Ok.taken c.loop-rest.rest.now;
      whole = grind (arith, common_steps);
      took = took_more _ _ _ _ _ c.loop-rest.invariant.took c.in-Ok.ensures.takes_front;
    }
