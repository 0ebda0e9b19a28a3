use Rattle.pi_dexforms.proofs.Standing.{filled_stand}
use Rattle.pi_dexforms.proofs.bodies.filled.Goals as goal

pub returns : goal.returns
returns c =
    filled_stand c.args.index c.args.regs.now c.few.result c.run.result c.filled_with.result c.filled_with-2.result
    c.few.ensures.value c.few.ensures.are_few c.run.ensures c.filled_with.ensures c.filled_with-2.ensures
