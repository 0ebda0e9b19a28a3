use Rattle.pi_dexforms.proofs.Standing.{invoke_stand}
use Rattle.pi_dexforms.proofs.bodies.invoke.Goals as goal

pub returns : goal.returns
returns c =
    invoke_stand c.args.how c.args.index c.args.regs.now c.few.result c.run.result c.invoke_with.result c.invoke_with-2.result
    c.few.ensures.value c.few.ensures.are_few c.run.ensures c.invoke_with.ensures c.invoke_with-2.ensures
