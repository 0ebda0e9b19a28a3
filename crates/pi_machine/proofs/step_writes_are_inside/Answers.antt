-- The law stands in StepForms.
use Rattle.pi_machine.proofs.StepForms.{step_writes_are_inside as law}
use Rattle.pi_machine.proofs.step_writes_are_inside.Goals as goal

pub returns : goal.returns
returns c = law
