-- The law stands in StepForms.
use Rattle.pi_machine.proofs.StepForms.{steps_make_first as law}
use Rattle.pi_machine.proofs.steps_make_first.Goals as goal

pub returns : goal.returns
returns c = law
