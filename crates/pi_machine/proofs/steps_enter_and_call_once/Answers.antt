-- The law stands in StepForms.
use Rattle.pi_machine.proofs.StepForms.{steps_enter_and_call_once as law}
use Rattle.pi_machine.proofs.steps_enter_and_call_once.Goals as goal

pub returns : goal.returns
returns c = law
