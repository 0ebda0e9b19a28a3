-- The law stands in StepForms.
use Rattle.pi_machine.proofs.StepForms.{writes_have_one_target as law}
use Rattle.pi_machine.proofs.writes_have_one_target.Goals as goal

pub returns : goal.returns
returns c = law
