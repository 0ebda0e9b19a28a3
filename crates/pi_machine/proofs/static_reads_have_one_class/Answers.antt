-- The law stands in StepForms.
use Rattle.pi_machine.proofs.StepForms.{static_reads_have_one_class as law}
use Rattle.pi_machine.proofs.static_reads_have_one_class.Goals as goal

pub returns : goal.returns
returns c = law
