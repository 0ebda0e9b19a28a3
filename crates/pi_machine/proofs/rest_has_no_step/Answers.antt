-- The law stands in Ended.
use Rattle.pi_machine.proofs.Ended.{rest_has_no_step as law}
use Rattle.pi_machine.proofs.rest_has_no_step.Goals as goal

pub returns : goal.returns
returns c = law
