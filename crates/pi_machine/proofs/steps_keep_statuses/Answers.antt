-- The law stands in Statuses.
use Rattle.pi_machine.proofs.Statuses.{steps_keep_statuses as law}
use Rattle.pi_machine.proofs.steps_keep_statuses.Goals as goal

pub returns : goal.returns
returns c = law
