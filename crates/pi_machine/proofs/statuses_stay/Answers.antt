-- The law stands in ManySteps.
use Rattle.pi_machine.proofs.ManySteps.{statuses_stay as law}
use Rattle.pi_machine.proofs.statuses_stay.Goals as goal

pub returns : goal.returns
returns c = law
