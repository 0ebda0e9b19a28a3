-- The law stands in Once.
use Rattle.pi_duty.proofs.Once.{owes_one}
use Rattle.pi_duty.proofs.owes_once.Goals as goal

pub returns : goal.returns
returns c = owes_one
