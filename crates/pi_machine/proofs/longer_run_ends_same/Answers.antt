-- The law stands in Ended.
use Rattle.pi_machine.proofs.Ended.{longer_run_ends_same as law}
use Rattle.pi_machine.proofs.longer_run_ends_same.Goals as goal

pub returns : goal.returns
returns c = law
