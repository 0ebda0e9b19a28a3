-- The law stands in Statuses.
use Rattle.pi_machine.proofs.Statuses.{start_records_run as law}
use Rattle.pi_machine.proofs.start_records_run.Goals as goal

pub returns : goal.returns
returns c = law
