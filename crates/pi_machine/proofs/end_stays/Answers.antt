-- The law stands in RunLaws.
use Rattle.pi_machine.proofs.RunLaws.{end_stays_law}
use Rattle.pi_machine.proofs.end_stays.Goals as goal

pub returns : goal.returns
returns c = end_stays_law
