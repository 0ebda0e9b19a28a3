-- The law stands in RunLaws.
use Rattle.pi_machine.proofs.RunLaws.{run_end_unique}
use Rattle.pi_machine.proofs.run_end_is_unique.Goals as goal

pub returns : goal.returns
returns c = run_end_unique
