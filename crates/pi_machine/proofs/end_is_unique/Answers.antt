-- The law stands in RunLaws.
use Rattle.pi_machine.proofs.RunLaws.{end_unique}
use Rattle.pi_machine.proofs.end_is_unique.Goals as goal

pub returns : goal.returns
returns c = end_unique
