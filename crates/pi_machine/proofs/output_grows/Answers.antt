-- The law stands in RunLaws.
use Rattle.pi_machine.proofs.RunLaws.{output_grows_law}
use Rattle.pi_machine.proofs.output_grows.Goals as goal

pub returns : goal.returns
returns c = output_grows_law
