-- The law stands in WordResults.
use Rattle.pi_machine.proofs.WordResults.{few_bytes_are_short as law}
use Rattle.pi_machine.proofs.few_bytes_are_short.Goals as goal

pub returns : goal.returns
returns c = law
