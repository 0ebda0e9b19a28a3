-- The law stands in Readings.
use Rattle.pi_machine.proofs.Readings.{references_go_on_alike as law}
use Rattle.pi_machine.proofs.references_go_on_alike.Goals as goal

pub returns : goal.returns
returns c = law
