-- The law stands in Changes.
use Rattle.pi_machine.proofs.Changes.{deeds_change_only as law}
use Rattle.pi_machine.proofs.deeds_change_only.Goals as goal

pub returns : goal.returns
returns c = law
