-- The law stands in Ended.
use Rattle.pi_machine.proofs.Ended.{ended_is_at_rest as law}
use Rattle.pi_machine.proofs.ended_is_at_rest.Goals as goal

pub returns : goal.returns
returns c = law
