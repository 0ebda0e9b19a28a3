-- The law stands in Moves.
use Rattle.pi_machine.proofs.Moves.{looks_are_true as law}
use Rattle.pi_machine.proofs.looks_are_true.Goals as goal

pub returns : goal.returns
returns c = law
