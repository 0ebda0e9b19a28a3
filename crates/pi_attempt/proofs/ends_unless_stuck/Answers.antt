-- The law stands in Turns.
use Rattle.pi_attempt.proofs.Turns.{ends_unless_stuck}
use Rattle.pi_attempt.proofs.ends_unless_stuck.Goals as goal

pub returns : goal.returns
returns c = ends_unless_stuck
