-- The law stands in Once.
use Rattle.pi_attempt.proofs.Once.{answered_once}
use Rattle.pi_attempt.proofs.each_answered_once.Goals as goal

pub returns : goal.returns
returns c = answered_once
