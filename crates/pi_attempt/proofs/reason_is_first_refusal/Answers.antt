-- The law stands in Refusals.
use Rattle.pi_attempt.proofs.Refusals.{reason_is_first_refusal as law}
use Rattle.pi_attempt.proofs.reason_is_first_refusal.Goals as goal

pub returns : goal.returns
returns c = law
