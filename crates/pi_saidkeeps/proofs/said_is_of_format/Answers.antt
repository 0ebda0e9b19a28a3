use Rattle.pi_saidkeeps.proofs.Whole.{said_is_of_format}
use Rattle.pi_saidkeeps.proofs.said_is_of_format.Goals as goal

pub returns : goal.returns
returns c = said_is_of_format
