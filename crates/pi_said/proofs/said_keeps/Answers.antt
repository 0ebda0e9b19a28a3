use Rattle.pi_said.proofs.Fold.{said_keeps}
use Rattle.pi_said.proofs.said_keeps.Goals as goal

pub returns : goal.returns
returns c = said_keeps
