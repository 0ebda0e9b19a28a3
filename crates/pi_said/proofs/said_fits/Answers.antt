use Rattle.pi_said.proofs.Fold.{said_fits}
use Rattle.pi_said.proofs.said_fits.Goals as goal

pub returns : goal.returns
returns c = said_fits
