use Rattle.pi_dexsizes.proofs.Spelled.{spelled_again}
use Rattle.pi_dexsizes.proofs.laws.whatever_the_names.Goals as goal

pub returns : goal.returns
returns c = spelled_again
