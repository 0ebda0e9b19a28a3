-- The law stands in Effects.
use Rattle.pi_memory.proofs.Effects.{write_laid}
use Rattle.pi_memory.proofs.laws.write_stays_laid.Goals as goal

pub returns : goal.returns
returns c = write_laid
