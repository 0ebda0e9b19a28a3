-- The law stands in Effects.
use Rattle.pi_memory.proofs.Effects.{bump_laid}
use Rattle.pi_memory.proofs.laws.bump_stays_laid.Goals as goal

pub returns : goal.returns
returns c = bump_laid
