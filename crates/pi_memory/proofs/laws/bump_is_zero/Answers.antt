-- The law stands in Effects.
use Rattle.pi_memory.proofs.Effects.{bump_zero}
use Rattle.pi_memory.proofs.laws.bump_is_zero.Goals as goal

pub returns : goal.returns
returns c = bump_zero
