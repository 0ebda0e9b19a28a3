-- The law stands in Effects.
use Rattle.pi_memory.proofs.Effects.{bump_keeps}
use Rattle.pi_memory.proofs.laws.bump_keeps.Goals as goal

pub returns : goal.returns
returns c = bump_keeps
