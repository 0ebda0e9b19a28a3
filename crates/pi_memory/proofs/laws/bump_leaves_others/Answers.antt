-- The law stands in Effects.
use Rattle.pi_memory.proofs.Effects.{bump_others}
use Rattle.pi_memory.proofs.laws.bump_leaves_others.Goals as goal

pub returns : goal.returns
returns c = bump_others
