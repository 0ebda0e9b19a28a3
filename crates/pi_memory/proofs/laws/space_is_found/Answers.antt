-- The law stands in Effects.
use Rattle.pi_memory.proofs.Effects.{space_found}
use Rattle.pi_memory.proofs.laws.space_is_found.Goals as goal

pub returns : goal.returns
returns c = space_found
