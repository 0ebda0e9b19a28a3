-- The law stands in Effects.
use Rattle.pi_memory.proofs.Effects.{places_kept}
use Rattle.pi_memory.proofs.laws.places_are_kept.Goals as goal

pub returns : goal.returns
returns c = places_kept
