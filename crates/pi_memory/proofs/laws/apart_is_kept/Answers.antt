-- The law stands in Effects.
use Rattle.pi_memory.proofs.Effects.{apart_kept}
use Rattle.pi_memory.proofs.laws.apart_is_kept.Goals as goal

pub returns : goal.returns
returns c = apart_kept
