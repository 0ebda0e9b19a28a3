-- The law stands in Effects.
use Rattle.pi_memory.proofs.Effects.{others_kept}
use Rattle.pi_memory.proofs.laws.others_are_kept.Goals as goal

pub returns : goal.returns
returns c = others_kept
