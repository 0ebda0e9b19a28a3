-- The law stands in Effects.
use Rattle.pi_memory.proofs.Effects.{part_read}
use Rattle.pi_memory.proofs.laws.part_is_read.Goals as goal

pub returns : goal.returns
returns c = part_read
