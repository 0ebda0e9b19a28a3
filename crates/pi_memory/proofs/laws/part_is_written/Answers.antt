-- The law stands in Effects.
use Rattle.pi_memory.proofs.Effects.{part_written}
use Rattle.pi_memory.proofs.laws.part_is_written.Goals as goal

pub returns : goal.returns
returns c = part_written
