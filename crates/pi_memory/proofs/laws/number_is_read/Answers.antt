-- The law stands in Effects.
use Rattle.pi_memory.proofs.Effects.{number_read}
use Rattle.pi_memory.proofs.laws.number_is_read.Goals as goal

pub returns : goal.returns
returns c = number_read
