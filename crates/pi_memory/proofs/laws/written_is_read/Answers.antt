-- The law stands in Effects.
use Rattle.pi_memory.proofs.Effects.{written_read}
use Rattle.pi_memory.proofs.laws.written_is_read.Goals as goal

pub returns : goal.returns
returns c = written_read
