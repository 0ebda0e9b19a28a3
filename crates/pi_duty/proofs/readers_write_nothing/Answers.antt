-- The law stands in NoWrites.
use Rattle.pi_duty.proofs.NoWrites.{no_writes}
use Rattle.pi_duty.proofs.readers_write_nothing.Goals as goal

pub returns : goal.returns
returns c = no_writes
