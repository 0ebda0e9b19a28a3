use Rattle.pi_bytes.proofs.Laws.{units_again}
use Rattle.pi_bytes.proofs.mutf8.written_is_read.Goals as goal

pub returns : goal.returns
returns c = units_again
