use Rattle.pi_insn.proofs.Rounds.{written_is_read as written_is_read_lem}
use Rattle.pi_insn.proofs.laws.written_is_read.Goals as goal

pub returns : goal.returns
returns c = written_is_read_lem
