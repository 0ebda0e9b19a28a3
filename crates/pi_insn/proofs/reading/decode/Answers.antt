use Rattle.pi_insn.proofs.Rounds.{may_be_written}
use Rattle.pi_insn.proofs.reading.decode.Goals as goal

pub returns-clause-listed : goal.returns-clause-listed
returns-clause-listed c = may_be_written _ _ _ _ c.read.ensures.value
