use Rattle.pi_insn.proofs.Rounds.{read_is_in_table as read_is_in_table_lem}
use Rattle.pi_insn.proofs.laws.read_is_in_table.Goals as goal

pub returns : goal.returns
returns c = read_is_in_table_lem
