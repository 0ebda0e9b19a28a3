-- The law stands in RowDeeds.
use Rattle.pi_machine.proofs.RowDeeds.{rows_keep_within as law}
use Rattle.pi_machine.proofs.rows_keep_within.Goals as goal

pub returns : goal.returns
returns c = law
