-- The law stands in RowDeeds.
use Rattle.pi_machine.proofs.RowDeeds.{row_writes_are_inside as law}
use Rattle.pi_machine.proofs.row_writes_are_inside.Goals as goal

pub returns : goal.returns
returns c = law
