use Rattle.pi_tablesaid.proofs.ClassesSaid.{tables_say_contents}
use Rattle.pi_tablesaid.proofs.tables_say_contents.Goals as goal

pub returns : goal.returns
returns c = tables_say_contents
