use Rattle.pi_classdata.proofs.Loops.{listed_at}
use Rattle.pi_classdata.proofs.table.RowTable.get.Goals as goal

pub returns-clause-listed : goal.returns-clause-listed
returns-clause-listed c =
    λ f n e. listed_at f n c.self.inside.classes.items c.args.self.now c.args.i c.index.result.now c.self.view_is e c.requires c.index.ensures
