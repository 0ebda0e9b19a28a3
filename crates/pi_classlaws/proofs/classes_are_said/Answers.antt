use Rattle.pi_classlaws.proofs.Writable.{tables_writable}
use Rattle.pi_classlaws.proofs.TablesWhole.{tables_keep}
use Rattle.pi_classlaws.proofs.classes_are_said.Goals as goal

pub returns-clause-closed : goal.returns-clause-closed
returns-clause-closed c es t spelled sized made = (tables_keep es spelled sized t made).closed

pub returns-clause-said : goal.returns-clause-said
returns-clause-said c es t spelled sized made = (tables_keep es spelled sized t made).said

pub returns-clause-writable : goal.returns-clause-writable
returns-clause-writable c = tables_writable
