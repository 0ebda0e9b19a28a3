use Rattle.pi_classlaws.proofs.TablesWhole.{tables_keep}
use Rattle.pi_classlaws.proofs.Written.{rules_written, said_written}
use Rattle.pi_classlaws.proofs.classes_are_written.Goals as goal

pub returns-clause-kept : goal.returns-clause-kept
returns-clause-kept c es t file spelled sized made fits is = rules_written es t file made (tables_keep es spelled sized t made) fits is

pub returns-clause-said : goal.returns-clause-said
returns-clause-said c es t file spelled sized made fits is = said_written es t file made (tables_keep es spelled sized t made) fits is
