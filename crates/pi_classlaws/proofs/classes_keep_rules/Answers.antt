use Rattle.pi_classlaws.proofs.EntriesKept.{types_fit, protos_fit_all, fields_fit, methods_fit}
use Rattle.pi_classlaws.proofs.MembersFiled.{all_members_filed}
use Rattle.pi_classlaws.proofs.TablesWhole.{tables_keep}
use Rattle.pi_classlaws.proofs.classes_keep_rules.Goals as goal

pub returns-clause-x13 : goal.returns-clause-x13
returns-clause-x13 c = types_fit

pub returns-clause-x14 : goal.returns-clause-x14
returns-clause-x14 c = protos_fit_all

pub returns-clause-x15 : goal.returns-clause-x15
returns-clause-x15 c = fields_fit

pub returns-clause-x16 : goal.returns-clause-x16
returns-clause-x16 c = methods_fit

pub returns-clause-x18 : goal.returns-clause-x18
returns-clause-x18 c = all_members_filed

pub returns-clause-x19 : goal.returns-clause-x19
returns-clause-x19 c es t spelled sized made = (tables_keep es spelled sized t made).x19

pub returns-clause-x20 : goal.returns-clause-x20
returns-clause-x20 c es t spelled sized made = (tables_keep es spelled sized t made).x20

pub returns-clause-x21 : goal.returns-clause-x21
returns-clause-x21 c es t spelled sized made = (tables_keep es spelled sized t made).x21

pub returns-clause-x23 : goal.returns-clause-x23
returns-clause-x23 c es t spelled sized made = (tables_keep es spelled sized t made).x23
