use Rattle.pi_tablesaid.proofs.TypesKept.{types_kept}
use Rattle.pi_tablesaid.proofs.ProtosKept.{protos_kept}
use Rattle.pi_tablesaid.proofs.FieldsKept.{fields_kept}
use Rattle.pi_tablesaid.proofs.MethodsKept.{methods_kept}
use Rattle.pi_tablesaid.proofs.ClassesKept.{classes_kept}
use Rattle.pi_tablesaid.proofs.MembersKept.{members_kept}
use Rattle.pi_tablesaid.proofs.ValuesKept.{values_kept}
use Rattle.pi_tablesaid.proofs.CodesKept.{codes_kept}
use Rattle.pi_tablesaid.proofs.WalksKept.{walks_kept}
use Rattle.pi_tablesaid.proofs.IndicesKept.{indices_kept}
use Rattle.pi_tablesaid.proofs.PayloadsKept.{payloads_kept}
use Rattle.pi_tablesaid.proofs.tables_keep_rules.Goals as goal

pub returns-clause-x13 : goal.returns-clause-x13
returns-clause-x13 c = types_kept

pub returns-clause-x14 : goal.returns-clause-x14
returns-clause-x14 c = protos_kept

pub returns-clause-x15 : goal.returns-clause-x15
returns-clause-x15 c = fields_kept

pub returns-clause-x16 : goal.returns-clause-x16
returns-clause-x16 c = methods_kept

pub returns-clause-x17 : goal.returns-clause-x17
returns-clause-x17 c = classes_kept

pub returns-clause-x18 : goal.returns-clause-x18
returns-clause-x18 c = members_kept

pub returns-clause-x19 : goal.returns-clause-x19
returns-clause-x19 c = values_kept

pub returns-clause-x20 : goal.returns-clause-x20
returns-clause-x20 c = codes_kept

pub returns-clause-x21 : goal.returns-clause-x21
returns-clause-x21 c = walks_kept

pub returns-clause-x22 : goal.returns-clause-x22
returns-clause-x22 c = indices_kept

pub returns-clause-x23 : goal.returns-clause-x23
returns-clause-x23 c = payloads_kept
