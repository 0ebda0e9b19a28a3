use Rattle.pi_classdata.proofs.Members.{rows_members}
use Rattle.pi_classdata.proofs.laws.rows_are_members.Goals as goal

pub returns : goal.returns
returns c = rows_members
