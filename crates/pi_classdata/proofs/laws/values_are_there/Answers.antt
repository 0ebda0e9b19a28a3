use Rattle.pi_classdata.proofs.Members.{values_name}
use Rattle.pi_classdata.proofs.laws.values_are_there.Goals as goal

pub returns : goal.returns
returns c = values_name
