use Rattle.pi_codeitem.proofs.Served.{each_is_served}
use Rattle.pi_codeitem.proofs.laws.ranges_are_served.Goals as goal

pub returns : goal.returns
returns c = each_is_served
