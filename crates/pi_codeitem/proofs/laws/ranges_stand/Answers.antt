use Rattle.pi_codeitem.proofs.Items.{lists_need_ranges}
use Rattle.pi_codeitem.proofs.laws.ranges_stand.Goals as goal

pub returns : goal.returns
returns c = lists_need_ranges
