use Rattle.pi_codeitem.proofs.Taken.{item_stands}
use Rattle.pi_codeitem.proofs.laws.items_stand.Goals as goal

pub returns : goal.returns
returns c = item_stands
