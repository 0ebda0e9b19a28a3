use Rattle.pi_codeitem.proofs.Askers.{all_pass}
use Rattle.pi_codeitem.proofs.laws.none_breaks.Goals as goal

pub returns : goal.returns
returns c = all_pass
