use Rattle.pi_codeitem.proofs.Taken.{held_in_parts}
use Rattle.pi_codeitem.proofs.laws.holds_in_parts.Goals as goal

pub returns : goal.returns
returns c = held_in_parts
