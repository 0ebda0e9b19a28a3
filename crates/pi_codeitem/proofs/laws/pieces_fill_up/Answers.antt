use Rattle.pi_codeitem.proofs.Filled.{walk_fills}
use Rattle.pi_codeitem.proofs.laws.pieces_fill_up.Goals as goal

pub returns : goal.returns
returns c = walk_fills
