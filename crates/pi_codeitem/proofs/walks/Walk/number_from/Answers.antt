use Rattle.std.proofs.Common.{sym, ap, ◌∙◌}
use Rattle.std.specs.Prelude.{◌==◌, find}
use Rattle.pi_format.specs.Rules.Pieces.{Piece, Walk, walk}
use Rattle.pi_codeitem.proofs.Finds.{none_past}
use Rattle.pi_codeitem.proofs.walks.Walk.number_from.Goals as goal

pub returns-else-at-clause-found : goal.returns-else-at-clause-found
returns-else-at-clause-found c =
    sym (none_past (λ (p : Piece). p.at) c.args.at c.self.inside.starts.items (walk c.self.inside.units.now).pieces c.self.invariant.begins c.if-at.false)
    ∙ ap (λ (w : Walk). find (λ (p : Piece). p.at == c.args.at) w.pieces) c.self.view_is
