use Rattle.std.proofs.Common.{◌≡◌, rules, sym, ◌∙◌}
use Rattle.std.specs.Prelude.{pos, ◌+ℤ◌}
use Rattle.pi_format.specs.Rules.Pieces.{address}
use Rattle.pi_codeitem.specs.Asking.{piece_in}
use Rattle.pi_codeitem.proofs.Askers.{even_found}
use Rattle.pi_codeitem.proofs.walks.Walk.number_of.Goals as goal

pub returns-clause-found : goal.returns-clause-found
returns-clause-found c =
    let there : c.address.result ≡ address (pos c.args.at +ℤ c.args.dist) = search rules in
    even_found c.args.self.now.pieces c.args.at c.in_ok-place.place c.args.dist (piece_in c.args.self.now.pieces c.number_from.result) (sym there ∙ c.in_ok-place.was) c.if-place-ne0.false c.number_from.ensures.found
