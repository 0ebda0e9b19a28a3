use Rattle.std.proofs.Common.{◌<◌, length, refl, sym, ap, ◌∙◌, subst}
use Rattle.std.specs.Prelude.{slice_get}
use Rattle.pi_format.specs.Rules.Pieces.{Walk}
use Rattle.pi_codeitem.proofs.Standing.{numbered}
use Rattle.pi_codeitem.proofs.walks.Walk.piece.Goals as goal

pub front-requires-clause-inside : goal.front-requires-clause-inside
front-requires-clause-inside c =
    let counted = subst (λ (w : Walk). c.args.k < length w.pieces) (sym c.self.view_is) c.requires in
    let here = numbered c.self.inside.units.now c.self.inside.starts.items c.self.inside.askers.items c.self.inside.stop c.args.k c.index.result.now c.self.invariant counted c.index.ensures in
    here.inside

pub unwrap-requires : goal.unwrap-requires
unwrap-requires c =
    let counted = subst (λ (w : Walk). c.args.k < length w.pieces) (sym c.self.view_is) c.requires in
    let here = numbered c.self.inside.units.now c.self.inside.starts.items c.self.inside.askers.items c.self.inside.stop c.args.k c.index.result.now c.self.invariant counted c.index.ensures in
    rw (c.front.ensures.value, here.front) refl

pub returns : goal.returns
returns c =
    let counted = subst (λ (w : Walk). c.args.k < length w.pieces) (sym c.self.view_is) c.requires in
    let here = numbered c.self.inside.units.now c.self.inside.starts.items c.self.inside.askers.items c.self.inside.stop c.args.k c.index.result.now c.self.invariant counted c.index.ensures in
    ap (λ (w : Walk). slice_get w.pieces c.args.k) (sym c.self.view_is) ∙ here.found ∙ sym here.front ∙ sym c.front.ensures.value ∙ c.unwrap.ensures
