use Rattle.std.proofs.Common.{◌<◌, length, sym, ap, ◌∙◌, subst}
use Rattle.std.specs.Prelude.{slice_get}
use Rattle.pi_format.specs.Rules.Pieces.{Walk, walk, payload_fits}
use Rattle.pi_codeitem.specs.Asking.{payload_in}
use Rattle.pi_codeitem.proofs.Askers.{numbered_fits}
use Rattle.pi_codeitem.proofs.walks.Walk.is_asked.Goals as goal

pub returns-in-None : goal.returns-in-None
returns-in-None c =
    let counted = subst (λ (w : Walk). c.args.k < length w.pieces) (sym c.self.view_is) c.requires in
    let fits = numbered_fits c.args.op c.args.k (walk c.self.inside.units.now).pieces c.self.inside.askers.items c.index.result.now c.self.invariant.asked counted c.index.ensures in
    rw c.in-None.is at fits ∙ ap (λ (w : Walk). payload_fits c.args.op (payload_in (slice_get w.pieces c.args.k))) c.self.view_is

pub returns-in-Some : goal.returns-in-Some
returns-in-Some c =
    let counted = subst (λ (w : Walk). c.args.k < length w.pieces) (sym c.self.view_is) c.requires in
    let fits = numbered_fits c.args.op c.args.k (walk c.self.inside.units.now).pieces c.self.inside.askers.items c.index.result.now c.self.invariant.asked counted c.index.ensures in
    rw c.in-Some.is at fits ∙ ap (λ (w : Walk). payload_fits c.args.op (payload_in (slice_get w.pieces c.args.k))) c.self.view_is
