use Rattle.std.proofs.Common.{◌≡◌, sym, ap, ◌∙◌}
use Rattle.pi_format.specs.Rules.Pieces.{Piece}
use Rattle.pi_codeitem.proofs.Walked.{walked_none, walked_more, walk_stopped, walk_ended}
use Rattle.pi_codeitem.proofs.walking.walk.Goals as goal

pub loop-at-init : goal.loop-at-init
loop-at-init c = rw (c.new-starts.ensures.items, c.new-askers.ensures.items) (walked_none c.args.units.now)

pub new-requires : goal.new-requires
new-requires c =
    walk_stopped c.args.units.now c.loop-at.at c.loop-at.starts.items c.loop-at.askers.items c.loop-at.invariant c.requires c.loop-at-test.true (sym c.front.ensures.value ∙ c.in_default.is)

pub loop-at-preserved : goal.loop-at-preserved
loop-at-preserved c =
    let p = c.in-Some.piece in
    let more = walked_more c.args.units.now c.loop-at.at c.loop-at.starts.items c.loop-at.askers.items p c.loop-at.invariant c.loop-at-test.true c.in-Some.ensures.value c.in-Some.ensures.begins c.in-Some.ensures.inside c.in-Some.ensures.some in
    let a : c.piece.inside.at ≡ p.at = ap (λ (q : Piece). q.at) c.piece.view_is in
    let u : c.piece.inside.units ≡ p.units = ap (λ (q : Piece). q.units) c.piece.view_is in
    rw (c.in_ok-push.ensures.items, c.in_ok-push-2.ensures.items, c.asker.ensures, a, u) more

pub new-requires-2 : goal.new-requires-2
new-requires-2 c =
    walk_ended c.args.units.now c.loop-at.at c.loop-at.starts.items c.loop-at.askers.items c.loop-at.invariant c.requires c.loop-at-test.false
