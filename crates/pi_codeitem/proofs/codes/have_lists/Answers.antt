use Rattle.std.proofs.Common.{◌≡◌, sym, ap, ◌∙◌, arith}
use Rattle.pi_format.specs.Rules.CodeItems.{CodeHead}
use Rattle.pi_format.proofs.Loops.{each_goes, each_stops}
use Rattle.pi_codeitem.proofs.Listing.{has_list, has_it}
use Rattle.pi_codeitem.proofs.codes.have_lists.Goals as goal

pub returns-then-not-has_list : goal.returns-then-not-has_list
returns-then-not-has_list c =
    let n : c.head.inside.tries ≡ c.args.head.now.tries = ap (λ (h : CodeHead). h.tries) c.head.view_is in
    let e = has_it c.args.file.now c.args.at c.args.head.now c.args.lists.now c.loop-k.k c.tries_at-begin.result c.lists_at-place.result c.has_list.result c.tries_at-begin.ensures.value c.lists_at-place.ensures c.has_list.ensures in
    let stop = each_stops (has_list c.args.file.now c.args.at c.args.head.now c.args.lists.now) c.loop-k.k c.args.head.now.tries (omega (arith, n)) (sym e ∙ c.if-not-has_list.true) in
    sym stop ∙ c.loop-k.invariant

pub loop-k-preserved : goal.loop-k-preserved
loop-k-preserved c =
    let n : c.head.inside.tries ≡ c.args.head.now.tries = ap (λ (h : CodeHead). h.tries) c.head.view_is in
    let e = has_it c.args.file.now c.args.at c.args.head.now c.args.lists.now c.loop-k.k c.tries_at-begin.result c.lists_at-place.result c.has_list.result c.tries_at-begin.ensures.value c.lists_at-place.ensures c.has_list.ensures in
    each_goes (has_list c.args.file.now c.args.at c.args.head.now c.args.lists.now) c.loop-k.k c.args.head.now.tries (omega (arith, n)) (sym e ∙ c.if-not-has_list.false) ∙ c.loop-k.invariant
