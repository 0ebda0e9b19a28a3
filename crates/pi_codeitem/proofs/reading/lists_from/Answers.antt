use Rattle.std.proofs.Common.{◌≡◌, Option, sym, ap, ◌∙◌, subst}
use Rattle.pi_format.specs.Rules.CodeItems.{HandlerList, handler_list}
use Rattle.pi_codeitem.specs.Finding.{Finds}
use Rattle.pi_codeitem.proofs.Readers.{lists_more, lists_stops}
use Rattle.pi_codeitem.proofs.reading.lists_from.Goals as goal

pub returns-in_default : goal.returns-in_default
returns-in_default c =
    let e = subst (λ (o : Option HandlerList). Finds (handler_list c.args.file.now c.args.units c.loop-i.cursor) c.list.new.cursor o) c.in_default.is c.in_ok-list.ensures.exact in
    sym (lists_stops c.args.file.now c.args.units c.loop-i.i c.args.n c.loop-i.cursor c.loop-i.lists.items c.loop-i-test.true e) ∙ c.loop-i.invariant.so_far

pub loop-i-preserved : goal.loop-i-preserved
loop-i-preserved c =
    let l = c.in-Some.list in
    let more = lists_more c.args.file.now c.args.units c.args.n c.loop-i.i c.args.cursor.now c.loop-i.cursor c.list.new.cursor c.loop-i.places.items c.loop-i.lists.items c.in_ok-list.field-0 l
    c.loop-i.invariant c.loop-i-test.true c.in_ok-list.ensures.exact c.in_ok-list.ensures.same c.in_ok-list.ensures.behind c.in_ok-list.ensures.begins c.in-Some.is in
    let at : c.list-in-loop-i.inside.at ≡ l.at = ap (λ (h : HandlerList). h.at) c.list-in-loop-i.view_is in
    rw (c.in_ok-push.ensures.items, c.in_ok-push-2.ensures.items, at) more
