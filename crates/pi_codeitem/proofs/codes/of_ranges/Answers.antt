use Rattle.std.proofs.Common.{sym, ap, ◌∙◌}
use Rattle.pi_format.specs.Rules.CodeItems.{CodeHead}
use Rattle.pi_codeitem.proofs.Items.{head_refused, head_unread, head_apart, head_lists, lists_read}
use Rattle.pi_codeitem.proofs.codes.of_ranges.Goals as goal

pub returns-then-not-ranges_hold : goal.returns-then-not-ranges_hold
returns-then-not-ranges_hold c =
    sym (head_refused c.args.file.now c.args.at c.args.head.now c.requires.head c.requires.some (sym c.ranges_hold.ensures ∙ c.if-not-ranges_hold.true))

pub returns-in_default : goal.returns-in_default
returns-in_default c =
    let read = lists_read c.args.file.now c.args.at c.head.inside.units c.lists_at.result c.args.head.now c.in_ok-lists.field-0 (ap (λ (h : CodeHead). h.units) c.head.view_is) c.lists_at.ensures c.in_ok-lists.ensures in
    sym (head_unread c.args.file.now c.args.at c.args.head.now c.requires.head c.requires.some (sym c.ranges_hold.ensures ∙ c.if-not-ranges_hold.false) (read ∙ c.in_default.is))

pub returns-then-not-have_lists : goal.returns-then-not-have_lists
returns-then-not-have_lists c =
    let read = lists_read c.args.file.now c.args.at c.head.inside.units c.lists_at.result c.args.head.now c.in_ok-lists.field-0 (ap (λ (h : CodeHead). h.units) c.head.view_is) c.lists_at.ensures c.in_ok-lists.ensures in
    sym (head_apart c.args.file.now c.args.at c.args.head.now c.in-Some.lists c.requires.head c.requires.some (sym c.ranges_hold.ensures ∙ c.if-not-ranges_hold.false) (read ∙ c.in-Some.is)
    (sym c.have_lists.ensures ∙ c.if-not-have_lists.true))

pub returns : goal.returns
returns c =
    let read = lists_read c.args.file.now c.args.at c.head.inside.units c.lists_at.result c.args.head.now c.in_ok-lists.field-0 (ap (λ (h : CodeHead). h.units) c.head.view_is) c.lists_at.ensures c.in_ok-lists.ensures in
    sym (head_lists c.args.file.now c.args.at c.args.head.now c.in-Some.lists c.requires.head c.requires.some (sym c.ranges_hold.ensures ∙ c.if-not-ranges_hold.false) (read ∙ c.in-Some.is)
    (sym c.have_lists.ensures ∙ c.if-not-have_lists.false))
