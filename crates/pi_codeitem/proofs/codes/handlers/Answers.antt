use Rattle.std.proofs.Common.{List, Some, sym, ap, ◌∙◌}
use Rattle.pi_format.specs.Rules.CodeItems.{CodeHead, HandlerList}
use Rattle.pi_codeitem.proofs.Items.{no_tries}
use Rattle.pi_codeitem.proofs.codes.handlers.Goals as goal

pub returns-then-head-eq0 : goal.returns-then-head-eq0
returns-then-head-eq0 c =
    let none = sym (ap (λ (h : CodeHead). h.tries) (c.head.view_is ∙ c.head-head.ensures)) ∙ c.if-head-eq0.true in
    ap (λ (ls : List HandlerList). Some ls) c.none.ensures ∙ sym (no_tries c.args.file.now c.args.at none)
