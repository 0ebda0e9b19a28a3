use Rattle.pi_format.specs.Rules.CodeItems.{HandlerList}
use Rattle.pi_codeitem.proofs.Finds.{no_places}
use Rattle.pi_codeitem.proofs.handler_lists.HandlerLists.none.Goals as goal

pub invariant_of-result : goal.invariant_of-result
invariant_of-result c = rw (c.new.ensures.items, c.new-2.ensures.items) (no_places (λ (l : HandlerList). l.at))
