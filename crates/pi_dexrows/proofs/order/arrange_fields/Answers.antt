use Rattle.std.proofs.Common.{rules}
use Rattle.pi_dexrows.specs.declared.fields.FieldPart.{FieldPart}
use Rattle.pi_dexrows.proofs.Sorts.{arranged_by_key}
use Rattle.pi_dexrows.proofs.order.arrange_fields.Goals as goal

pub returns : goal.returns
returns c = arranged_by_key (λ (f : FieldPart). f.row.id) _ _ c.in_ok-sort_by_key.ensures.sorted c.sort_by_key.ensures.stable (λ a r q k. search rules)
