use Rattle.std.proofs.Common.{rules, sym, ◌∙◌}
use Rattle.pi_dex.proofs.Items.{item_stops}
use Rattle.pi_dex.proofs.code_rules.broken_item.Goals as goal

pub returns-in-None : goal.returns-in-None
returns-in-None c =
    item_stops c.args.file.now c.args.codes.now c.loop-i.i c.requires.rise (search rules) (sym c.in_ok-item_bytes.ensures ∙ c.in-None.is)
    ∙ c.loop-i.invariant.0
