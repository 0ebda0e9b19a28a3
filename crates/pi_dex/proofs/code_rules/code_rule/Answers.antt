use Rattle.std.proofs.Common.{◌∙◌}
use Rattle.pi_dex.proofs.Items.{code_by_parts, items_lie}
use Rattle.pi_dex.proofs.code_rules.code_rule.Goals as goal

pub returns : goal.returns
returns c =
    let file = c.args.raw.now in
    c.lower.ensures
    ∙ rw (c.in_ok-item.ensures, c.file.ensures.value, c.in_ok-words.ensures)
    (code_by_parts c.holds_in_parts.ensures file c.args.codes.now (items_lie file) c.requires.codes)
