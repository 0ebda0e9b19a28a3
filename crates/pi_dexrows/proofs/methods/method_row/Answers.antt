use Rattle.std.proofs.Common.{option_map, refl, sym, ap, ◌∙◌}
use Rattle.pi_dexrows.specs.Taken.{first_no}
use Rattle.pi_dexrows.proofs.RowSteps.{row_with, row_made}
use Rattle.pi_dexrows.proofs.methods.method_row.Goals as goal

pub returns-in_default : goal.returns-in_default
returns-in_default c = λ p text class rest few are.
    ap (option_map (row_with (first_no c.args.numbers.now) c.args.method.now.flags)) (sym c.in_default.is)
    ∙ row_made p text class c.args.method.now c.args.sparse.now c.args.numbers.now c.behind.result.now rest (first_no c.args.numbers.now) c.in_ok-code.field-0
    refl c.behind.ensures are (c.in_ok-code.ensures p text rest few)

pub returns : goal.returns
returns c = λ p text class rest few are.
    ap (option_map (row_with c.first.result c.args.method.now.flags)) (sym c.in-Some.is)
    ∙ row_made p text class c.args.method.now c.args.sparse.now c.args.numbers.now c.behind.result.now rest c.first.result c.in_ok-code.field-0
    c.first.ensures c.behind.ensures are (c.in_ok-code.ensures p text rest few)
