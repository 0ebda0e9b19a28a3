use Rattle.std.proofs.Common.{sym, ap, ◌∙◌}
use Rattle.pi_dexids.specs.Texts.{head_at}
use Rattle.pi_dexids.proofs.Heads.{counted_units, no_units, same_numbers}
use Rattle.pi_dexids.proofs.texts.counts.Goals as goal

pub returns-in-Some : goal.returns-in-Some
returns-in-Some c = λ len.
    let file = c.args.file.now in
    let e = ap (head_at file) (sym c.text_place.ensures) ∙ sym c.in-Some.ensures.value in
    same_numbers c.in-Some.count c.args.n (counted_units file c.args.i c.args.n c.in-Some.count c.in-Some.field-0-1 e c.requires.some len)

pub returns-in-None : goal.returns-in-None
returns-in-None c = λ len.
    let file = c.args.file.now in
    let e = ap (head_at file) (sym c.text_place.ensures) ∙ sym c.in-None.ensures.value in
    absurd (no_units file c.args.i c.args.n e c.requires.some len)
