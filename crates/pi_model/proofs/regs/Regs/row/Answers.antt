use Rattle.std.proofs.Common.{◌≡◌, ◌∙◌, ◌∷◌, [], length, ap}
use Rattle.pi_model.specs.Registers.{named_registers, places_of, registers_in_row}
use Rattle.pi_model.proofs.Registers.{few_in_row, more_in_row, row_place, length_row}
use Rattle.pi_model.proofs.regs.Regs.row.Goals as goal

more : (c : goal.Else-n-le5) → named_registers c.args.n (c.args.first ∷ 0 ∷ 0 ∷ 0 ∷ 0 ∷ []) ≡ registers_in_row c.args.first c.args.n
more c = more_in_row c.args.n (c.args.first ∷ 0 ∷ 0 ∷ 0 ∷ 0 ∷ []) c.if-n-le5.false

pub invariant_of-result : goal.invariant_of-result
invariant_of-result c =
    (ap length (more c) ∙ length_row c.args.first c.args.n, ap places_of (more c) ∙ row_place c.args.first c.args.n c.ranges.first.fits c.if-n-le5.false)

pub returns-then-n-le5 : goal.returns-then-n-le5
returns-then-n-le5 c =
    rw (c.few.ensures, c.in_row.ensures, c.in_row-then-n-le5.ensures, c.in_row-then-n-le5-2.ensures, c.in_row-then-n-le5-3.ensures)
    (few_in_row c.args.first c.args.n c.ranges.first.fits c.if-n-le5.true)
