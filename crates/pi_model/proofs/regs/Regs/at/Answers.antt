use Rattle.std.proofs.Common.{◌≡◌, ◌∙◌, ◌<◌, ℕ, slice_index, length, sym, ap, subst}
use Rattle.pi_model.specs.Registers.{registers_in_row}
use Rattle.pi_model.proofs.Registers.{get_row, length_row, more_in_row}
use Rattle.pi_model.proofs.regs.Regs.at.Goals as goal

pub returns-else-self-le5 : goal.returns-else-self-le5
returns-else-self-le5 c =
    let first : ℕ = slice_index c.self.inside.places 0 in
    let n : ℕ = c.self.inside.n in
    let row : c.args.self.now ≡ registers_in_row first n = sym c.self.view_is ∙ more_in_row n c.self.inside.places c.if-self-le5.false in
    let within : c.args.place < n = subst (λ k. c.args.place < k) (ap length row ∙ length_row first n) c.requires in
    rw (row, c.in_row.ensures) (get_row first n c.args.place within)
