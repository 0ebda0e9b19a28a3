-- The instruction fits the registers, as all of the code do.
use Rattle.std.proofs.Common.{◌≡◌, ℕ, List, true, length, sym, subst}
use Rattle.std.specs.List.{list_all}
use Rattle.pi_duty.specs.Small.{insn_fits, line_fits}
use Rattle.pi_top.specs.Places.{Registers}
use Rattle.pi_top.proofs.Lists.{list_all-get, is_true}
use Rattle.pi_top.proofs.plain.step.advance.Goals as goal

pub perform-requires-clause-fits : goal.perform-requires-clause-fits
perform-requires-clause-fits g c =
    let fits : list_all (line_fits c.args.class.now (length c.frame.inside.registers.items)) c.args.code.now.insns ≡ true =
    subst (λ (f : Registers). list_all (line_fits c.args.class.now (length f.words)) c.args.code.now.insns ≡ true) (sym c.frame.view_is) c.requires.fits.fits in
    let here : insn_fits c.args.class.now (length c.frame.inside.registers.items) c.at-line.result.now.insn ≡ true =
    list_all-get (line_fits c.args.class.now (length c.frame.inside.registers.items)) c.args.code.now.insns c.frame.inside.line c.at-line.result.now fits c.at-line.ensures in
    is_true _ (subst (λ (words : List ℕ). insn_fits c.args.class.now (length words) c.at-line.result.now.insn ≡ true) (sym c.as_mut_slice.ensures.value) here)
