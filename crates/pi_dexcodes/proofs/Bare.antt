-- The names in an instruction do not matter to its operands, nor to its payload.
use Rattle.std.proofs.Common.{◌≡◌, ℕ, Bool, refl}
use Rattle.pi_model.specs.declared.insn.Insn.{Insn}
use Rattle.pi_model.specs.declared.insn.Insn.TheVariants.{Nop}
use Rattle.pi_contents.specs.Named.{bare}
use Rattle.pi_classtables.specs.Forms.{raw_bodies}
use Rattle.pi_classtables.specs.Layout.{payload_units, is_scattered, data_fits}

pub bodies_bare : (n at payload : ℕ) (i : Insn) → raw_bodies n at payload (bare i) ≡ raw_bodies n at payload i
unfolding bare raw_bodies
bodies_bare n at payload Nop = refl
bodies_bare n at payload _ = refl

pub payload_bare : (sparse : Bool) (at : ℕ) (i : Insn) → payload_units sparse at (bare i) ≡ payload_units sparse at i
unfolding bare payload_units
payload_bare sparse at Nop = refl
payload_bare sparse at _ = refl

pub scattered_bare : (i : Insn) → is_scattered (bare i) ≡ is_scattered i
unfolding bare
scattered_bare Nop = refl
scattered_bare _ = refl

pub fits_bare : (i : Insn) → data_fits (bare i) ≡ data_fits i
unfolding bare
fits_bare Nop = refl
fits_bare _ = refl
