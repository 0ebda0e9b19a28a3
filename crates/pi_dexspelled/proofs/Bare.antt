-- What instructions ask for without their names.
use Rattle.std.proofs.Common.{◌≡◌, ℕ, List, refl}
use Rattle.std.specs.Prelude.{◌==◌, ◌&&◌, Bool}
use Rattle.pi_model.specs.declared.insn.Insn.{Insn}
use Rattle.pi_model.specs.declared.insn.Insn.TheVariants.{Nop}
use Rattle.pi_model.specs.declared.numbers.NameNo.{NameNo}
use Rattle.pi_contents.specs.Contents.{Naming, NoName, OfText, OfType, OfField, OfMethod}
use Rattle.pi_contents.specs.Named.{bare, naming_of}
use Rattle.pi_classtables.specs.Numbers.{no_pools, index_of}
use Rattle.pi_classtables.specs.Forms.{raw_bodies}
use Rattle.pi_classtables.specs.Layout.{data_fits, is_scattered, payload_units}
use Rattle.pi_classtables.specs.Sized.{is_nothing}
use Rattle.pi_model.specs.declared.describe.Line.{Line}
use Rattle.pi_contents.specs.Named.{line_content}
use Rattle.pi_dexdata.specs.Numbers.{no_text}
use Rattle.pi_dexspelled.specs.Tests.{is_nop, is_pad}

pub bare_fits : (i : Insn) → data_fits (bare i) ≡ data_fits i
unfolding bare
bare_fits Nop = refl
bare_fits _ = refl

pub bare_scattered : (i : Insn) → is_scattered (bare i) ≡ is_scattered i
unfolding bare
bare_scattered Nop = refl
bare_scattered _ = refl

pub bare_payload : (sparse : Bool) (at : ℕ) (i : Insn) → payload_units sparse at (bare i) ≡ payload_units sparse at i
unfolding bare payload_units
bare_payload sparse at Nop = refl
bare_payload sparse at _ = refl

pub bare_bodies : (index at payload : ℕ) (i : Insn) → raw_bodies index at payload (bare i) ≡ raw_bodies index at payload i
unfolding bare raw_bodies
bare_bodies index at payload Nop = refl
bare_bodies index at payload _ = refl

pub no_index : (n : Naming) → index_of no_pools n ≡ 0
no_index NoName = refl
no_index (OfText s) = refl
no_index (OfType t) = refl
no_index (OfField f) = refl
no_index (OfMethod m) = refl

-- a nop names nothing, so the test of a nop need not ask it
nop_alone : (text : NameNo → List ℕ) (i : Insn) → (is_nop (bare i) && is_nothing (naming_of text i)) ≡ is_nop i
unfolding bare naming_of
nop_alone text Nop = refl
nop_alone text _ = refl

pub pad_of : (at : ℕ) (l : Line) → is_pad at (line_content no_text l) ≡ ((l.at == at) && ((l.units == 1) && is_nop l.insn))
pad_of at l = rw (nop_alone no_text l.insn) refl
