-- Instructions without their names: what they are, and what stands beside them.
use Rattle.std.proofs.Common.{◌≡◌, ℕ, List, refl}
use Rattle.std.specs.Prelude.{IsTrue}
use Rattle.pi_model.specs.declared.insn.Case.{Case}
use Rattle.pi_model.specs.declared.insn.Cond.{Cond}
use Rattle.pi_model.specs.declared.insn.Insn.{Insn}
use Rattle.pi_model.specs.declared.insn.Insn.TheVariants.{Nop, Goto, If, IfZ, Switch}
use Rattle.pi_model.specs.declared.numbers.NameNo.{NameNo}
use Rattle.pi_contents.specs.Named.{bare, naming_of}
use Rattle.pi_classtables.specs.Sized.{InsnSized, names_alike}

-- one that has none of its names has none to take away
pub bare_again : (i : Insn) → bare (bare i) ≡ bare i
unfolding bare
bare_again Nop = refl
bare_again _ = refl

-- what it names is of the kind that it has
pub named_alike : (text : NameNo → List ℕ) (i : Insn) → IsTrue (names_alike (bare i) (naming_of text i))
unfolding bare naming_of
named_alike text Nop = refl
named_alike text _ = refl

-- a nop names nothing, by whatever texts
pub nop_named : (one other : NameNo → List ℕ) (i : Insn) → bare i ≡ Nop → naming_of other i ≡ naming_of one i
unfolding bare naming_of
nop_named one other Nop e = refl
nop_named one other _ e = cc

-- only jumps, branches and switches have targets
pub others_sized : (i : Insn) → ((to : ℕ) → i ≡ Goto to → ⊥) → ((cond : Cond) (a b to : ℕ) → i ≡ If cond a b to → ⊥)
    → ((cond : Cond) (a to : ℕ) → i ≡ IfZ cond a to → ⊥) → ((a : ℕ) (cases : List Case) → i ≡ Switch a cases → ⊥) → InsnSized (bare i)
unfolding bare
others_sized (Goto to) goto branch zero_branch switch = absurd (goto to refl)
others_sized (If cond a b to) goto branch zero_branch switch = absurd (branch cond a b to refl)
others_sized (IfZ cond a to) goto branch zero_branch switch = absurd (zero_branch cond a to refl)
others_sized (Switch a cases) goto branch zero_branch switch = absurd (switch a cases refl)
others_sized _ goto branch zero_branch switch = tt
