-- The units of an instruction as they are held before memory is taken.
use Rattle.std.specs.Prelude.{ℕ, List, Option, Some, None}
use Rattle.pi_insn.specs.declared.packed.Packed.{Packed}
use Rattle.pi_insn.specs.declared.packed.Packed.TheVariants.{One, Two, Three, Five}

abbrev pub list_of : Packed → List ℕ
list_of (One units) = units
list_of (Two units) = units
list_of (Three units) = units
list_of (Five units) = units

abbrev pub list_where : Option Packed → Option (List ℕ)
list_where None = None
list_where (Some units) = Some (list_of units)
