-- Facts of a class by itself, and what the format gives of each class that a file says.
use Rattle.std.specs.Prelude.{◌≡◌, ℕ, ◌+◌, ◌==◌, ◌&&◌, nat_lt, List, [], ◌∷◌, Option, Some, None, Bool, true, false}
use Rattle.std.specs.List.{list_all}
use Rattle.pi_model.specs.declared.describe.Line.{Line}
use Rattle.pi_model.specs.declared.describe.Code.{Code}
use Rattle.pi_model.specs.declared.describe.ClassDesc.{ClassDesc}
use Rattle.pi_model.specs.declared.describe.MethodDesc.{MethodDesc}

-- each instruction begins where the one before it ends, the first at that address, and none is empty
abbrev pub laid_from : ℕ → List Line → Bool
laid_from at [] = true
laid_from at (l ∷ ls) = (l.at == at) && (nat_lt 0 l.units && laid_from (at + l.units) ls)

-- there is code, whose instructions lie so from address 0 on
abbrev pub code_laid : Option Code → Bool
code_laid None = false
code_laid (Some code) = laid_from 0 code.insns

abbrev pub method_laid : MethodDesc → Bool
method_laid m = code_laid m.code

-- code that is there has a number of registers of 16 bits
abbrev pub few_registers : Option Code → Bool
few_registers None = true
few_registers (Some code) = nat_lt code.regs 65536

-- there is code, and it has such a number
abbrev pub code_small : Option Code → Bool
code_small None = false
code_small (Some code) = nat_lt code.regs 65536

abbrev pub method_small : MethodDesc → Bool
method_small m = code_small m.code

-- the class is of the file with that number, and its codes have numbers of registers of 16 bits
pub record IsOfFile (number : ℕ) (d : ClassDesc) : Type 0 where
  pub file : d.file.0 ≡ number
  pub registers : list_all (λ (m : MethodDesc). few_registers m.code) d.methods ≡ true
