-- The code of a method and the instruction at which a frame stands, by the addresses of the format page.
use Rattle.std.specs.Prelude.{ℕ, ◌==◌, Option, Some, None, option_and_then, find}
use Rattle.pi_model.specs.declared.describe.MethodDesc.{MethodDesc}
use Rattle.pi_model.specs.declared.describe.Code.{Code}
use Rattle.pi_model.specs.declared.describe.Line.{Line}
use Rattle.pi_model.specs.Program.{Program}
use Rattle.pi_model.specs.Search.{method_at, method_of}
use Rattle.pi_machine.specs.State.{Frame}

-- the code of a method by its number
abbrev pub code_in : Option MethodDesc → Option Code
code_in None = None
code_in (Some m) = m.code

-- the code of the method of a number
abbrev pub code_of : Program → ℕ → Option Code
code_of p n = code_in (option_and_then (method_at p) (method_of p n))

-- the instruction at an address of a code
abbrev pub line_at : Option Code → ℕ → Option Line
line_at None at = None
line_at (Some code) at = find (λ (l : Line). l.at == at) code.insns

-- the instruction at which a frame stands
abbrev pub line_of : Program → Frame → Option Line
line_of p f = line_at (code_of p f.method) f.at
