-- The opcodes and the operands of an instruction as they are held.
use Rattle.std.specs.Prelude.{◌≡◌, ℕ, nat_lt, List, [], ◌++◌, length, Bool, All, if◌then◌else◌}
use Rattle.std.specs.Option.{option_to_list}
use Rattle.pi_insn.specs.declared.raw.RawBody.{RawBody}
use Rattle.pi_insn.specs.declared.raw.RawRegs.{RawRegs}
use Rattle.pi_insn.specs.Writing.{NamesFew}
use Rattle.pi_classtables.specs.Forms.{as_run, first_form}
use Rattle.pi_dexforms.specs.declared.bodies.Bodies.{Bodies}
use Rattle.pi_dexforms.specs.declared.opcode.Opcodes.{Opcodes}
use Rattle.pi_dexforms.specs.declared.opcode.Opcodes.TheVariants.{Absent, One, Two, Three, Four}

-- the opcodes in order
abbrev pub list_of : Opcodes → List ℕ
list_of Absent = []
list_of (One opcodes) = opcodes
list_of (Two opcodes) = opcodes
list_of (Three opcodes) = opcodes
list_of (Four opcodes) = opcodes

-- registers in a row, where they follow each other and a byte can count them
abbrev pub short_run : List ℕ → List RawRegs
short_run regs = if nat_lt (length regs) 256 then as_run regs else []

-- the operands in order
abbrev pub bodies_of : Bodies → List RawBody
bodies_of held = option_to_list held.first ++ option_to_list held.second

-- Operands as they are held stand for these: an instruction has the same forms by both, and among those that are held
-- registers named one by one are at most five.
pub record StandFor (held : Bodies) (bodies : List RawBody) : Type 0 where
  pub forms : (n : ℕ) (sparse : Bool) → first_form n sparse (bodies_of held) ≡ first_form n sparse bodies
  pub few : All NamesFew (bodies_of held)
