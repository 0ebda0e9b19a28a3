-- The table of opcodes: what its rows say of the length and of the high byte of the first unit.
use Rattle.std.specs.Prelude.{ℕ, ◌/◌, ◌==◌, not, nat_lt, Bool, false, Option, None, slice_index_or}
use Rattle.pi_insn.specs.declared.rows.TheConstants.{ROWS}
use Rattle.pi_insn.specs.declared.table.Row.{Row}
use Rattle.pi_insn.specs.declared.table.Row.TheVariants.{F10x, F12x, F11n, F11x, F10t, F20t, F22x, F21t, F21s, F21h, F21c, F23x, F22b, F22t, F22s, F22c, F30t, F32x, F31i, F31t, F31c, F35c, F3rc, F51l}

-- the row of an opcode
unfoldable pub row_of : ℕ → Option Row
row_of op = slice_index_or ROWS op None

-- the length of an instruction in units
abbrev pub units_of : Row → ℕ
units_of (F10x w) = 1
units_of (F12x w) = 1
units_of F11n = 1
units_of (F11x w) = 1
units_of F10t = 1
units_of F20t = 2
units_of (F22x k) = 2
units_of (F21t c) = 2
units_of (F21s w) = 2
units_of (F21h w) = 2
units_of (F21c w) = 2
units_of (F23x w) = 2
units_of (F22b op) = 2
units_of (F22t c) = 2
units_of (F22s op) = 2
units_of (F22c w) = 2
units_of F30t = 3
units_of (F32x k) = 3
units_of (F31i w) = 3
units_of (F31t w) = 3
units_of F31c = 3
units_of (F35c w) = 3
units_of (F3rc w) = 3
units_of F51l = 5

-- the format has no instruction with this high byte: it must be 0, or its upper half, a number of registers, is above 5
abbrev pub refuses : Row → ℕ → Bool
refuses (F10x w) high = not (high == 0)
refuses F20t high = not (high == 0)
refuses F30t high = not (high == 0)
refuses (F32x k) high = not (high == 0)
refuses (F35c w) high = nat_lt 5 (high / 16)
refuses _ high = false
