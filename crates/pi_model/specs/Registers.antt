-- The registers of an instruction as their number and five places. The form is our own.
use Rattle.std.specs.Prelude.{ℕ, zero, suc, ◌+◌, ◌%◌, nat_le, List, [], ◌∷◌, ◌++◌, length, take, slice_index, if◌then◌else◌}

-- registers in a row from a first one on, modulo 2^16
abbrev pub registers_in_row : ℕ → ℕ → List ℕ
registers_in_row first zero = []
registers_in_row first (suc n) = (first % 65536) ∷ registers_in_row (first + 1) n

-- the registers that a number and five places stand for: that many of the places, or above five a row from the first one on
abbrev pub named_registers : ℕ → List ℕ → List ℕ
named_registers n places = if nat_le n 5 then take n places else registers_in_row (slice_index places 0) n

-- the five places of registers: at most five with 0 behind them, or of more the first one alone
abbrev pub places_of : List ℕ → List ℕ
places_of regs =
    if nat_le (length regs) 5
    then take 5 (regs ++ 0 ∷ 0 ∷ 0 ∷ 0 ∷ 0 ∷ [])
    else slice_index regs 0 ∷ 0 ∷ 0 ∷ 0 ∷ 0 ∷ []
