-- The numbers in the units of an instruction. A number is given by half of its range, the number of its values that
-- are not negative.
use Rattle.std.specs.Prelude.{ℕ, suc, ◌+◌, ◌-◌, ◌*◌, ◌/◌, ◌%◌, ◌==◌, ◌&&◌, nat_lt, nat_le, List, slice_index, ℤ, pos, negsuc, Option, Some, None, if◌then◌else◌}

-- the signed number of these bits
abbrev pub signed_number : ℕ → ℕ → ℤ
signed_number half n = if nat_lt n half then pos n else negsuc (2 * half - suc n)

-- the bits extended by their sign to a larger range, modulo that range
abbrev pub signed_extension : ℕ → ℕ → ℕ → ℕ
signed_extension half range n = if nat_lt n half then n else n + (range - 2 * half)

-- the 32-bit number whose low unit is at a place, and the 64-bit number
abbrev pub word : List ℕ → ℕ → ℕ
word units i = slice_index units i + 65536 * slice_index units (i + 1)

abbrev pub long : List ℕ → ℕ
long units = word units 0 + 4294967296 * word units 2

-- the number where it is below a limit
abbrev pub number_below : ℕ → ℕ → Option ℕ
number_below limit n = if nat_lt n limit then Some n else None

-- the bits of a signed number, where it has so many
abbrev pub bits : ℕ → ℤ → Option ℕ
bits half (pos n) = if nat_lt n half then Some n else None
bits half (negsuc n) = if nat_lt n half then Some (2 * half - suc n) else None

-- the bits that are extended to a number of a larger range, where there are such
abbrev pub short_bits : ℕ → ℕ → ℕ → Option ℕ
short_bits half range n =
    if nat_lt n half then Some n else
    if nat_le (range - half) n && nat_lt n range then Some (n - (range - 2 * half)) else None

-- the number of units by which a number is a multiple, where it is one
abbrev pub exact_quotient : ℕ → ℕ → Option ℕ
exact_quotient unit n = if n % unit == 0 then Some (n / unit) else None
