-- Numbers in a text: decimal without leading zeros, or 0x and one to eight lower-case hexadecimal digits.
use Rattle.std.specs.Prelude.{ℕ, ◌+◌, ◌-◌, ◌*◌, ◌==◌, ◌&&◌, nat_le, List, [], ◌∷◌, length, Option, Some, None, if◌then◌else◌, option_and_then}

-- the highest number of 32 bits
abbrev pub most_word : ℕ
most_word = 4294967295

-- a digit to base 10 or 16
abbrev pub digit_of : ℕ → ℕ → Option ℕ
digit_of base b =
    if nat_le 48 b && nat_le b 57 then Some (b - 48)
    else if (base == 16) && (nat_le 97 b && nat_le b 102) then Some (b - 87)
    else None

-- the number that digits give behind those of another number, the highest first
abbrev pub digits_from : ℕ → ℕ → List ℕ → Option ℕ
digits_from base above [] = Some above
digits_from base above (b ∷ bs) = option_and_then (λ d. digits_from base (above * base + d) bs) (digit_of base b)

-- what stands behind a first 0: nothing, or x and hexadecimal digits
abbrev pub behind_zero : List ℕ → Option ℕ
behind_zero [] = Some 0
behind_zero (x ∷ digits) =
    if (x == 120) && (nat_le 1 (length digits) && nat_le (length digits) 8) then digits_from 16 0 digits else None

-- the number that a field is
abbrev pub number_of : List ℕ → Option ℕ
number_of [] = None
number_of (b ∷ bs) = if b == 48 then behind_zero bs else digits_from 10 0 (b ∷ bs)

-- a number from a lowest up to a highest
abbrev pub if_in_range : ℕ → ℕ → ℕ → Option ℕ
if_in_range low high n = if nat_le low n && nat_le n high then Some n else None

-- the number that a field is, in a range
abbrev pub number_in : ℕ → ℕ → List ℕ → Option ℕ
number_in low high text = option_and_then (if_in_range low high) (number_of text)
