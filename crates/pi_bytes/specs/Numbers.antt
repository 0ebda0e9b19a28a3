-- Numbers at places of bytes, the low byte first. Past the end a byte reads as 0; what is read is tested to be there first.
use Rattle.std.specs.Prelude.{ℕ, zero, suc, ◌+◌, nat_le, List, [], ◌∷◌, length, drop, Bool}
use Rattle.byteorder.specs.Endian.{little_number}

-- the 16-bit number at a place
abbrev pub half_at : List ℕ → ℕ → ℕ
half_at file at = little_number 2 (drop at file)

-- the 32-bit number at a place
abbrev pub word_at : List ℕ → ℕ → ℕ
word_at file at = little_number 4 (drop at file)

-- that many bytes from a place are in the file
abbrev pub in_file : List ℕ → ℕ → ℕ → Bool
in_file file at n = nat_le (at + n) (length file)

-- n halves one behind the other
abbrev pub halves_at : List ℕ → ℕ → ℕ → List ℕ
halves_at file at zero = []
halves_at file at (suc n) = half_at file at ∷ halves_at file (at + 2) n

-- the most bytes that a file may have: 16 MiB
abbrev pub most_bytes : ℕ
most_bytes = 16777216

-- words are below this
abbrev pub word_end : ℕ
word_end = 4294967296

-- the word that stands for an index where there is none
abbrev pub no_index : ℕ
no_index = 4294967295
