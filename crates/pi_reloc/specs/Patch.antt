-- Words of four bytes, the low byte first, and what moving some of them by a number means.
use Rattle.std.specs.Prelude.{◌≡◌, ℕ, ◌*◌, ◌^◌, ◌⊎◌, ℤ, pos, ◌+ℤ◌, ◌<ℤ◌, ◌≤ℤ◌, Bool, true, Some, List, drop, slice_get}
use Rattle.byteorder.specs.Endian.{little_number}

-- a place is in the map, and marked
abbrev pub IsMarked : List Bool → ℕ → Type 0
IsMarked marks k = slice_get marks k ≡ Some true

-- the word at a place, counted in words
abbrev pub word_at : List ℕ → ℕ → ℕ
word_at bytes k = little_number 4 (drop (4 * k) bytes)

-- the word plus delta is below 0 or above the last number of 32 bits
abbrev pub Leaves : ℕ → ℤ → Type 0
Leaves word delta = ((pos word +ℤ delta) <ℤ pos 0) ⊎ (pos (2 ^ 32) ≤ℤ (pos word +ℤ delta))

-- the word plus delta is a number of 32 bits
abbrev pub Stays : ℕ → ℤ → Type 0
Stays word delta = (pos 0 ≤ℤ (pos word +ℤ delta)) × ((pos word +ℤ delta) <ℤ pos (2 ^ 32))
