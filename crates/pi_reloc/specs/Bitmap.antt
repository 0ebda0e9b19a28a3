-- Places that are marked or not, one bit a place.
use Rattle.std.specs.Prelude.{ℕ, ◌/◌, ◌%◌, ◌==◌, Bool, List, map, slice_index}
use Rattle.std.specs.Int.{bit_at}
use Rattle.std.specs.List.{range_with_len}

-- whether a place is marked: the low bit of a byte is the first of its eight places
abbrev pub mark_in : List ℕ → ℕ → Bool
mark_in bytes k = bit_at (slice_index bytes (k / 8)) (k % 8) == 1

-- the marks of the first n places
abbrev pub marks_in : ℕ → List ℕ → List Bool
marks_in n bytes = map (mark_in bytes) (range_with_len 0 n)
