-- The data that fill-array-data and the switches point at.
use Rattle.std.specs.Prelude.{ℕ, ◌+◌, ◌*◌, ◌/◌, ◌==◌, ◌||◌, nat_lt, Bool, List, [], ◌∷◌, length, take, drop, ℤ, Option, Some, None, if◌then◌else◌}
use Rattle.pi_insn.specs.Numbers.{signed_number, word}

-- a payload with its units; a 32-bit number is two of them, the low one first
pub data Data : Type 0 where
  PackedData : ℤ → List ℕ → Data
  SparseData : List ℕ → List ℕ → Data
  ArrayData : ℕ → ℕ → List ℕ → Data

-- the number of keys and targets, the first key and a target for each key
abbrev pub packed_data : ℕ → List ℕ → Option Data
packed_data size rest =
    if nat_lt (length rest) (2 + 2 * size) then None
    else Some (PackedData (signed_number 2147483648 (word rest 0)) (take (2 * size) (drop 2 rest)))

-- a key for each target and then the targets
abbrev pub sparse : ℕ → List ℕ → Option Data
sparse size rest =
    if nat_lt (length rest) (4 * size) then None
    else Some (SparseData (take (2 * size) rest) (take (2 * size) (drop (2 * size) rest)))

-- the widths in bytes of an array's items
abbrev pub is_width : ℕ → Bool
is_width n = (n == 1) || (n == 2) || (n == 4) || (n == 8)

-- the units of so many bytes, the last of them padded
abbrev pub units_for : ℕ → ℕ
units_for bytes = (bytes + 1) / 2

-- the number of items and their bytes
abbrev pub array : ℕ → List ℕ → Option Data
array width rest =
    if is_width width then
    (if nat_lt (length rest) 2 then None else
    if nat_lt (length rest) (2 + units_for (width * word rest 0)) then None
    else Some (ArrayData width (word rest 0) (take (units_for (width * word rest 0)) (drop 2 rest))))
    else None

-- the payload with which these units begin, where one stands there whole: its kind, a unit and the rest
unfoldable pub payload : List ℕ → Option Data
payload [] = None
payload (kind ∷ []) = None
payload (kind ∷ second ∷ rest) =
    if kind == 0x0100 then packed_data second rest else
    if kind == 0x0200 then sparse second rest else
    if kind == 0x0300 then array second rest else None

-- the payload at a place
abbrev pub payload_at : List ℕ → ℕ → Option Data
payload_at units at = payload (drop at units)
