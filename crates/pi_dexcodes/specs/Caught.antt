-- The numbers of the types that handlers catch, behind those of what instructions name.
use Rattle.std.specs.Prelude.{ℕ, nat_lt, List, map, drop, if◌then◌else◌}

-- a number as one of 16 bits, 0 where it is none
abbrev pub narrow : ℕ → ℕ
narrow n = if nat_lt n 65536 then n else 0

abbrev pub type_numbers : ℕ → List ℕ → List ℕ
type_numbers lines numbers = map narrow (drop lines numbers)
