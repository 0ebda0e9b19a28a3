-- One space of memory: its bytes from the base up to the fill mark, and the end of its range.
use Rattle.std.specs.Prelude.{◌≡◌, ℕ, ◌+◌, ◌-◌, ◌%◌, ◌^◌, ◌<◌, ◌≤◌, Bool, ◌&&◌, ◌||◌, nat_le, List, [], ◌++◌, length, take, drop, replicate}

pub record Space : Type 0 where
  pub base : ℕ
  pub bytes : List ℕ
  pub end : ℕ

-- what stands where there is no space
abbrev pub no_space : Space
no_space = record { base = 0; bytes = []; end = 0 }

-- the fill mark: the address behind the last byte
abbrev pub mark_of : Space → ℕ
mark_of s = s.base + length s.bytes

-- the address is in the range of the space, below its mark or above
pub record IsIn (a : ℕ) (s : Space) : Type 0 where
  pub from : s.base ≤ a
  pub to : a < s.end

-- whether no address from the base up to, not including, the end is in the range of the space
abbrev pub apart : ℕ → ℕ → Space → Bool
apart base end s = nat_le end s.base || nat_le s.end base || nat_le end base || nat_le s.end s.base

-- whether n bytes from an address stand in the space, all of them below its mark
abbrev pub holds : ℕ → ℕ → Space → Bool
holds at n s = nat_le s.base at && nat_le (at + n) (mark_of s)

-- the n bytes from an address of the space
abbrev pub bytes_in : ℕ → ℕ → Space → List ℕ
bytes_in at n s = take n (drop (at - s.base) s.bytes)

-- the space with other bytes from an address on
abbrev pub with_bytes : ℕ → List ℕ → Space → Space
with_bytes at ys s = record s { bytes = take (at - s.base) s.bytes ++ (ys ++ drop (length ys) (drop (at - s.base) s.bytes)) }

-- the space with its mark n bytes higher: the bytes up to there are 0
abbrev pub with_zeros : ℕ → Space → Space
with_zeros n s = record s { bytes = s.bytes ++ replicate n 0 }

-- what is true of each space
pub record IsSpace (s : Space) : Type 0 where
  pub base_is_whole : s.base % 8 ≡ 0
  pub bytes_are_whole : length s.bytes % 8 ≡ 0
  pub fits : mark_of s ≤ s.end
  pub low : s.end ≤ 2 ^ 31
