-- A place in bytes: what a cursor is worth.
use Rattle.std.specs.Prelude.{ℕ, ◌+◌, ◌-◌, List, drop, take}

-- bytes, and the offset of the next one to be read
pub record Place : Type 0 where
  pub bytes : List ℕ
  pub at : ℕ

-- the bytes from a place on
abbrev pub bytes_from : Place → List ℕ
bytes_from p = drop p.at p.bytes

-- the place that many bytes further
abbrev pub place_behind : ℕ → Place → Place
place_behind n p = record { bytes = p.bytes; at = p.at + n }

-- the bytes from one place to a later one
abbrev pub bytes_between : Place → Place → List ℕ
bytes_between old new = take (new.at - old.at) (bytes_from old)
