-- What memory keeps for a transaction, and what it is a transaction's beginning by.
use Rattle.std.specs.Prelude.{◌≡◌, ℕ, ◌<◌, ◌≤◌, ◌%◌, List, length, slice_set, Option, option_map}
use Rattle.std.specs.Option.{ForSome}
use Rattle.pi_memory.specs.Space.{Space}
use Rattle.pi_memory.specs.Memory.{Begun, space_at, AreLaid}

-- the number of a space, and its bytes when the transaction began
pub record Copy : Type 0 where
  pub space : ℕ
  pub bytes : List ℕ

-- the spaces with the bytes of one of them as they were
abbrev pub taken_back : List Space → Copy → List Space
taken_back ss copy = slice_set ss copy.space (record (space_at ss copy.space) { bytes = copy.bytes })

abbrev pub undo_of : List Space → Option Copy → Option Begun
undo_of ss saved = option_map (λ copy. record { space = copy.space; before = taken_back ss copy }) saved

-- the copy is of one of the spaces, of which bytes were added since and none were taken away
pub record IsCopy (ss : List Space) (copy : Copy) : Type 0 where
  pub there : copy.space < length ss
  pub whole : length copy.bytes % 8 ≡ 0
  pub shorter : length copy.bytes ≤ length (space_at ss copy.space).bytes

-- what memory keeps
pub record IsKept (ss : List Space) (copy : Option Copy) : Type 0 where
  pub few : length ss ≤ 9
  pub laid : AreLaid ss
  pub saved : ForSome copy (IsCopy ss)
