-- Memory as the list of its spaces in the order of adding, and the transaction that is pending.
use Rattle.std.specs.Prelude.{◌≡◌, ◌≢◌, ℕ, ◌<◌, ◌≤◌, List, length, slice_set, slice_index_or, Option}
use Rattle.std.specs.List.{position_or_len}
use Rattle.std.specs.Option.{ForSome}
use Rattle.pi_memory.specs.Space.{Space, no_space, mark_of, IsIn, IsSpace, holds, bytes_in, with_bytes, with_zeros}

-- a transaction: the space that it is on, and all spaces as they were when it began
pub record Begun : Type 0 where
  pub space : ℕ
  pub before : List Space

pub record Store : Type 0 where
  pub spaces : List Space
  pub undo : Option Begun

-- the space of a number
abbrev pub space_at : List Space → ℕ → Space
space_at ss k = slice_index_or ss k no_space

-- the number of the space that has n bytes from an address below its mark; past all numbers where none has
abbrev pub holder : List Space → ℕ → ℕ → ℕ
holder ss at n = position_or_len (holds at n) ss

-- the n bytes from an address stand wholly below the mark of a space
abbrev pub IsBelow : List Space → ℕ → ℕ → Type 0
IsBelow ss at n = holder ss at n < length ss

-- the n bytes that stand from an address on
abbrev pub bytes_at : List Space → ℕ → ℕ → List ℕ
bytes_at ss at n = bytes_in at n (space_at ss (holder ss at n))

-- the spaces with other bytes from an address on
abbrev pub with_bytes_at : List Space → ℕ → List ℕ → List Space
with_bytes_at ss at ys = slice_set ss (holder ss at (length ys)) (with_bytes at ys (space_at ss (holder ss at (length ys))))

-- the spaces with the mark of one of them n bytes higher
abbrev pub with_zeros_in : List Space → ℕ → ℕ → List Space
with_zeros_in ss k n = slice_set ss k (with_zeros n (space_at ss k))

-- a transaction that is pending is on the space of that number
abbrev pub IsOn : Option Begun → ℕ → Type 0
IsOn undo k = ForSome undo (λ u. u.space ≡ k)

-- no address from the base up to, not including, the end is in the range of a space
abbrev pub IsFree : List Space → ℕ → ℕ → Type 0
IsFree ss base end = (k a : ℕ) → k < length ss → IsIn a (space_at ss k) → base ≤ a → end ≤ a

-- what is true of all spaces together: an address is in the range of one of them at most
pub record AreLaid (ss : List Space) : Type 0 where
  pub each : (k : ℕ) → k < length ss → IsSpace (space_at ss k)
  pub apart : (i j a : ℕ) → i < length ss → j < length ss → IsIn a (space_at ss i) → IsIn a (space_at ss j) → i ≡ j

-- what is true of the beginning of a transaction beside the present spaces
pub record IsBegun (ss : List Space) (u : Begun) : Type 0 where
  pub there : u.space < length ss
  pub as_many : length u.before ≡ length ss
  pub others : (j : ℕ) → j ≢ u.space → space_at u.before j ≡ space_at ss j
  pub same_base : (space_at u.before u.space).base ≡ (space_at ss u.space).base
  pub same_end : (space_at u.before u.space).end ≡ (space_at ss u.space).end
  pub grew : mark_of (space_at u.before u.space) ≤ mark_of (space_at ss u.space)
  pub laid : AreLaid u.before
