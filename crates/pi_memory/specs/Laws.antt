-- What a caller may rest on, as statements over the spaces.
use Rattle.std.specs.Prelude.{◌≡◌, ◌≢◌, ℕ, ◌+◌, ◌-◌, ◌%◌, ◌^◌, ◌<◌, ◌≤◌, ◌⊎◌, List, ◌++◌, length, take, drop, replicate}
use Rattle.byteorder.specs.Endian.{little_number, little_bytes}
use Rattle.pi_memory.specs.Space.{Space, mark_of}
use Rattle.pi_memory.specs.Memory.{space_at, holder, IsBelow, bytes_at, with_bytes_at, with_zeros_in, AreLaid}

-- bytes between the base and the mark of a space are found in that space
abbrev pub SpaceIsFound : Type 0
SpaceIsFound = (ss : List Space) (k at n : ℕ) → AreLaid ss → k < length ss → 0 < n → (space_at ss k).base ≤ at → at + n ≤ mark_of (space_at ss k) → holder ss at n ≡ k

-- the bytes that were written stand there
abbrev pub WrittenIsRead : Type 0
WrittenIsRead = (ss : List Space) (at : ℕ) (ys : List ℕ) → IsBelow ss at (length ys) → bytes_at (with_bytes_at ss at ys) at (length ys) ≡ ys

-- a number of n bytes that was written is read there
abbrev pub NumberIsRead : Type 0
NumberIsRead = (ss : List Space) (at n v : ℕ) → v < 256 ^ n → IsBelow ss at n → little_number n (bytes_at (with_bytes_at ss at (little_bytes n v)) at n) ≡ v

-- bytes before and behind those that were written stand as before
abbrev pub ApartIsKept : Type 0
ApartIsKept = (ss : List Space) (at : ℕ) (ys : List ℕ) (b m : ℕ) → IsBelow ss at (length ys) → IsBelow ss b m → (b + m ≤ at) ⊎ (at + length ys ≤ b)
    → bytes_at (with_bytes_at ss at ys) b m ≡ bytes_at ss b m

-- a write moves no mark: what was below one is below it
abbrev pub PlacesAreKept : Type 0
PlacesAreKept = (ss : List Space) (at : ℕ) (ys : List ℕ) (b m : ℕ) → IsBelow ss at (length ys) → holder (with_bytes_at ss at ys) b m ≡ holder ss b m

-- a write leaves every other space
abbrev pub OthersAreKept : Type 0
OthersAreKept = (ss : List Space) (at : ℕ) (ys : List ℕ) (j : ℕ) → j ≢ holder ss at (length ys) → space_at (with_bytes_at ss at ys) j ≡ space_at ss j

-- fewer bytes inside of those from an address are a part of them
pub record Inside (ss : List Space) (at n b m : ℕ) : Type 0 where
  pub below : IsBelow ss b m
  pub part : bytes_at ss b m ≡ take m (drop (b - at) (bytes_at ss at n))

abbrev pub PartIsRead : Type 0
PartIsRead = (ss : List Space) (at n b m : ℕ) → AreLaid ss → IsBelow ss at n → 0 < m → at ≤ b → b + m ≤ at + n → Inside ss at n b m

-- a write inside of the bytes from an address changes that part of them
abbrev pub PartIsWritten : Type 0
PartIsWritten = (ss : List Space) (at n b : ℕ) (ys : List ℕ) → AreLaid ss → IsBelow ss at n → 0 < length ys → at ≤ b → b + length ys ≤ at + n
    → bytes_at (with_bytes_at ss b ys) at n ≡ take (b - at) (bytes_at ss at n) ++ (ys ++ drop (length ys) (drop (b - at) (bytes_at ss at n)))

-- the bytes from the old mark to the new one are 0
abbrev pub BumpIsZero : Type 0
BumpIsZero = (ss : List Space) (k n : ℕ) → AreLaid ss → k < length ss → n % 8 ≡ 0 → 0 < n → mark_of (space_at ss k) + n ≤ (space_at ss k).end
    → bytes_at (with_zeros_in ss k n) (mark_of (space_at ss k)) n ≡ replicate n 0

-- what was below a mark stands as before
abbrev pub BumpKeeps : Type 0
BumpKeeps = (ss : List Space) (k n b m : ℕ) → AreLaid ss → k < length ss → n % 8 ≡ 0 → mark_of (space_at ss k) + n ≤ (space_at ss k).end → 0 < m → IsBelow ss b m
    → (holder (with_zeros_in ss k n) b m ≡ holder ss b m) × (bytes_at (with_zeros_in ss k n) b m ≡ bytes_at ss b m)

-- a bump leaves every other space
abbrev pub BumpLeavesOthers : Type 0
BumpLeavesOthers = (ss : List Space) (k n j : ℕ) → j ≢ k → space_at (with_zeros_in ss k n) j ≡ space_at ss j

-- ranges stay apart
abbrev pub WriteStaysLaid : Type 0
WriteStaysLaid = (ss : List Space) (at : ℕ) (ys : List ℕ) → AreLaid ss → IsBelow ss at (length ys) → AreLaid (with_bytes_at ss at ys)

abbrev pub BumpStaysLaid : Type 0
BumpStaysLaid = (ss : List Space) (k n : ℕ) → AreLaid ss → k < length ss → n % 8 ≡ 0 → mark_of (space_at ss k) + n ≤ (space_at ss k).end → AreLaid (with_zeros_in ss k n)
