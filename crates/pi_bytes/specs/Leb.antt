-- leb128 numbers: seven bits in each byte, the low ones first. Each byte but the last has its top bit set, and there are
-- at most five.
use Rattle.std.specs.Prelude.{◌≡◌, ◌<◌, ◌≤◌, ◌++◌, length, All, true, false, ℕ, zero, suc, ◌+◌, ◌*◌, ◌%◌, ◌||◌, ◌&&◌, nat_lt, nat_le, ℤ, pos, ◌+ℤ◌, ◌-ℤ◌, ◌*ℤ◌, List, [], ◌∷◌, Result, Ok, Err, Bool, if◌then◌else◌}
use Rattle.pi_bytes.specs.Place.{Place, bytes_from}
use Rattle.pi_bytes.specs.Reading.{◌>>=◌, reading_at}
use Rattle.pi_bytes.specs.declared.fault.ReadFault.{ReadFault}
use Rattle.pi_bytes.specs.declared.fault.ReadFault.TheVariants.{Short, LongLeb}

-- a fifth byte of an unsigned number: four bits
abbrev pub ends_uleb : ℕ → Bool
ends_uleb b = nat_lt b 16

-- a fifth byte of a signed number: three bits and the sign, which fills the seven
abbrev pub ends_sleb : ℕ → Bool
ends_sleb b = nat_lt b 8 || (nat_le 120 b && nat_lt b 128)

-- An unsigned number at the front of bytes, in which at most that many bytes stand before the last, and how many bytes it
-- takes.
abbrev pub uleb_by : ℕ → List ℕ → Result (ℕ × ℕ) ReadFault
uleb_by more [] = Err Short
uleb_by zero (b ∷ rest) = if ends_uleb b then Ok (b, 1) else Err LongLeb
uleb_by (suc more) (b ∷ rest) = if nat_lt b 128 then Ok (b, 1) else (do
  above ← uleb_by more rest
  Ok (b % 128 + 128 * above.0, above.1 + 1))

-- seven bits as a signed number
abbrev pub last_signed : ℕ → ℤ
last_signed b = if nat_lt b 64 then pos b else pos b -ℤ pos 128

-- a signed number in the same way: the top bit of the last seven is its sign
abbrev pub sleb_by : ℕ → List ℕ → Result (ℤ × ℕ) ReadFault
sleb_by more [] = Err Short
sleb_by zero (b ∷ rest) = if ends_sleb b then Ok (last_signed b, 1) else Err LongLeb
sleb_by (suc more) (b ∷ rest) = if nat_lt b 128 then Ok (last_signed b, 1) else (do
  above ← sleb_by more rest
  Ok (pos (b % 128) +ℤ (pos 128 *ℤ above.0), above.1 + 1))

-- the number that bytes give, seven bits each, the low ones first
abbrev pub sevens : List ℕ → ℕ
sevens [] = 0
sevens (b ∷ rest) = b % 128 + 128 * sevens rest

-- the same, where the top bit of the last seven is the sign
abbrev pub signed_sevens : List ℕ → ℤ
signed_sevens [] = pos 0
signed_sevens (b ∷ []) = last_signed b
signed_sevens (b ∷ c ∷ rest) = pos (b % 128) +ℤ (pos 128 *ℤ signed_sevens (c ∷ rest))

-- Bytes are one number: each but the last says that another follows, the last does not, at most that many stand before
-- it, and where so many do, it fits.
pub record IsWhole (ends : ℕ → Bool) (more : ℕ) (bytes : List ℕ) : Type 0 where
  pub front : List ℕ
  pub last : ℕ
  pub parts : bytes ≡ front ++ last ∷ []
  pub go_on : All (λ b. 128 ≤ b) front
  pub is_last : last < 128
  pub few : length front ≤ more
  pub fits : length front ≡ more → ends last ≡ true

-- bytes end inside a number
pub record EndsInside (more : ℕ) (bytes : List ℕ) : Type 0 where
  pub go_on : All (λ b. 128 ≤ b) bytes
  pub few : length bytes ≤ more

-- bytes begin with as many that say that another follows, and the next one does not fit
pub record IsTooLong (ends : ℕ → Bool) (more : ℕ) (bytes : List ℕ) : Type 0 where
  pub front : List ℕ
  pub last : ℕ
  pub rest : List ℕ
  pub parts : bytes ≡ front ++ last ∷ rest
  pub go_on : All (λ b. 128 ≤ b) front
  pub full : length front ≡ more
  pub wrong : ends last ≡ false

-- the unsigned number at a place
unfoldable pub uleb_at : Place → Result (ℕ × Place) ReadFault
uleb_at p = reading_at p (uleb_by 4 (bytes_from p))

-- the signed number at a place
unfoldable pub sleb_at : Place → Result (ℤ × Place) ReadFault
sleb_at p = reading_at p (sleb_by 4 (bytes_from p))
