-- Texts in MUTF-8: the spelling of units, and apart from it what units stand at the front of bytes.
use Rattle.std.specs.Prelude.{◌≡◌, ◌≢◌, ℕ, zero, suc, ◌+◌, ◌*◌, ◌/◌, ◌%◌, ◌^◌, ◌<◌, ◌≤◌, ◌==◌, ◌||◌, ◌&&◌, nat_lt, nat_le, List, [], ◌∷◌, ◌++◌, length, drop, All, Option, Some, None, Result, Ok, Err, Bool, false, if◌then◌else◌}
use Rattle.std.specs.List.{flat_map}
use Rattle.pi_bytes.specs.declared.fault.MutfError.{MutfError}
use Rattle.pi_bytes.specs.declared.fault.MutfError.TheVariants.{OutOfMemory, Bad}

-- the one spelling of a unit
abbrev pub spelling : ℕ → List ℕ
spelling u =
    if u == 0 then 192 ∷ 128 ∷ []
    else if nat_lt u 128 then u ∷ []
    else if nat_lt u 2048 then (192 + u / 64) ∷ (128 + u % 64) ∷ []
    else (224 + u / 4096) ∷ (128 + u / 64 % 64) ∷ (128 + u % 64) ∷ []

-- the spelling of units, one behind the other
abbrev pub spellings : List ℕ → List ℕ
spellings units = flat_map spelling units

-- a byte that goes on with a unit
abbrev pub is_further : ℕ → Bool
is_further b = nat_le 128 b && nat_lt b 192

-- the unit that two bytes give: five bits and six
abbrev pub two_bits : ℕ → ℕ → ℕ
two_bits a b = a % 32 * 64 + b % 64

-- the unit that three bytes give: four bits, six and six
abbrev pub three_bits : ℕ → ℕ → ℕ → ℕ
three_bits a b c = a % 16 * 4096 + b % 64 * 64 + c % 64

-- that unit and its length, where it has no shorter spelling
abbrev pub two_of : ℕ → ℕ → Option (ℕ × ℕ)
two_of a b = if is_further b && (two_bits a b == 0 || nat_le 128 (two_bits a b)) then Some (two_bits a b, 2) else None

abbrev pub three_of : ℕ → ℕ → ℕ → Option (ℕ × ℕ)
three_of a b c =
    if is_further b && is_further c && nat_le 2048 (three_bits a b c) then Some (three_bits a b c, 3) else None

-- the unit at the front of bytes, and how many bytes it takes
abbrev pub unit_at : List ℕ → Option (ℕ × ℕ)
unit_at [] = None
unit_at (a ∷ rest) =
    if nat_lt 0 a && nat_lt a 128 then Some (a, 1)
    else if nat_le 192 a && nat_lt a 224 then two a rest
    else if nat_le 224 a && nat_lt a 240 then three a rest
    else None
  where
    two : ℕ → List ℕ → Option (ℕ × ℕ)
    two a [] = None
    two a (b ∷ rest) = two_of a b

    three : ℕ → List ℕ → Option (ℕ × ℕ)
    three a [] = None
    three a (b ∷ []) = None
    three a (b ∷ c ∷ rest) = three_of a b c

-- bytes begin with the 0 behind a text
abbrev pub ends_text : List ℕ → Bool
ends_text [] = false
ends_text (b ∷ rest) = b == 0

-- what follows a unit, if there is one at that place
abbrev pub after_unit : ℕ → Option (ℕ × ℕ) → (ℕ → ℕ → Result (List ℕ × ℕ) ℕ) → Result (List ℕ × ℕ) ℕ
after_unit at None more = Err at
after_unit at (Some x) more = more x.0 x.1

-- units before those that were read
abbrev pub with_front : List ℕ → Result (List ℕ × ℕ) ℕ → Result (List ℕ × ℕ) ℕ
with_front units (Ok x) = Ok (units ++ x.0, x.1)
with_front units (Err at) = Err at

-- That many units and a 0, where the bytes are those from a place on: the units and the place of the 0, or the first
-- place at which no unit or not the 0 stands.
abbrev pub units_from : ℕ → ℕ → List ℕ → Result (List ℕ × ℕ) ℕ
units_from zero at bytes = if ends_text bytes then Ok ([], at) else Err at
units_from (suc n) at bytes =
    after_unit at (unit_at bytes) (λ u k. with_front (u ∷ []) (units_from n (at + k) (drop k bytes)))

-- the text of that many units at the front of bytes
unfoldable pub units_at : ℕ → List ℕ → Result (List ℕ × ℕ) ℕ
units_at count bytes = units_from count 0 bytes

-- a call answers what was to be read; a want of memory says nothing
abbrev pub Answers : Result (List ℕ × ℕ) ℕ → Result (List ℕ × ℕ) MutfError → Type 0
Answers read (Ok x) = read ≡ Ok x
Answers read (Err (Bad at)) = read ≡ Err at
Answers read (Err OutOfMemory) = Unit {0}

-- bytes begin with the spelling of units and a 0
pub record Spells (units bytes : List ℕ) : Type 0 where
  pub are_units : All (λ u. u < 2 ^ 16) units
  pub rest : List ℕ
  pub spelt : bytes ≡ spellings units ++ 0 ∷ rest

-- Bytes begin with the spelling of units, up to that place and no more units than that. There no unit is spelled, or
-- behind all of them stands no 0.
pub record Stops (count : ℕ) (bytes : List ℕ) (at : ℕ) : Type 0 where
  pub units : List ℕ
  pub are_units : All (λ u. u < 2 ^ 16) units
  pub few : length units ≤ count
  pub before : at ≡ length (spellings units)
  pub rest : List ℕ
  pub spelt : bytes ≡ spellings units ++ rest
  pub no_unit : length units < count → (u : ℕ) (behind : List ℕ) → u < 2 ^ 16 → rest ≢ spelling u ++ behind
  pub no_end : length units ≡ count → (behind : List ℕ) → rest ≢ 0 ∷ behind

-- an error names such a place; a want of memory says nothing
abbrev pub IsBad : ℕ → List ℕ → MutfError → Type 0
IsBad count bytes (Bad at) = Stops count bytes at
IsBad count bytes OutOfMemory = Unit {0}
