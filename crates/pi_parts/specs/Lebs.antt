-- The bytes of leb128 numbers: seven bits in each, the low ones first, as few as the number has.
use Rattle.std.specs.Prelude.{ℕ, zero, suc, ◌+◌, ◌/◌, ◌%◌, ◌-◌, nat_lt, List, [], ◌∷◌, if◌then◌else◌}

-- a number in which at most that many bytes stand before the last, by its low 32 bits
abbrev pub uleb_in : ℕ → ℕ → List ℕ
uleb_in zero x = x % 16 ∷ []
uleb_in (suc more) x = if nat_lt x 128 then x ∷ [] else (x % 128 + 128) ∷ uleb_in more (x / 128)

unfoldable pub uleb_bytes : ℕ → List ℕ
uleb_bytes x = uleb_in 4 x

-- the signed numbers n and -n: the top bit of the last seven is the sign
abbrev pub sleb_in : ℕ → ℕ → List ℕ
sleb_in zero x = x % 8 ∷ []
sleb_in (suc more) x = if nat_lt x 64 then x ∷ [] else (x % 128 + 128) ∷ sleb_in more (x / 128)

unfoldable pub sleb_bytes : ℕ → List ℕ
sleb_bytes x = sleb_in 4 x

-- -n in seven bits, while n is at most 64; else the low seven bits, and behind them the rest, rounded down
abbrev pub negative_in : ℕ → ℕ → List ℕ
negative_in zero x = (128 - x % 16) % 128 ∷ []
negative_in (suc more) x =
    if nat_lt x 65 then (128 - x) % 128 ∷ [] else ((128 - x % 128) % 128 + 128) ∷ negative_in more ((x + 127) / 128)

unfoldable pub negative_bytes : ℕ → List ℕ
negative_bytes x = negative_in 4 x
