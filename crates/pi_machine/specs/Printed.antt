-- The bytes that prints write: decimal numbers with a newline, and texts as UTF-8. UTF-8 is that of
-- RFC 3629; the rest is our own.
use Rattle.std.specs.Prelude.{ℕ, ◌+◌, ◌-◌, ◌*◌, ◌/◌, ◌%◌, ◌^◌, ◌&&◌, nat_lt, nat_le, List, [], ◌∷◌, ◌++◌, Bool, if◌then◌else◌}
use Rattle.std.specs.Fmt.{signed_decimal}
use Rattle.std.specs.Int.{cast_signed, w32, w64}

-- a word, or a long, as a signed decimal number and a newline
abbrev pub printed_int : ℕ → List ℕ
printed_int n = signed_decimal (cast_signed w32 n) ++ 10 ∷ []

-- a long as a signed decimal number and a newline
abbrev pub printed_long : ℕ → List ℕ
printed_long n = signed_decimal (cast_signed w64 n) ++ 10 ∷ []

-- a long as a signed decimal text
abbrev pub long_text : ℕ → List ℕ
long_text n = signed_decimal (cast_signed w64 n)

-- the two halves of a surrogate pair
abbrev pub is_high_surrogate : ℕ → Bool
is_high_surrogate u = nat_le 0xd800 u && nat_lt u 0xdc00

-- the second half of a surrogate pair
abbrev pub is_low_surrogate : ℕ → Bool
is_low_surrogate u = nat_le 0xdc00 u && nat_lt u 0xe000

-- the character of a surrogate pair
abbrev pub pair_character : ℕ → ℕ → ℕ
pair_character high low = 0x10000 + 0x400 * (high - 0xd800) + (low - 0xdc00)

-- a byte that continues a character, with the six bits of it from that power of two on
abbrev pub continuation_byte : ℕ → ℕ → ℕ
continuation_byte power c = 128 + c / power % 64

-- a character in UTF-8
abbrev pub utf8_bytes : ℕ → List ℕ
utf8_bytes c =
    if nat_lt c 0x80 then c ∷ [] else
    if nat_lt c 0x800 then (192 + c / 2 ^ 6) ∷ continuation_byte 1 c ∷ [] else
    if nat_lt c 0x10000 then (224 + c / 2 ^ 12) ∷ continuation_byte (2 ^ 6) c ∷ continuation_byte 1 c ∷ [] else
    (240 + c / 2 ^ 18) ∷ continuation_byte (2 ^ 12) c ∷ continuation_byte (2 ^ 6) c ∷ continuation_byte 1 c ∷ []

-- a unit that is no half of a pair; a surrogate alone prints as a question mark
abbrev pub encoded_alone : ℕ → List ℕ
encoded_alone u = if nat_le 0xd800 u && nat_lt u 0xe000 then 63 ∷ [] else utf8_bytes u

-- the bytes of a text; a surrogate pair is its one character
abbrev pub printed_text : List ℕ → List ℕ
printed_text [] = []
printed_text (u ∷ []) = encoded_alone u
printed_text (u ∷ v ∷ units) =
    if is_high_surrogate u && is_low_surrogate v then utf8_bytes (pair_character u v) ++ printed_text units
    else encoded_alone u ++ printed_text (v ∷ units)
