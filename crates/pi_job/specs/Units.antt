-- Texts in UTF-8 as units of 16 bits.
use Rattle.std.specs.Prelude.{ℕ, List, flat_map, Option, Some, None, if◌then◌else◌}
use Rattle.std.specs.Str.{chars, is_utf8}
use Rattle.std.specs.Char.Escape.{encode_utf16}

-- the units of the characters
abbrev pub units_of : List ℕ → List ℕ
units_of bytes = flat_map encode_utf16 (chars bytes)

-- the units of a text, where the bytes are UTF-8
abbrev pub text_units : List ℕ → Option (List ℕ)
text_units bytes = if is_utf8 bytes then Some (units_of bytes) else None
