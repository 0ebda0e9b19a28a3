-- The header of a file, and the tables that it names.
use Rattle.std.specs.Prelude.{ℕ, ◌+◌, ◌*◌, ◌%◌, ◌==◌, ◌||◌, ◌&&◌, nat_le, List, [], ◌∷◌, length, Bool}
use Rattle.pi_bytes.specs.Numbers.{word_at}

-- a file begins with `dex`, a newline, the version 035 and a 0
abbrev pub magic : List ℕ
magic = 100 ∷ 101 ∷ 120 ∷ 10 ∷ 48 ∷ 51 ∷ 53 ∷ 0 ∷ []

-- the places of the header's fields: the size of a table stands there, its offset four bytes later
abbrev pub string_ids : ℕ
string_ids = 56

abbrev pub type_ids : ℕ
type_ids = 64

abbrev pub proto_ids : ℕ
proto_ids = 72

abbrev pub field_ids : ℕ
field_ids = 80

abbrev pub method_ids : ℕ
method_ids = 88

abbrev pub class_defs : ℕ
class_defs = 96

-- how many entries the table has whose size stands at that place, and where it begins
abbrev pub count_at : List ℕ → ℕ → ℕ
count_at file place = word_at file place

abbrev pub table_at : List ℕ → ℕ → ℕ
table_at file place = word_at file (place + 4)

-- a table is empty, or it begins at a multiple of four behind the header and ends in the file
unfoldable pub table_holds : List ℕ → ℕ → ℕ → Bool
table_holds file place width =
    (count_at file place == 0)
    || ((table_at file place % 4 == 0)
    && nat_le 112 (table_at file place)
    && nat_le (table_at file place + width * count_at file place) (length file))
