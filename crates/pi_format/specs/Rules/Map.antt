-- What the map must hold, rule X10. Its place is always that of its offset in the header.
use Rattle.std.specs.Prelude.{ℕ, ◌+◌, ◌*◌, ◌-◌, ◌%◌, ◌==◌, ◌&&◌, ◌||◌, not, nat_lt, nat_le, List, Option, Bool, if◌then◌else◌}
use Rattle.pi_bytes.specs.Numbers.{half_at, word_at, in_file}
use Rattle.pi_format.specs.Tables.{count_at, table_at, string_ids, type_ids, proto_ids, field_ids, method_ids, class_defs}
use Rattle.pi_format.specs.Rules.Entries.{some_from, each_from}
use Rattle.pi_format.specs.Rules.Header.{unless}

abbrev pub map_at : List ℕ → ℕ
map_at file = word_at file 52

abbrev pub item_count : List ℕ → ℕ
item_count file = word_at file (map_at file)

-- an item of the map: what it is, how many, and where they begin
abbrev pub item_type : List ℕ → ℕ → ℕ
item_type file i = half_at file (map_at file + 4 + 12 * i)

abbrev pub item_size : List ℕ → ℕ → ℕ
item_size file i = word_at file (map_at file + 8 + 12 * i)

abbrev pub item_offset : List ℕ → ℕ → ℕ
item_offset file i = word_at file (map_at file + 12 + 12 * i)

-- the map lies at a multiple of four in the file
abbrev pub map_lies : List ℕ → Bool
map_lies file = (map_at file % 4 == 0) && (in_file file (map_at file) 4 && in_file file (map_at file + 4) (12 * item_count file))

-- an item lies behind the one before it, and none before it is of its type
abbrev pub item_rises : List ℕ → ℕ → Bool
item_rises file i = (i == 0) || nat_lt (item_offset file (i - 1)) (item_offset file i)

abbrev pub item_is_new : List ℕ → ℕ → Bool
item_is_new file i = not (some_from (λ k. item_type file k == item_type file i) 0 i)

-- one of the items is of that type, with that number of things at that offset; none is of that type
unfoldable pub has_item : List ℕ → ℕ → ℕ → ℕ → Bool
has_item file ty size offset =
    some_from (λ i. (item_type file i == ty) && ((item_size file i == size) && (item_offset file i == offset))) 0 (item_count file)

unfoldable pub lacks_item : List ℕ → ℕ → Bool
lacks_item file ty = not (some_from (λ i. item_type file i == ty) 0 (item_count file))

-- a table stands in the map as the header says it, exactly where it is not empty
unfoldable pub table_mapped : List ℕ → ℕ → ℕ → Bool
table_mapped file ty table =
    if count_at file table == 0 then lacks_item file ty else has_item file ty (count_at file table) (table_at file table)

-- the bytes of an entry of the table that has that type in the map; other items are not asked for their ends
abbrev pub width_of_item : ℕ → ℕ
width_of_item ty =
    if ty == 1 || ty == 2 then 4 else
    if ty == 3 then 12 else
    if ty == 4 || ty == 5 then 8 else
    if ty == 6 then 32 else 0

-- a table ends at or before the next item
abbrev pub item_ends : List ℕ → ℕ → Bool
item_ends file i =
    not (nat_lt (i + 1) (item_count file))
    || nat_le (item_offset file i + width_of_item (item_type file i) * item_size file i) (item_offset file (i + 1))
    || (width_of_item (item_type file i) == 0)

-- items rise, are of different types, and no table reaches into the next item
abbrev pub items_hold : List ℕ → Bool
items_hold file = each_from (λ i. item_rises file i && (item_is_new file i && item_ends file i)) 0 (item_count file)

-- the map names the header and the tables of strings, types and prototypes
unfoldable pub names_ids : List ℕ → Bool
names_ids file =
    has_item file 0 1 0
    && (table_mapped file 1 string_ids && (table_mapped file 2 type_ids && table_mapped file 3 proto_ids))

-- the tables of members and classes
unfoldable pub names_members : List ℕ → Bool
names_members file = table_mapped file 4 field_ids && (table_mapped file 5 method_ids && table_mapped file 6 class_defs)

-- and neither call sites nor method handles
abbrev pub names_tables : List ℕ → Bool
names_tables file = names_ids file && (names_members file && (lacks_item file 7 && lacks_item file 8))

unfoldable pub map_holds : List ℕ → Bool
map_holds file = map_lies file && (items_hold file && names_tables file)

abbrev pub broken_map : List ℕ → Option ℕ
broken_map file = unless (map_holds file) 52
