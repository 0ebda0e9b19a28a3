-- The map and the header in parts.
use Rattle.std.specs.Prelude.{ℕ, ◌+◌, List, [], ◌∷◌, ◌++◌, length}
use Rattle.byteorder.specs.Endian.{little_bytes}
use Rattle.sha1.specs.Sha1.{sha1}
use Rattle.pi_bytes.specs.Sums.{adler}
use Rattle.std.specs.List.{flat_map}
use Rattle.pi_parts.specs.Parts.{words, padding}
use Rattle.pi_dextables.specs.Items.{member_bytes}
use Rattle.pi_dextables.specs.Rows.{all_bodies}
use Rattle.pi_dextables.specs.Image.{MapItem, map_item, listing, type_lists, value_arrays, types_begin, protos_begin, fields_begin, methods_begin, classes_begin, map_begin, lists_begin, codes_begin, strings_begin, members_begin, arrays_begin, where_some, strings_table, protos_table, classes_table}
use Rattle.pi_dextables.specs.declared.tables.Tables.{Tables}
use Rattle.pi_dexlay.specs.declared.layout.Item.{Item}

-- an item as the map has it
abbrev pub read_item : Item → MapItem
read_item i = record { kind = i.kind; count = i.count; offset = i.offset }

-- the kinds of the header, the tables and the map, and those of what the tables lead to
unfoldable pub table_kinds : Tables → List MapItem
table_kinds t =
    map_item 0 1 0 ∷ map_item 1 (length t.strings) 112 ∷ map_item 2 (length t.types) (types_begin t)
    ∷ map_item 3 (length t.protos) (protos_begin t) ∷ map_item 4 (length t.fields) (fields_begin t)
    ∷ map_item 5 (length t.methods) (methods_begin t) ∷ map_item 6 (length t.classes) (classes_begin t)
    ∷ map_item 0x1000 1 (map_begin t) ∷ []

unfoldable pub data_kinds : Tables → List MapItem
data_kinds t =
    map_item 0x1001 (length (type_lists t)) (lists_begin t)
    ∷ map_item 0x2001 (length (all_bodies t.classes)) (codes_begin t + padding (codes_begin t))
    ∷ map_item 0x2002 (length t.strings) (strings_begin t) ∷ map_item 0x2000 (listing t.classes) (members_begin t)
    ∷ map_item 0x2005 (length (value_arrays t)) (arrays_begin t) ∷ []

-- the words of the header that tell of the tables
abbrev pub table_words : Tables → List ℕ
table_words t =
    length t.strings ∷ where_some (length t.strings) 112
    ∷ length t.types ∷ where_some (length t.types) (types_begin t)
    ∷ length t.protos ∷ where_some (length t.protos) (protos_begin t)
    ∷ length t.fields ∷ where_some (length t.fields) (fields_begin t)
    ∷ length t.methods ∷ where_some (length t.methods) (methods_begin t)
    ∷ length t.classes ∷ where_some (length t.classes) (classes_begin t) ∷ []

-- bytes behind their signature and the checksum of both
unfoldable pub signed_bytes : List ℕ → List ℕ
signed_bytes bytes = little_bytes 4 (adler (sha1 bytes ++ bytes)) ++ (sha1 bytes ++ bytes)

-- the tables of strings, types and prototypes, and those of fields, methods and classes
unfoldable pub ids_part : Tables → List ℕ
ids_part t = strings_table t ++ (words t.types ++ protos_table t)

unfoldable pub owned_part : Tables → List ℕ
owned_part t = flat_map member_bytes t.fields ++ (flat_map member_bytes t.methods ++ classes_table t)
