-- The bytes of a file: the header, the tables, the map, and then what the tables and the map lead to.
use Rattle.std.specs.Prelude.{ℕ, ◌+◌, ◌-◌, ◌*◌, ◌==◌, List, [], ◌∷◌, ◌++◌, length, map, Option, Some, None, if◌then◌else◌}
use Rattle.std.specs.List.{flat_map}
use Rattle.byteorder.specs.Endian.{little_bytes}
use Rattle.sha1.specs.Sha1.{sha1}
use Rattle.pi_bytes.specs.Numbers.{no_index}
use Rattle.pi_bytes.specs.Sums.{adler}
use Rattle.pi_format.specs.Tables.{magic}
use Rattle.pi_format.specs.Rules.ClassData.{ClassRows}
use Rattle.pi_parts.specs.Parts.{halves, words, offsets, aligned, aligned_offsets, padding}
use Rattle.pi_dextables.specs.declared.tables.Class.{Class}
use Rattle.pi_dextables.specs.declared.tables.Proto.{Proto}
use Rattle.pi_dextables.specs.declared.tables.Tables.{Tables}
use Rattle.pi_dextables.specs.Items.{string_item, member_bytes, lists_in, arrays_in, with_all, list_offset, array_offset}
use Rattle.pi_dextables.specs.Codes.{code_item}
use Rattle.pi_dextables.specs.Rows.{all_bodies, all_rows, class_data}

-- the lists of types and the static values that stand in the file, each once, in the order of their first use
unfoldable pub type_lists : Tables → List (List ℕ)
type_lists t = with_all (with_all [] (lists_in (map (λ p. p.params) t.protos))) (lists_in (map (λ c. c.faces) t.classes))

unfoldable pub value_arrays : Tables → List (List ℕ)
value_arrays t = with_all [] (arrays_in (map (λ c. c.values) t.classes))

-- how many classes have members
abbrev pub listing : List Class → ℕ
listing [] = 0
listing (c ∷ cs) =
    (if length c.statics + length c.instances + length c.directs + length c.virtuals == 0 then 0 else 1) + listing cs

-- how many things there are of each kind that the map can name, in its order
abbrev pub kind_counts : Tables → List ℕ
kind_counts t =
    1 ∷ length t.strings ∷ length t.types ∷ length t.protos ∷ length t.fields ∷ length t.methods ∷ length t.classes ∷ 1
    ∷ length (type_lists t) ∷ length (all_bodies t.classes) ∷ length t.strings ∷ listing t.classes ∷ length (value_arrays t) ∷ []

-- how many of them are not 0
abbrev pub positive : List ℕ → ℕ
positive [] = 0
positive (n ∷ ns) = (if n == 0 then 0 else 1) + positive ns

-- where the tables of types, prototypes, fields, methods and classes begin, and the map; that of strings begins at 112
unfoldable pub types_begin : Tables → ℕ
types_begin t = 112 + 4 * length t.strings

unfoldable pub protos_begin : Tables → ℕ
protos_begin t = types_begin t + 4 * length t.types

unfoldable pub fields_begin : Tables → ℕ
fields_begin t = protos_begin t + 12 * length t.protos

unfoldable pub methods_begin : Tables → ℕ
methods_begin t = fields_begin t + 8 * length t.fields

unfoldable pub classes_begin : Tables → ℕ
classes_begin t = methods_begin t + 8 * length t.methods

unfoldable pub map_begin : Tables → ℕ
map_begin t = classes_begin t + 32 * length t.classes

-- where the lists of types begin, the code items, the strings, the class data and the static values; and the end
unfoldable pub lists_begin : Tables → ℕ
lists_begin t = map_begin t + 4 + 12 * positive (kind_counts t)

unfoldable pub lists_part : Tables → List ℕ
lists_part t = aligned (λ x. x) (lists_begin t) (type_lists t)

unfoldable pub codes_begin : Tables → ℕ
codes_begin t = lists_begin t + length (lists_part t)

unfoldable pub codes_part : Tables → List ℕ
codes_part t = aligned code_item (codes_begin t) (all_bodies t.classes)

unfoldable pub strings_begin : Tables → ℕ
strings_begin t = codes_begin t + length (codes_part t)

unfoldable pub strings_part : Tables → List ℕ
strings_part t = flat_map string_item t.strings

unfoldable pub members_begin : Tables → ℕ
members_begin t = strings_begin t + length (strings_part t)

-- the members of each class, with the offsets of their codes
unfoldable pub code_offsets : Tables → List ℕ
code_offsets t = aligned_offsets code_item (codes_begin t) (all_bodies t.classes)

unfoldable pub listed : Tables → List ClassRows
listed t = all_rows (code_offsets t) t.classes

unfoldable pub members_part : Tables → List ℕ
members_part t = flat_map class_data (listed t)

unfoldable pub arrays_begin : Tables → ℕ
arrays_begin t = members_begin t + length (members_part t)

unfoldable pub arrays_part : Tables → List ℕ
arrays_part t = flat_map (λ x. x) (value_arrays t)

unfoldable pub file_end : Tables → ℕ
file_end t = arrays_begin t + length (arrays_part t)

-- the offset of a list of types, and of the static values of a class
unfoldable pub list_at : Tables → List ℕ → ℕ
list_at t types = list_offset (type_lists t) (aligned_offsets (λ x. x) (lists_begin t) (type_lists t)) types

-- an item of the map: its kind, how many things of it there are, and where they begin
pub record MapItem : Type 0 where
  pub kind : ℕ
  pub count : ℕ
  pub offset : ℕ

abbrev pub map_item : ℕ → ℕ → ℕ → MapItem
map_item kind count offset = record { kind = kind; count = count; offset = offset }

-- each kind that the map can name, by rising offsets
unfoldable pub all_kinds : Tables → List MapItem
all_kinds t =
    map_item 0 1 0 ∷ map_item 1 (length t.strings) 112 ∷ map_item 2 (length t.types) (types_begin t)
    ∷ map_item 3 (length t.protos) (protos_begin t) ∷ map_item 4 (length t.fields) (fields_begin t)
    ∷ map_item 5 (length t.methods) (methods_begin t) ∷ map_item 6 (length t.classes) (classes_begin t)
    ∷ map_item 0x1000 1 (map_begin t) ∷ map_item 0x1001 (length (type_lists t)) (lists_begin t)
    ∷ map_item 0x2001 (length (all_bodies t.classes)) (codes_begin t + padding (codes_begin t))
    ∷ map_item 0x2002 (length t.strings) (strings_begin t) ∷ map_item 0x2000 (listing t.classes) (members_begin t)
    ∷ map_item 0x2005 (length (value_arrays t)) (arrays_begin t) ∷ []

-- the items of kinds of which there is something
abbrev pub standing : List MapItem → List MapItem
standing [] = []
standing (i ∷ items) = if i.count == 0 then standing items else i ∷ standing items

unfoldable pub item_bytes : MapItem → List ℕ
item_bytes i = halves (i.kind ∷ 0 ∷ []) ++ words (i.count ∷ i.offset ∷ [])

unfoldable pub map_part : Tables → List ℕ
map_part t = little_bytes 4 (positive (kind_counts t)) ++ flat_map item_bytes (standing (all_kinds t))

-- the words of the entry of a prototype
abbrev pub proto_words : Tables → Proto → List ℕ
proto_words t p = p.short ∷ p.ret ∷ list_at t p.params ∷ []

abbrev pub parent_word : Option ℕ → ℕ
parent_word None = no_index
parent_word (Some parent) = parent

-- the words of a class definition, of which the offset of the class data is handed in: type, flags, superclass, interfaces,
-- no source file, no annotations, class data, static values
abbrev pub class_words : Tables → Class → ℕ → List ℕ
class_words t c members =
    c.class ∷ c.flags ∷ parent_word c.parent ∷ list_at t c.faces ∷ no_index ∷ 0 ∷ members
    ∷ array_offset (value_arrays t) (offsets (λ x. x) (arrays_begin t) (value_arrays t)) c.values ∷ []

abbrev pub definitions : Tables → List Class → List ℕ → List (List ℕ)
definitions t [] offsets = []
definitions t (c ∷ cs) [] = []
definitions t (c ∷ cs) (o ∷ os) = class_words t c o ∷ definitions t cs os

-- the tables: strings, types, prototypes, fields, methods, classes
unfoldable pub strings_table : Tables → List ℕ
strings_table t = words (offsets string_item (strings_begin t) t.strings)

unfoldable pub protos_table : Tables → List ℕ
protos_table t = flat_map (λ p. words (proto_words t p)) t.protos

unfoldable pub classes_table : Tables → List ℕ
classes_table t = flat_map words (definitions t t.classes (offsets class_data (members_begin t) (listed t)))

unfoldable pub tables_part : Tables → List ℕ
tables_part t =
    strings_table t ++ (words t.types ++ (protos_table t ++ (flat_map member_bytes t.fields
    ++ (flat_map member_bytes t.methods ++ classes_table t))))

-- what the tables lead to
unfoldable pub data_part : Tables → List ℕ
data_part t = lists_part t ++ (codes_part t ++ (strings_part t ++ (members_part t ++ arrays_part t)))

-- the offset of a table in the header: 0 where the table is empty
abbrev pub where_some : ℕ → ℕ → ℕ
where_some count at = if count == 0 then 0 else at

-- the header from its length on: the file's length, the header's, the order of bytes, no links, the map, the six tables,
-- and the data, to which the map belongs
unfoldable pub header_words : Tables → List ℕ
header_words t =
    file_end t ∷ 112 ∷ 0x12345678 ∷ 0 ∷ 0 ∷ map_begin t
    ∷ length t.strings ∷ where_some (length t.strings) 112
    ∷ length t.types ∷ where_some (length t.types) (types_begin t)
    ∷ length t.protos ∷ where_some (length t.protos) (protos_begin t)
    ∷ length t.fields ∷ where_some (length t.fields) (fields_begin t)
    ∷ length t.methods ∷ where_some (length t.methods) (methods_begin t)
    ∷ length t.classes ∷ where_some (length t.classes) (classes_begin t)
    ∷ (file_end t - map_begin t) ∷ map_begin t ∷ []

-- the file from the header's length on; with the signature; and whole
unfoldable pub contents : Tables → List ℕ
contents t = words (header_words t) ++ (tables_part t ++ (map_part t ++ data_part t))

unfoldable pub signed : Tables → List ℕ
signed t = sha1 (contents t) ++ contents t

unfoldable pub image : Tables → List ℕ
image t = magic ++ (little_bytes 4 (adler (signed t)) ++ signed t)
