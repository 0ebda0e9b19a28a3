-- Worked examples of the bytes of tables, with values from the words of docs/dex-format.md.
use Rattle.std.proofs.Common.{◌≡◌, ℕ, List, [], ◌∷◌, Some, None, refl, arith}
use Rattle.std.specs.Prelude.{All}
use Rattle.std.specs.List.Sorted.{IsStrictlySortedBy}
use Rattle.std.proofs.lemmas.List.Elements.{All-nil, All-cons}
use Rattle.pi_format.specs.declared.lists.MemberList.TheVariants.{StaticFields, DirectMethods}
use Rattle.pi_format.specs.Rules.ClassData.{ClassRows}
use Rattle.pi_parts.specs.Lebs.{uleb_bytes, sleb_bytes, negative_bytes}
use Rattle.pi_parts.specs.Parts.{offsets}
use Rattle.pi_dextables.specs.declared.tables.Body.{Body}
use Rattle.pi_dextables.specs.declared.tables.Catches.{Catches}
use Rattle.pi_dextables.specs.declared.tables.Tables.{Tables}
use Rattle.pi_dextables.specs.declared.tables.Value.{Value}
use Rattle.pi_dextables.specs.Items.{type_list, string_item, member_bytes, encoded_bytes, array_item, with_all, offset_of}
use Rattle.pi_dextables.specs.Codes.{catches_bytes, lists_bytes, list_places, list_place, range_bytes, code_item}
use Rattle.pi_dextables.specs.Rows.{row_bytes, class_item, class_data}
use Rattle.pi_dextables.specs.Image.{type_lists, value_arrays, types_begin, protos_begin, fields_begin, methods_begin, classes_begin, map_begin, lists_begin, lists_part, codes_begin, codes_part, strings_begin, strings_part, members_begin, members_part, arrays_begin, arrays_part, file_end, code_offsets, listed, all_kinds, item_bytes, map_part, strings_table, protos_table, classes_table, tables_part, data_part, header_words, contents}
use Rattle.pi_dextables.specs.Writable.{IsHalf, IsWord, ProtoFits, MemberFits, ClassFits, IsWritable, IsShort, PlacesFit}
use Rattle.pi_dextables.proofs.Whole.{length_image}

-- a list of the types 2 and 0x103: a word, and a half for each
types_listed : type_list (2 ∷ 0x103 ∷ []) ≡ 2 ∷ 0 ∷ 0 ∷ 0 ∷ 2 ∷ 0 ∷ 3 ∷ 1 ∷ []
unfolding type_list
types_listed = refl

-- a string of units with one, two and three bytes
string_spelled : string_item (0x41 ∷ 0xe9 ∷ 0x20ac ∷ []) ≡ 3 ∷ 0x41 ∷ 0xc3 ∷ 0xa9 ∷ 0xe2 ∷ 0x82 ∷ 0xac ∷ 0 ∷ []
unfolding string_item uleb_bytes
string_spelled = refl

-- a member: two halves and a word
member_spelled : member_bytes (record { class = 1; kind = 0x203; name = 0x4050607 }) ≡ 1 ∷ 0 ∷ 3 ∷ 2 ∷ 7 ∷ 6 ∷ 5 ∷ 4 ∷ []
unfolding member_bytes
member_spelled = refl

-- the int 258 in two bytes, null and true
abbrev int_258 : Value
int_258 = record { kind = 4; arg = 1; number = 258 }

abbrev null : Value
null = record { kind = 0x1e; arg = 0; number = 0 }

abbrev yes : Value
yes = record { kind = 0x1f; arg = 1; number = 0 }

int_spelled : encoded_bytes int_258 ≡ 0x24 ∷ 2 ∷ 1 ∷ []
unfolding encoded_bytes
int_spelled = refl

null_spelled : encoded_bytes null ≡ 0x1e ∷ []
unfolding encoded_bytes
null_spelled = refl

yes_spelled : encoded_bytes yes ≡ 0x3f ∷ []
unfolding encoded_bytes
yes_spelled = refl

values_spelled : array_item (int_258 ∷ null ∷ yes ∷ []) ≡ 3 ∷ 0x24 ∷ 2 ∷ 1 ∷ 0x1e ∷ 0x3f ∷ []
unfolding array_item encoded_bytes uleb_bytes
values_spelled = refl

-- the method 7 behind the method 5, with the flags 0x10001 and its code at 448
method_spelled : row_bytes DirectMethods (Some 5) (record { id = 7; flags = 0x10001; code = 448 }) ≡ 2 ∷ 0x81 ∷ 0x80 ∷ 4 ∷ 0xc0 ∷ 3 ∷ []
unfolding row_bytes uleb_bytes
method_spelled = refl

-- the field 9, the first of its list: no code
field_spelled : row_bytes StaticFields None (record { id = 9; flags = 8; code = 0 }) ≡ 9 ∷ 8 ∷ []
unfolding row_bytes uleb_bytes
field_spelled = refl

-- a class with a static field and a direct method
abbrev field_and_method : ClassRows
field_and_method = record {
  statics = record { id = 3; flags = 8; code = 0 } ∷ [];
  instances = [];
  directs = record { id = 2; flags = 9; code = 368 } ∷ [];
  virtuals = [];
}

class_spelled : class_item field_and_method ≡ 1 ∷ 0 ∷ 1 ∷ 0 ∷ 3 ∷ 8 ∷ 2 ∷ 9 ∷ 0xf0 ∷ 2 ∷ []
unfolding class_item row_bytes uleb_bytes
class_spelled = refl

-- a class without members has no class data
nothing_spelled : class_data (record { statics = []; instances = []; directs = []; virtuals = [] }) ≡ []
unfolding class_data
nothing_spelled = refl

-- two typed handlers and one that catches all: the size is -2
catches_spelled : catches_bytes (record { typed = record { ty = 3; to = 8 } ∷ record { ty = 200; to = 10 } ∷ []; last = Some 12 })
    ≡ 0x7e ∷ 3 ∷ 8 ∷ 0xc8 ∷ 1 ∷ 10 ∷ 12 ∷ []
unfolding catches_bytes negative_bytes uleb_bytes
catches_spelled = refl

-- a list of one typed handler, and one that only catches all
abbrev one_typed : Catches
one_typed = record { typed = record { ty = 3; to = 2 } ∷ []; last = None }

abbrev only_last : Catches
only_last = record { typed = []; last = Some 4 }

-- places are counted from the number of the lists on
two_lists : lists_bytes (one_typed ∷ only_last ∷ []) ≡ 2 ∷ 1 ∷ 3 ∷ 2 ∷ 0 ∷ 4 ∷ []
unfolding catches_bytes sleb_bytes negative_bytes uleb_bytes
two_lists = refl

two_places : list_places (one_typed ∷ only_last ∷ []) ≡ 1 ∷ 4 ∷ []
unfolding list_places catches_bytes sleb_bytes negative_bytes uleb_bytes
two_places = refl

range_spelled : range_bytes (list_places (one_typed ∷ only_last ∷ [])) (record { from = 2; size = 3; list = 1 }) ≡ 2 ∷ 0 ∷ 0 ∷ 0 ∷ 3 ∷ 0 ∷ 4 ∷ 0 ∷ []
unfolding range_bytes list_places catches_bytes sleb_bytes negative_bytes uleb_bytes
range_spelled = refl

-- a code of three units, two of which have a handler: two bytes lie between the units and the range
abbrev small_code : Body
small_code = record {
  registers = 2;
  ins = 1;
  outs = 0;
  units = 0x12 ∷ 0xe ∷ 0xe ∷ [];
  ranges = record { from = 0; size = 2; list = 0 } ∷ [];
  lists = one_typed ∷ [];
}

code_spelled : code_item small_code
    ≡ 2 ∷ 0 ∷ 1 ∷ 0 ∷ 0 ∷ 0 ∷ 1 ∷ 0 ∷ 0 ∷ 0 ∷ 0 ∷ 0 ∷ 3 ∷ 0 ∷ 0 ∷ 0 ∷ 0x12 ∷ 0 ∷ 0xe ∷ 0 ∷ 0xe ∷ 0 ∷ 0 ∷ 0
    ∷ 0 ∷ 0 ∷ 0 ∷ 0 ∷ 2 ∷ 0 ∷ 1 ∷ 0 ∷ 1 ∷ 1 ∷ 3 ∷ 2 ∷ []
unfolding code_item range_bytes list_places catches_bytes sleb_bytes negative_bytes uleb_bytes
code_spelled = refl

-- of three things of which two are equal two stand there, and equal ones have one offset
abbrev three_things : List (List ℕ)
three_things = (1 ∷ 2 ∷ []) ∷ (3 ∷ []) ∷ (1 ∷ 2 ∷ []) ∷ []

two_things : with_all [] three_things ≡ (1 ∷ 2 ∷ []) ∷ (3 ∷ []) ∷ []
two_things = refl

first_offset : offset_of (with_all [] three_things) (offsets (λ x. x) 16 (with_all [] three_things)) (1 ∷ 2 ∷ []) ≡ 16
first_offset = refl

second_offset : offset_of (with_all [] three_things) (offsets (λ x. x) 16 (with_all [] three_things)) (3 ∷ []) ≡ 18
second_offset = refl

no_offset : offset_of (with_all [] three_things) (offsets (λ x. x) 16 (with_all [] three_things)) (4 ∷ []) ≡ 0
no_offset = refl

-- empty tables: a header of 112 bytes, and behind it a map of the header and itself
abbrev no_tables : Tables
no_tables = record { strings = []; types = []; protos = []; fields = []; methods = []; classes = [] }

empty_map : map_part no_tables
    ≡ 2 ∷ 0 ∷ 0 ∷ 0
    ∷ 0 ∷ 0 ∷ 0 ∷ 0 ∷ 1 ∷ 0 ∷ 0 ∷ 0 ∷ 0 ∷ 0 ∷ 0 ∷ 0
    ∷ 0 ∷ 0x10 ∷ 0 ∷ 0 ∷ 1 ∷ 0 ∷ 0 ∷ 0 ∷ 112 ∷ 0 ∷ 0 ∷ 0 ∷ []
unfolding all_kinds item_bytes map_part type_lists value_arrays types_begin protos_begin fields_begin methods_begin classes_begin map_begin lists_begin lists_part codes_begin codes_part strings_begin strings_part members_begin members_part arrays_begin arrays_part file_end code_offsets listed
empty_map = refl

empty_header : header_words no_tables
    ≡ 140 ∷ 112 ∷ 0x12345678 ∷ 0 ∷ 0 ∷ 112
    ∷ 0 ∷ 0 ∷ 0 ∷ 0 ∷ 0 ∷ 0 ∷ 0 ∷ 0 ∷ 0 ∷ 0 ∷ 0 ∷ 0
    ∷ 28 ∷ 112 ∷ []
unfolding header_words type_lists value_arrays types_begin protos_begin fields_begin methods_begin classes_begin map_begin lists_begin lists_part codes_begin codes_part strings_begin strings_part members_begin members_part arrays_begin arrays_part file_end code_offsets listed
empty_header = refl

empty_file : contents no_tables
    ≡ 140 ∷ 0 ∷ 0 ∷ 0 ∷ 112 ∷ 0 ∷ 0 ∷ 0 ∷ 0x78 ∷ 0x56 ∷ 0x34 ∷ 0x12 ∷ 0 ∷ 0 ∷ 0 ∷ 0 ∷ 0 ∷ 0 ∷ 0 ∷ 0 ∷ 112 ∷ 0 ∷ 0 ∷ 0
    ∷ 0 ∷ 0 ∷ 0 ∷ 0 ∷ 0 ∷ 0 ∷ 0 ∷ 0 ∷ 0 ∷ 0 ∷ 0 ∷ 0 ∷ 0 ∷ 0 ∷ 0 ∷ 0 ∷ 0 ∷ 0 ∷ 0 ∷ 0 ∷ 0 ∷ 0 ∷ 0 ∷ 0
    ∷ 0 ∷ 0 ∷ 0 ∷ 0 ∷ 0 ∷ 0 ∷ 0 ∷ 0 ∷ 0 ∷ 0 ∷ 0 ∷ 0 ∷ 0 ∷ 0 ∷ 0 ∷ 0 ∷ 0 ∷ 0 ∷ 0 ∷ 0 ∷ 0 ∷ 0 ∷ 0 ∷ 0
    ∷ 28 ∷ 0 ∷ 0 ∷ 0 ∷ 112 ∷ 0 ∷ 0 ∷ 0
    ∷ 2 ∷ 0 ∷ 0 ∷ 0
    ∷ 0 ∷ 0 ∷ 0 ∷ 0 ∷ 1 ∷ 0 ∷ 0 ∷ 0 ∷ 0 ∷ 0 ∷ 0 ∷ 0
    ∷ 0 ∷ 0x10 ∷ 0 ∷ 0 ∷ 1 ∷ 0 ∷ 0 ∷ 0 ∷ 112 ∷ 0 ∷ 0 ∷ 0 ∷ []
unfolding contents tables_part strings_table protos_table classes_table data_part header_words all_kinds item_bytes map_part type_lists value_arrays types_begin protos_begin fields_begin methods_begin classes_begin map_begin lists_begin lists_part codes_begin codes_part strings_begin strings_part members_begin members_part arrays_begin arrays_part file_end code_offsets listed
empty_file = refl

-- one string, `V`, and one type, of which it is the name
abbrev one_type : Tables
one_type = record { strings = (0x56 ∷ []) ∷ []; types = 0 ∷ []; protos = []; fields = []; methods = []; classes = [] }

type_file : contents one_type
    ≡ 187 ∷ 0 ∷ 0 ∷ 0 ∷ 112 ∷ 0 ∷ 0 ∷ 0 ∷ 0x78 ∷ 0x56 ∷ 0x34 ∷ 0x12 ∷ 0 ∷ 0 ∷ 0 ∷ 0 ∷ 0 ∷ 0 ∷ 0 ∷ 0 ∷ 120 ∷ 0 ∷ 0 ∷ 0
    ∷ 1 ∷ 0 ∷ 0 ∷ 0 ∷ 112 ∷ 0 ∷ 0 ∷ 0 ∷ 1 ∷ 0 ∷ 0 ∷ 0 ∷ 116 ∷ 0 ∷ 0 ∷ 0
    ∷ 0 ∷ 0 ∷ 0 ∷ 0 ∷ 0 ∷ 0 ∷ 0 ∷ 0 ∷ 0 ∷ 0 ∷ 0 ∷ 0 ∷ 0 ∷ 0 ∷ 0 ∷ 0
    ∷ 0 ∷ 0 ∷ 0 ∷ 0 ∷ 0 ∷ 0 ∷ 0 ∷ 0 ∷ 0 ∷ 0 ∷ 0 ∷ 0 ∷ 0 ∷ 0 ∷ 0 ∷ 0
    ∷ 67 ∷ 0 ∷ 0 ∷ 0 ∷ 120 ∷ 0 ∷ 0 ∷ 0
    ∷ 184 ∷ 0 ∷ 0 ∷ 0 ∷ 0 ∷ 0 ∷ 0 ∷ 0
    ∷ 5 ∷ 0 ∷ 0 ∷ 0
    ∷ 0 ∷ 0 ∷ 0 ∷ 0 ∷ 1 ∷ 0 ∷ 0 ∷ 0 ∷ 0 ∷ 0 ∷ 0 ∷ 0
    ∷ 1 ∷ 0 ∷ 0 ∷ 0 ∷ 1 ∷ 0 ∷ 0 ∷ 0 ∷ 112 ∷ 0 ∷ 0 ∷ 0
    ∷ 2 ∷ 0 ∷ 0 ∷ 0 ∷ 1 ∷ 0 ∷ 0 ∷ 0 ∷ 116 ∷ 0 ∷ 0 ∷ 0
    ∷ 0 ∷ 0x10 ∷ 0 ∷ 0 ∷ 1 ∷ 0 ∷ 0 ∷ 0 ∷ 120 ∷ 0 ∷ 0 ∷ 0
    ∷ 2 ∷ 0x20 ∷ 0 ∷ 0 ∷ 1 ∷ 0 ∷ 0 ∷ 0 ∷ 184 ∷ 0 ∷ 0 ∷ 0
    ∷ 1 ∷ 0x56 ∷ 0 ∷ []
unfolding contents tables_part strings_table protos_table classes_table data_part header_words all_kinds item_bytes map_part type_lists value_arrays types_begin protos_begin fields_begin methods_begin classes_begin map_begin lists_begin lists_part codes_begin codes_part strings_begin strings_part members_begin members_part arrays_begin arrays_part file_end code_offsets listed string_item uleb_bytes
type_file = refl

-- they meet what the law asks of tables
type_writable : IsWritable one_type
unfolding IsStrictlySortedBy
type_writable = record {
  strings = All-cons (λ units. All IsHalf units) (0x56 ∷ []) [] (All-cons IsHalf 0x56 [] (omega arith) (All-nil IsHalf)) (All-nil (λ units. All IsHalf units));
  strings_rise = (tt, tt);
  few_types = omega arith;
  few_protos = omega arith;
  types = All-cons IsWord 0 [] (omega arith) (All-nil IsWord);
  protos = All-nil ProtoFits;
  fields = All-nil MemberFits;
  methods = All-nil MemberFits;
  classes = All-nil ClassFits;
}

type_places : PlacesFit one_type
type_places = All-nil (λ b. All (λ r. IsHalf (list_place b.lists r.list)) b.ranges)

type_short : IsShort one_type
unfolding string_item uleb_bytes type_lists value_arrays types_begin protos_begin fields_begin methods_begin classes_begin map_begin lists_begin lists_part codes_begin codes_part strings_begin strings_part members_begin members_part arrays_begin arrays_part file_end code_offsets listed
type_short = omega (arith, length_image one_type)
