-- Worked checks of the rules on tables: sums, type lists, names, descriptors, and the worked file.
use Rattle.std.proofs.Common.{◌≡◌, ℕ, zero, suc, List, [], ◌∷◌, None, true, false, refl}
use Rattle.std.specs.Prelude.{codes}
use Rattle.std.specs.List.{list_all, list_any}
use Rattle.pi_format.specs.Rules.Entries.{list_fits, list_at}
use Rattle.pi_format.specs.Rules.Header.{broken_length, broken_magic, broken_order, broken_header_size, broken_file_size, broken_checksum, broken_tables, broken_data}
use Rattle.pi_bytes.specs.Sums.{adler}
use Rattle.pi_format.specs.Tables.{table_holds}
use Rattle.pi_format.specs.Rules.Map.{has_item, lacks_item, table_mapped, names_ids, names_members, map_holds, broken_map}
use Rattle.pi_format.specs.Rules.Descriptors.{is_class_name, is_array_of, is_descriptor, is_member_name, is_method_name, short_letter, words_of_type}
use Rattle.pi_format.specs.Rules.Strings.{string_text, string_bytes, broken_strings, broken_string_order, broken_types}
use Rattle.pi_format.specs.Rules.Members.{params_hold, short_agrees, protos_compared, broken_protos, broken_fields, broken_methods}
use Rattle.pi_format.specs.Rules.Classes.{is_object, is_defined_in, stands_earlier, parent_holds, faces_hold, broken_classes}
use Rattle.pi_bytes.specs.Mutf8.{units_at}
use Rattle.pi_format.proofs.Five.{five_bytes}

sum_of_a_word : adler (codes "Wikipedia") ≡ 0x11e60398
unfolding adler
sum_of_a_word = refl

sum_of_nothing : adler [] ≡ 1
unfolding adler
sum_of_nothing = refl

-- that many `[` before a text
arrays : ℕ → List ℕ → List ℕ
arrays zero units = units
arrays (suc n) units = 91 ∷ arrays n units

are_descriptors :
    list_all is_descriptor (codes "V" ∷ codes "Z" ∷ codes "B" ∷ codes "S" ∷ codes "C" ∷ codes "I" ∷ codes "J"
    ∷ codes "LT;" ∷ codes "Ljava/lang/Object;" ∷ codes "La/b/c;" ∷ codes "LV;" ∷ codes "L<;" ∷ (76 ∷ 0 ∷ 55296 ∷ 59 ∷ [])
    ∷ codes "[I" ∷ codes "[[J" ∷ codes "[LT;" ∷ arrays 255 (codes "I") ∷ arrays 255 (codes "LT;") ∷ []) ≡ true
unfolding arrays is_array_of is_class_name
are_descriptors = refl

are_none :
    list_any is_descriptor ([] ∷ codes "F" ∷ codes "D" ∷ codes "T" ∷ codes "VV" ∷ codes "II" ∷ codes "[V" ∷ codes "[" ∷ codes "[["
    ∷ codes "L" ∷ codes "LT" ∷ codes "L;" ∷ codes "L/;" ∷ codes "L/T;" ∷ codes "LT/;" ∷ codes "La//b;" ∷ codes "La.b;" ∷ codes "La;b;" ∷ codes "La[b;"
    ∷ codes "LT;;" ∷ codes "LT;I" ∷ codes "I[" ∷ codes "[;" ∷ codes "T;" ∷ arrays 256 (codes "I") ∷ arrays 256 (codes "LT;") ∷ arrays 255 (codes "V") ∷ []) ≡ false
unfolding arrays is_array_of is_class_name
are_none = refl

are_member_names :
    list_all is_member_name (codes "x" ∷ codes "<init>" ∷ codes "<x" ∷ codes "$" ∷ codes "-" ∷ (0 ∷ []) ∷ (8364 ∷ 55296 ∷ []) ∷ []) ≡ true
are_member_names = refl

are_no_member_names :
    list_any is_member_name ([] ∷ codes "." ∷ codes ";" ∷ codes "[" ∷ codes "/" ∷ codes "x." ∷ codes "a;b" ∷ codes "a[" ∷ codes "a/b" ∷ []) ≡ false
are_no_member_names = refl

are_method_names : list_all is_method_name (codes "x" ∷ codes "<init>" ∷ codes "<clinit>" ∷ codes "a>" ∷ codes ">" ∷ []) ≡ true
are_method_names = refl

are_no_method_names :
    list_any is_method_name ([] ∷ codes "<" ∷ codes "<x>" ∷ codes "<init" ∷ codes "init<" ∷ codes "<init>x" ∷ codes "<clinit>;" ∷ codes "a.b" ∷ []) ≡ false
are_no_method_names = refl

letter_of_array : short_letter (codes "[I") ≡ 76
letter_of_array = refl

letter_of_class : short_letter (codes "LT;") ≡ 76
letter_of_class = refl

letter_of_nothing : short_letter (codes "V") ≡ 86
letter_of_nothing = refl

words_of_long : words_of_type (codes "J") ≡ 2
words_of_long = refl

words_of_longs : words_of_type (codes "[J") ≡ 1
words_of_longs = refl

-- a list of the types 1 and 2 at 4, and its 12 bytes in all
two_types : List ℕ
two_types = 0 ∷ 0 ∷ 0 ∷ 0 ∷ 2 ∷ 0 ∷ 0 ∷ 0 ∷ 1 ∷ 0 ∷ 2 ∷ 0 ∷ []

list_is_read : list_at two_types 4 ≡ 1 ∷ 2 ∷ []
unfolding two_types
list_is_read = refl

no_list : list_at two_types 0 ≡ []
unfolding two_types
no_list = refl

lists_fit : list_all (list_fits two_types) (0 ∷ 4 ∷ []) ≡ true
unfolding two_types
lists_fit = refl

-- at no multiple of four, with too many types, with no whole count, behind the end
lists_fit_not : list_any (list_fits two_types) (2 ∷ 3 ∷ 6 ∷ 8 ∷ 10 ∷ 12 ∷ 400 ∷ []) ≡ false
unfolding two_types
lists_fit_not = refl

-- the worked file breaks no rule; that its signature fits is tested
five_length : broken_length five_bytes ≡ None
unfolding five_bytes
five_length = refl

five_magic : broken_magic five_bytes ≡ None
unfolding five_bytes
five_magic = refl

five_order : broken_order five_bytes ≡ None
unfolding five_bytes
five_order = refl

five_header_size : broken_header_size five_bytes ≡ None
unfolding five_bytes
five_header_size = refl

five_file_size : broken_file_size five_bytes ≡ None
unfolding five_bytes
five_file_size = refl

five_checksum : broken_checksum five_bytes ≡ None
unfolding five_bytes adler
five_checksum = refl

five_tables : broken_tables five_bytes ≡ None
unfolding five_bytes table_holds
five_tables = refl

five_data : broken_data five_bytes ≡ None
unfolding five_bytes
five_data = refl

five_map : broken_map five_bytes ≡ None
unfolding five_bytes map_holds names_ids names_members table_mapped has_item lacks_item
five_map = refl

five_strings : broken_strings five_bytes ≡ None
unfolding five_bytes string_text units_at
five_strings = refl

five_string_order : broken_string_order five_bytes ≡ None
unfolding five_bytes string_text units_at
five_string_order = refl

five_types : broken_types five_bytes ≡ None
unfolding is_array_of is_class_name five_bytes string_text units_at
five_types = refl

five_protos : broken_protos five_bytes ≡ None
unfolding params_hold short_agrees protos_compared five_bytes string_text units_at
five_protos = refl

five_fields : broken_fields five_bytes ≡ None
unfolding five_bytes string_text units_at
five_fields = refl

five_methods : broken_methods five_bytes ≡ None
unfolding five_bytes string_text units_at
five_methods = refl

five_classes : broken_classes five_bytes ≡ None
unfolding is_object is_defined_in stands_earlier parent_holds faces_hold five_bytes string_text units_at
five_classes = refl

five_name : string_bytes five_bytes 2 ≡ codes "LT;"
unfolding five_bytes string_text units_at
five_name = refl
