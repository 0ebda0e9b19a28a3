-- Worked checks of the rules on class data, values and code, and of what a file says.
use Rattle.std.proofs.Common.{◌≡◌, ℕ, List, [], ◌∷◌, Some, None, true, false, refl}
use Rattle.std.specs.Prelude.{codes, negsuc}
use Rattle.pi_bytes.specs.Place.{Place}
use Rattle.pi_bytes.specs.Leb.{uleb_at, sleb_at}
use Rattle.pi_bytes.specs.Mutf8.{units_at}
use Rattle.pi_model.specs.Program.{with_file}
use Rattle.pi_model.specs.declared.describe.Init.TheVariants.{Zero, Word, Long}
use Rattle.pi_insn.specs.Reading.{row_insn}
use Rattle.pi_insn.specs.Table.{row_of}
use Rattle.pi_insn.specs.Payloads.{payload, PackedData, SparseData, ArrayData}
use Rattle.pi_format.specs.Core.{name_no, core_names, core_program, int_name, object_name, out_name, void_name, strings_name}
use Rattle.pi_format.specs.Rules.{broken_content_rule}
use Rattle.pi_format.specs.Rules.Rows.{member_row}
use Rattle.pi_format.specs.Rules.ClassData.{ListedMethod, method_fits, is_direct, row_counts, rows_at, class_rows}
use Rattle.pi_format.specs.Rules.Values.{EncodedValue, encoded_value, value_fits, values_at, class_values}
use Rattle.pi_format.specs.Rules.CodeItems.{handler_at, handler_list, handler_lists, code_lies, code_lists, code_holds}
use Rattle.pi_format.specs.Rules.Pieces.{Walk, walk, first_insn, points_well, keys_rise}
use Rattle.pi_format.specs.Rules.Strings.{string_text}
use Rattle.pi_format.specs.Says.{with_said}
use Rattle.pi_format.specs.Says.Names.{Named}
use Rattle.pi_format.specs.Says.Insns.{cases_of, items_of, target}
use Rattle.pi_format.specs.Says.Classes.{init_of, class_desc}
use Rattle.pi_format.specs.Says.Codes.{code_at}
use Rattle.pi_format.specs.Says.Insns.{insn_of}
use Rattle.pi_format.proofs.Five.{five_bytes, five_class, line, x_field, print_ref, clinit_code, main_code}

-- the worked file keeps the rules on its content, and says its program behind the first file
pub five_holds : broken_content_rule five_bytes ≡ None
unfolding units_at five_bytes broken_content_rule string_text member_row method_fits row_counts rows_at class_rows encoded_value value_fits values_at class_values uleb_at sleb_at handler_at handler_list handler_lists code_lies code_lists code_holds walk row_insn row_of payload
five_holds = refl

pub five_is_said :
    with_said core_program five_bytes
    ≡ with_file core_program (codes "LT;" ∷ codes "VI" ∷ codes "VL" ∷ codes "x" ∷ [])
    (int_name ∷ name_no 8 ∷ object_name ∷ out_name ∷ void_name ∷ strings_name ∷ []) (five_class ∷ [])
unfolding units_at five_bytes five_class line x_field print_ref clinit_code main_code core_names with_said string_text member_row method_fits row_counts rows_at class_rows encoded_value value_fits values_at class_values uleb_at sleb_at handler_at handler_list handler_lists code_lists walk row_insn row_of payload init_of class_desc code_at insn_of
five_is_said = refl

-- methods by flags: static 0x8, private 0x2, native 0x100, abstract 0x400, constructor 0x10000
method : List ℕ → List ℕ → ℕ → ℕ → ListedMethod
method name ret flags code = record { name = name; ret = ret; params = []; flags = flags; code = code }

a_constructor_fits : method_fits false (method (codes "<init>") (codes "V") 0x10001 8) ≡ true
unfolding method method_fits
a_constructor_fits = refl

no_flag_no_constructor : method_fits false (method (codes "<init>") (codes "V") 1 8) ≡ false
unfolding method method_fits
no_flag_no_constructor = refl

a_constructor_returns_nothing : method_fits false (method (codes "<init>") (codes "I") 0x10001 8) ≡ false
unfolding method method_fits
a_constructor_returns_nothing = refl

an_initialiser_is_static : method_fits false (method (codes "<clinit>") (codes "V") 2 8) ≡ false
unfolding method method_fits
an_initialiser_is_static = refl

an_initialiser_needs_no_flag : method_fits true (method (codes "<clinit>") (codes "V") 8 8) ≡ true
unfolding method method_fits
an_initialiser_needs_no_flag = refl

native_has_no_code : method_fits false (method (codes "f") (codes "I") 0x101 8) ≡ false
unfolding method method_fits
native_has_no_code = refl

others_have_code : method_fits false (method (codes "f") (codes "I") 1 0) ≡ false
unfolding method method_fits
others_have_code = refl

an_interface_is_abstract : method_fits true (method (codes "f") (codes "I") 1 8) ≡ false
unfolding method method_fits
an_interface_is_abstract = refl

abstract_in_interface : method_fits true (method (codes "f") (codes "I") 0x401 0) ≡ true
unfolding method method_fits
abstract_in_interface = refl

a_constructor_is_direct : is_direct (method (codes "<init>") (codes "V") 0x10001 8) ≡ true
unfolding method
a_constructor_is_direct = refl

a_flag_is_no_constructor : is_direct (method (codes "f") (codes "V") 0x10001 8) ≡ false
unfolding method
a_flag_is_no_constructor = refl

start : List ℕ → Place
start bytes = record { bytes = bytes; at = 0 }

-- what a value sets a field to, where the file has no names
value : ℕ → ℕ → ℕ → EncodedValue
value kind arg number = record { kind = kind; arg = arg; number = number }

short_is_read : encoded_value (start (0x22 ∷ 0xfe ∷ 0xff ∷ 7 ∷ [])) ≡ Some (value 2 1 0xfffe, record { bytes = 0x22 ∷ 0xfe ∷ 0xff ∷ 7 ∷ []; at = 3 })
unfolding start value encoded_value
short_is_read = refl

true_is_read : encoded_value (start (0x3f ∷ [])) ≡ Some (value 0x1f 1 0, record { bytes = 0x3f ∷ []; at = 1 })
unfolding start value encoded_value
true_is_read = refl

cut_value : encoded_value (start (0x64 ∷ 1 ∷ 2 ∷ 3 ∷ [])) ≡ None
unfolding start encoded_value
cut_value = refl

nothing : Named
nothing = record { file = []; numbers = [] }

byte_is_signed : init_of nothing (value 0 0 0xff) ≡ Word 0xffffffff
unfolding nothing value init_of
byte_is_signed = refl

short_is_signed : init_of nothing (value 2 1 0xfffe) ≡ Word 0xfffffffe
unfolding nothing value init_of
short_is_signed = refl

short_byte_is_signed : init_of nothing (value 2 0 0x80) ≡ Word 0xffffff80
unfolding nothing value init_of
short_byte_is_signed = refl

char_is_not : init_of nothing (value 3 1 0xfffe) ≡ Word 0xfffe
unfolding nothing value init_of
char_is_not = refl

int_is_signed : init_of nothing (value 4 2 0x800000) ≡ Word 0xff800000
unfolding nothing value init_of
int_is_signed = refl

whole_int : init_of nothing (value 4 3 0xffffffff) ≡ Word 0xffffffff
unfolding nothing value init_of
whole_int = refl

long_is_signed : init_of nothing (value 6 0 0xff) ≡ Long 0xffffffffffffffff
unfolding nothing value init_of
long_is_signed = refl

whole_long : init_of nothing (value 6 7 0x8000000000000001) ≡ Long 0x8000000000000001
unfolding nothing value init_of
whole_long = refl

zero_is_no_value : init_of nothing (value 4 3 0) ≡ Zero
unfolding nothing value init_of
zero_is_no_value = refl

false_is_no_value : init_of nothing (value 0x1f 0 0) ≡ Zero
unfolding nothing value init_of
false_is_no_value = refl

true_is_one : init_of nothing (value 0x1f 1 0) ≡ Word 1
unfolding nothing value init_of
true_is_one = refl

null_is_no_value : init_of nothing (value 0x1e 0 0) ≡ Zero
unfolding nothing value init_of
null_is_no_value = refl

fits_its_type : value_fits [] (codes "S") (value 2 1 0xffff) ≡ true
unfolding value value_fits
fits_its_type = refl

fits_no_other : value_fits [] (codes "I") (value 2 1 0xffff) ≡ false
unfolding value value_fits
fits_no_other = refl

too_many_bytes : value_fits [] (codes "S") (value 2 2 0xffff) ≡ false
unfolding value value_fits
too_many_bytes = refl

null_fits_array : value_fits [] (codes "[I") (value 0x1e 0 0) ≡ true
unfolding value value_fits
null_fits_array = refl

null_fits_no_int : value_fits [] (codes "I") (value 0x1e 0 0) ≡ false
unfolding value value_fits
null_fits_no_int = refl

-- one list with a last handler alone: size 0 and an address
last_alone : handler_list [] 5 (start (0 ∷ 4 ∷ [])) ≡ Some (record { at = 0; typed = []; last = Some 4 }, record { bytes = 0 ∷ 4 ∷ []; at = 2 })
unfolding start uleb_at sleb_at handler_list
last_alone = refl

last_past_the_end : handler_list [] 4 (start (0 ∷ 4 ∷ [])) ≡ None
unfolding start uleb_at sleb_at handler_list
last_past_the_end = refl

-- units: an instruction, then a payload with one item of a byte, which is padded
walked : Walk
walked = walk (0x000e ∷ 0x0300 ∷ 1 ∷ 1 ∷ 0 ∷ 0xff05 ∷ 0x000e ∷ [])

starts_of : Walk → List ℕ
starts_of w = go w.pieces
  where
    go : List Rattle.pi_format.specs.Rules.Pieces.Piece → List ℕ
    go [] = []
    go (p ∷ ps) = p.at ∷ go ps

pieces_follow : starts_of walked ≡ 0 ∷ 1 ∷ 6 ∷ []
unfolding starts_of walked walk row_insn row_of payload
pieces_follow = refl

no_stop : walked.stop ≡ None
unfolding walked walk row_insn row_of payload
no_stop = refl

stops_at_rest : (walk (0x000e ∷ 0x0300 ∷ 1 ∷ 3 ∷ 0 ∷ 0xff05 ∷ [])).stop ≡ Some 1
unfolding walk row_insn row_of payload
stops_at_rest = refl

stops_at_cut : (walk (0x000e ∷ 0x0013 ∷ [])).stop ≡ Some 1
unfolding walk row_insn row_of payload
stops_at_cut = refl

-- the payload at unit 4 of a switch at unit 0, and of one at unit 1, whose distance is one less
points_at_even : first_insn (points_well (walk (0x002b ∷ 4 ∷ 0 ∷ 0x000e ∷ 0x0100 ∷ 0 ∷ 0 ∷ 0 ∷ [])).pieces) (walk (0x002b ∷ 4 ∷ 0 ∷ 0x000e ∷ 0x0100 ∷ 0 ∷ 0 ∷ 0 ∷ [])).pieces ≡ None
unfolding walk row_insn row_of payload
points_at_even = refl

points_at_odd : first_insn (points_well (walk (0x000e ∷ 0x002b ∷ 4 ∷ 0 ∷ 0x000e ∷ 0x0100 ∷ 0 ∷ 0 ∷ 0 ∷ [])).pieces) (walk (0x000e ∷ 0x002b ∷ 4 ∷ 0 ∷ 0x000e ∷ 0x0100 ∷ 0 ∷ 0 ∷ 0 ∷ [])).pieces ≡ Some 1
unfolding walk row_insn row_of payload
points_at_odd = refl

points_at_other_kind : first_insn (points_well (walk (0x0026 ∷ 4 ∷ 0 ∷ 0x000e ∷ 0x0100 ∷ 0 ∷ 0 ∷ 0 ∷ [])).pieces) (walk (0x0026 ∷ 4 ∷ 0 ∷ 0x000e ∷ 0x0100 ∷ 0 ∷ 0 ∷ 0 ∷ [])).pieces ≡ Some 0
unfolding walk row_insn row_of payload
points_at_other_kind = refl

keys_are_signed : keys_rise (0xffff ∷ 0xffff ∷ 0 ∷ 0 ∷ 1 ∷ 0 ∷ []) ≡ true
keys_are_signed = refl

keys_stand_once : keys_rise (1 ∷ 0 ∷ 1 ∷ 0 ∷ []) ≡ false
keys_stand_once = refl

packed_cases : cases_of 10 (Some (PackedData (negsuc 0) (3 ∷ 0 ∷ 0xfffe ∷ 0xffff ∷ []))) ≡ record { key = 0xffffffff; to = 13 } ∷ record { key = 0; to = 8 } ∷ []
packed_cases = refl

sparse_cases : cases_of 10 (Some (SparseData (5 ∷ 0 ∷ []) (3 ∷ 0 ∷ []))) ≡ record { key = 5; to = 13 } ∷ []
sparse_cases = refl

byte_items : items_of (Some (ArrayData 1 3 (0x0201 ∷ 0xff03 ∷ []))) ≡ 1 ∷ 2 ∷ 3 ∷ []
byte_items = refl

long_items : items_of (Some (ArrayData 8 1 (1 ∷ 0 ∷ 0 ∷ 0x8000 ∷ []))) ≡ 0x8000000000000001 ∷ []
long_items = refl

before_the_start : target 2 (negsuc 3) ≡ 0xfffffffe
before_the_start = refl
