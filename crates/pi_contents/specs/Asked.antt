-- What the rules X13 to X23 ask of classes by their contents. A file that breaks no rule says classes of which all of it
-- holds; and of classes that a file is written for, what each rule asks is what makes the file keep that rule. X22 asks
-- nothing: what classes name is always among what their file names.
use Rattle.std.specs.Prelude.{ℕ, ◌+◌, ◌%◌, ◌^◌, ◌==◌, ◌&&◌, ◌||◌, not, nat_lt, nat_le, int_lt, codes, List, [], ◌∷◌, ◌++◌, length, map, sum_by, Option, Some, None, is_some, Bool, true, false, IsTrue, if◌then◌else◌}
use Rattle.std.specs.List.{list_all, list_any}
use Rattle.pi_model.specs.declared.insn.Case.{Case}
use Rattle.pi_model.specs.declared.insn.Insn.{Insn}
use Rattle.pi_model.specs.declared.insn.Insn.TheVariants.{FillArray, Switch}
use Rattle.pi_model.specs.Distinct.{all_distinct}
use Rattle.pi_model.specs.Flags.{is_private, is_static, is_native, is_interface, is_abstract, is_flagged_constructor}
use Rattle.pi_model.specs.Texts.{same_text}
use Rattle.pi_insn.specs.Numbers.{signed_number, short_bits}
use Rattle.pi_insn.specs.Payloads.{is_width}
use Rattle.pi_format.specs.Rules.Descriptors.{begins_with, is_descriptor, is_class_type, is_array_type, is_void, words_of_type, is_member_name, is_method_name}
use Rattle.pi_contents.specs.Contents.{FieldName, Prototype, MethodName, LineContent, CatchContent, CodeContent, InitContent, NoInit, WordInit, LongInit, TextInit, TypeInit, FieldContent, MethodContent, ClassContent}
use Rattle.pi_contents.specs.Naming.{named_by, protos_named, fields_named, methods_named, types_named}

-- X14: parameters are values, with at most 255 argument words
abbrev pub is_value : List ℕ → Bool
is_value t = not (is_void t)

abbrev pub proto_fits : Prototype → Bool
proto_fits p = list_all is_value p.params && nat_le (sum_by words_of_type p.params) 255

-- X15: a field belongs to a class, has a value, and a name without marks
abbrev pub field_fits : FieldName → Bool
field_fits f = is_class_type f.class && (is_value f.ty && is_member_name f.name)

-- X16: a method belongs to a class or an array, and its name is that of one
abbrev pub method_fits : MethodName → Bool
method_fits m = (is_class_type m.class || is_array_type m.class) && is_method_name m.name

-- X17: a class is defined once; its superclass and its interfaces stand before it where they are among the classes, and
-- exactly Object has no superclass. `all` are the names of all classes, `before` those of the classes before this one.
abbrev pub stands_earlier : List (List ℕ) → List (List ℕ) → List ℕ → Bool
stands_earlier all before t = not (list_any (same_text t) all) || list_any (same_text t) before

abbrev pub is_object : List ℕ → Bool
is_object t = same_text (codes "Ljava/lang/Object;") t

abbrev pub parent_fits : List (List ℕ) → List (List ℕ) → List ℕ → Option (List ℕ) → Bool
parent_fits all before class None = is_object class
parent_fits all before class (Some parent) = not (is_object class) && stands_earlier all before parent

abbrev pub faces_fit : List (List ℕ) → List (List ℕ) → List (List ℕ) → Bool
faces_fit all before faces =
    list_all (λ t. is_class_type t && stands_earlier all before t) faces && all_distinct same_text faces

abbrev pub class_fits : List (List ℕ) → List (List ℕ) → ClassContent → Bool
class_fits all before c =
    is_class_type c.name && (not (list_any (same_text c.name) before)
    && (parent_fits all before c.name c.parent && faces_fit all before c.faces))

abbrev pub classes_fit : List (List ℕ) → List (List ℕ) → List ClassContent → Bool
classes_fit all before [] = true
classes_fit all before (c ∷ cs) = class_fits all before c && classes_fit all (before ++ c.name ∷ []) cs

-- X18: no member of a class stands twice
abbrev pub same_texts : List (List ℕ) → List (List ℕ) → Bool
same_texts [] [] = true
same_texts (t ∷ ts) (u ∷ us) = same_text t u && same_texts ts us
same_texts [] (u ∷ us) = false
same_texts (t ∷ ts) [] = false

abbrev pub same_field : FieldContent → FieldContent → Bool
same_field f g = same_text f.name g.name && same_text f.ty g.ty

abbrev pub same_method : MethodContent → MethodContent → Bool
same_method m n = same_text m.name n.name && (same_text m.proto.ret n.proto.ret && same_texts m.proto.params n.proto.params)

-- X18: an interface has no field of instances
abbrev pub field_is_listed : Bool → FieldContent → Bool
field_is_listed interface f = is_static f.flags || not interface

abbrev pub is_constructor : MethodContent → Bool
is_constructor m = same_text (codes "<init>") m.name

abbrev pub is_initialiser : MethodContent → Bool
is_initialiser m = same_text (codes "<clinit>") m.name

abbrev pub is_direct : MethodContent → Bool
is_direct m = is_static m.flags || (is_private m.flags || is_constructor m)

-- X18: a method has code exactly where it is neither native nor abstract; an initialiser is static, takes nothing and
-- returns nothing; a constructor is flagged as one and returns nothing; the methods of an interface are abstract, but for
-- its initialiser; and no direct method is abstract
abbrev pub code_agrees : MethodContent → Bool
code_agrees m = if is_some m.code then not (is_native m.flags || is_abstract m.flags) else is_native m.flags || is_abstract m.flags

abbrev pub initialiser_fits : MethodContent → Bool
initialiser_fits m = not (is_initialiser m) || (is_static m.flags && ((length m.proto.params == 0) && is_void m.proto.ret))

abbrev pub constructor_fits : MethodContent → Bool
constructor_fits m = not (is_constructor m) || (is_flagged_constructor m.flags && is_void m.proto.ret)

abbrev pub interface_fits : Bool → MethodContent → Bool
interface_fits interface m = not interface || (is_abstract m.flags || is_initialiser m)

abbrev pub method_is_listed : Bool → MethodContent → Bool
method_is_listed interface m =
    code_agrees m && (initialiser_fits m && (constructor_fits m && (interface_fits interface m
    && not (is_direct m && is_abstract m.flags))))

abbrev pub members_fit : ClassContent → Bool
members_fit c =
    (all_distinct same_field c.fields && list_all (field_is_listed (is_interface c.flags)) c.fields)
    && (all_distinct same_method c.methods && list_all (method_is_listed (is_interface c.flags)) c.methods)

-- X19: what a static field is set to is of the field's type; a field that is set to nothing is of a type with a value
abbrev pub is_reference : List ℕ → Bool
is_reference t = is_class_type t || is_array_type t

abbrev pub is_number : List ℕ → Bool
is_number t =
    begins_with 66 t || (begins_with 83 t || (begins_with 67 t || (begins_with 73 t || (begins_with 74 t || begins_with 90 t))))

-- a number of 32 bits is one of a byte, a short, a char, an int or a boolean, by the first letter of the type
abbrev pub word_fits : List ℕ → ℕ → Bool
word_fits t w =
    if begins_with 66 t then is_some (short_bits 128 (2 ^ 32) w) else
    if begins_with 83 t then is_some (short_bits 32768 (2 ^ 32) w) else
    if begins_with 67 t then nat_lt w 65536 else
    if begins_with 73 t then nat_lt w (2 ^ 32) else
    if begins_with 90 t then nat_lt w 2 else false

abbrev pub init_fits : List ℕ → InitContent → Bool
init_fits t NoInit = is_number t || is_reference t
init_fits t (WordInit w) = nat_lt 0 w && word_fits t w
init_fits t (LongInit l) = nat_lt 0 l && (nat_lt l (2 ^ 64) && begins_with 74 t)
init_fits t (TextInit s) = same_text (codes "Ljava/lang/String;") t
init_fits t (TypeInit u) = same_text (codes "Ljava/lang/Class;") t && is_reference u

abbrev pub has_init : InitContent → Bool
has_init NoInit = false
has_init (WordInit w) = true
has_init (LongInit l) = true
has_init (TextInit s) = true
has_init (TypeInit t) = true

-- the static fields of a class, of which none is set, or each fits
abbrev pub static_fits : FieldContent → Bool
static_fits f = not (is_static f.flags) || init_fits f.ty f.init

abbrev pub is_set : FieldContent → Bool
is_set f = is_static f.flags && has_init f.init

abbrev pub inits_fit : ClassContent → Bool
inits_fit c = not (list_any is_set c.fields) || list_all static_fits c.fields

-- X20: a range ends in the code, no earlier than it begins, and its handler stands in the code
abbrev pub catch_fits : ℕ → CatchContent → Bool
catch_fits units c = nat_le c.from c.to && (nat_le c.to units && nat_lt c.at units)

-- X20: an entry is of the range of the entry before it, if that one catches a type, or of a range behind it
abbrev pub follows : CatchContent → CatchContent → Bool
follows b c = ((b.from == c.from) && ((b.to == c.to) && is_some b.ty)) || nat_le b.to c.from

abbrev pub ranges_rise : List CatchContent → Bool
ranges_rise [] = true
ranges_rise (b ∷ []) = true
ranges_rise (b ∷ c ∷ cs) = follows b c && ranges_rise (c ∷ cs)

-- X20: the argument words of a method are those of its code, and no more than its registers
abbrev pub argument_words : MethodContent → ℕ
argument_words m = (if is_static m.flags then 0 else 1) + sum_by words_of_type m.proto.params

abbrev pub body_fits : ℕ → Option CodeContent → Bool
body_fits words None = true
body_fits words (Some c) =
    (c.ins == words) && (nat_le words c.regs && (nat_lt 0 c.units
    && (list_all (catch_fits c.units) c.catches && ranges_rise c.catches)))

abbrev pub bodies_fit : ClassContent → Bool
bodies_fit c = list_all (λ (m : MethodContent). body_fits (argument_words m) m.code) c.methods

-- X21: an instruction begins no earlier than the one before it ends, none is empty, and the last ends in the code
abbrev pub lines_lie : ℕ → ℕ → List LineContent → Bool
lines_lie units at [] = nat_le at units
lines_lie units at (l ∷ ls) = nat_le at l.at && (nat_lt 0 l.units && lines_lie units (l.at + l.units) ls)

abbrev pub code_lies : Option CodeContent → Bool
code_lies None = true
code_lies (Some c) = lines_lie c.units 0 c.lines

abbrev pub codes_lie : ClassContent → Bool
codes_lie c = list_all (λ (m : MethodContent). code_lies m.code) c.methods

-- X23: the keys of a switch each follow the one before, modulo 2^32, or rise as signed numbers
abbrev pub follow_on : List Case → Bool
follow_on [] = true
follow_on (a ∷ []) = true
follow_on (a ∷ b ∷ cs) = (b.key == (a.key + 1) % 2 ^ 32) && follow_on (b ∷ cs)

abbrev pub keys_rise : List Case → Bool
keys_rise [] = true
keys_rise (a ∷ []) = true
keys_rise (a ∷ b ∷ cs) = int_lt (signed_number 2147483648 a.key) (signed_number 2147483648 b.key) && keys_rise (b ∷ cs)

-- X23: and the items of an array have a width and fit it
abbrev pub insn_fits : Insn → Bool
insn_fits (Switch a cases) = follow_on cases || keys_rise cases
insn_fits (FillArray a width items) = is_width width && list_all (λ x. nat_lt x (256 ^ width)) items
insn_fits _ = true

abbrev pub line_fits : LineContent → Bool
line_fits l = insn_fits l.insn

abbrev pub lines_fit : Option CodeContent → Bool
lines_fit None = true
lines_fit (Some c) = list_all line_fits c.lines

abbrev pub codes_fit : ClassContent → Bool
codes_fit c = list_all (λ (m : MethodContent). lines_fit m.code) c.methods

-- what the format asks of classes, rule by rule
pub record IsOfFormat (cs : List ClassContent) : Type 0 where
  pub x13 : IsTrue (list_all is_descriptor (types_named (named_by cs)))
  pub x14 : IsTrue (list_all proto_fits (protos_named (named_by cs)))
  pub x15 : IsTrue (list_all field_fits (fields_named (named_by cs)))
  pub x16 : IsTrue (list_all method_fits (methods_named (named_by cs)))
  pub x17 : IsTrue (classes_fit (map (λ (c : ClassContent). c.name) cs) [] cs)
  pub x18 : IsTrue (list_all members_fit cs)
  pub x19 : IsTrue (list_all inits_fit cs)
  pub x20 : IsTrue (list_all bodies_fit cs)
  pub x21 : IsTrue (list_all codes_lie cs)
  pub x23 : IsTrue (list_all codes_fit cs)
