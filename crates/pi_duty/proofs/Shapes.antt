-- A small program that a file says behind the first file has the shape that upper crates rely on.
use Rattle.std.proofs.Common.{◌≡◌, inl, inr, ℕ, ◌+◌, ◌-◌, ◌<◌, ◌≤◌, ◌==◌, ◌&&◌, ◌++◌, List, [], ◌∷◌, length, Option, Some, None, Bool, true, refl, ap, sym, ◌∙◌, subst, arith}
use Rattle.std.specs.Prelude.{nat_lt, nat_le, not, slice_index}
use Rattle.std.specs.List.{list_all, All}
use Rattle.std.proofs.lemmas.Bool.Decides.{nat_tests}
use Rattle.pi_model.specs.declared.numbers.NameNo.{NameNo}
use Rattle.pi_model.specs.declared.insn.Insn.{Insn}
use Rattle.pi_model.specs.declared.insn.Insn.TheVariants.{Sget, Sput, Invoke}
use Rattle.pi_model.specs.declared.describe.Line.{Line}
use Rattle.pi_model.specs.declared.describe.Code.{Code}
use Rattle.pi_model.specs.declared.describe.FieldDesc.{FieldDesc}
use Rattle.pi_model.specs.declared.describe.ClassDesc.{ClassDesc}
use Rattle.pi_model.specs.declared.describe.MethodDesc.{MethodDesc}
use Rattle.pi_model.specs.Flags.{is_static}
use Rattle.pi_model.specs.Distinct.{all_distinct}
use Rattle.pi_model.specs.Program.{Program, no_files, same_name, with_file}
use Rattle.pi_model.specs.Search.{same_names}
use Rattle.pi_model.specs.Texts.{same_text}
use Rattle.pi_model.specs.Valid.{FitsBehind, IsProgram}
use Rattle.pi_model.proofs.Kept.{kept_at_first, kept_behind}
use Rattle.pi_bytes.specs.Numbers.{most_bytes}
use Rattle.pi_format.specs.Core.{core_names, core_types, core_classes, core_program, object_class, out_class, object_name, out_name, int_name, void_name, strings_name, main_name, clinit_name}
use Rattle.pi_format.specs.Rules.{broken_rule}
use Rattle.pi_format.specs.Says.{HasRoom, SaysNext, named_file, with_said}
use Rattle.pi_format.specs.Says.Names.{new_names, texts_of}
use Rattle.pi_format.specs.Says.Classes.{types_said, classes_said}
use Rattle.pi_format.proofs.Every.{all_first}
use Rattle.pi_machine.proofs.Truths.{both, either}
use Rattle.pi_duty.specs.Small.{is_plain_text, has_no_value, field_fits, line_fits, insn_units, lies, ends_in_return, is_empty, code_fits, method_fits, main_fits, clinit_fits, methods_fit, parent_fits, class_fits, has_text, one_fits, is_small}
use Rattle.pi_format.specs.Says.Facts.{laid_from, code_laid, method_laid, few_registers, code_small, method_small, IsOfFile}
use Rattle.pi_duty.specs.Shape.{Brought, small_chain, HasSmallClass, IsSmall}

-- every instruction has a length
has_length : (i : Insn) → nat_lt 0 (insn_units i) ≡ true
has_length (Sget kind a f) = refl
has_length (Sput kind a f) = refl
has_length (Invoke how m regs) = refl
has_length _ = refl

same_length : (a b : ℕ) → (a == b) ≡ true → nat_lt 0 b ≡ true → nat_lt 0 a ≡ true
same_length a b e h = grind (arith, nat_tests)

-- instructions that lie one behind another to the end of a code are laid so
lies_laid : (at end : ℕ) (ls : List Line) → lies at end ls ≡ true → laid_from at ls ≡ true
lies_laid at end [] e = refl
lies_laid at end (l ∷ ls) e =
    let a = both (l.at == at) ((l.units == insn_units l.insn) && lies (at + l.units) end ls) e in
    let b = both (l.units == insn_units l.insn) (lies (at + l.units) end ls) a.1 in
    let some : nat_lt 0 l.units ≡ true = same_length l.units (insn_units l.insn) b.0 (has_length l.insn) in
    rw (a.0, some) (lies_laid (at + l.units) end ls b.1)

-- a code that fits is there, and its instructions lie so
code_is_laid : (d : ClassDesc) (ins : ℕ) (o : Option Code) → code_fits d ins o ≡ true → code_laid o ≡ true
code_is_laid d ins None e = cc
code_is_laid d ins (Some code) e =
    let lines : Bool = list_all (line_fits d (code.regs - ins)) code.insns in
    let tail : Bool = lies 0 code.units code.insns && is_empty code.tries in
    let a = both (code.ins == ins) (nat_le ins code.regs && (lines && (ends_in_return code.insns && tail))) e in
    let b = both (nat_le ins code.regs) (lines && (ends_in_return code.insns && tail)) a.1 in
    let c = both lines (ends_in_return code.insns && tail) b.1 in
    let f = both (ends_in_return code.insns) tail c.1 in
    lies_laid 0 code.units code.insns (both (lies 0 code.units code.insns) (is_empty code.tries) f.1).0

method_is_laid : (d : ClassDesc) (name : NameNo) (params : List NameNo) (ins : ℕ) (m : MethodDesc) → method_fits d name params ins m ≡ true → method_laid m ≡ true
method_is_laid d name params ins m e =
    let a = both (same_name m.name name) (same_names m.params params && (same_name m.ret void_name && (is_static m.flags && code_fits d ins m.code))) e in
    let b = both (same_names m.params params) (same_name m.ret void_name && (is_static m.flags && code_fits d ins m.code)) a.1 in
    let c = both (same_name m.ret void_name) (is_static m.flags && code_fits d ins m.code) b.1 in
    code_is_laid d ins m.code (both (is_static m.flags) (code_fits d ins m.code) c.1).1

main_is_laid : (d : ClassDesc) (m : MethodDesc) → main_fits d m ≡ true → method_laid m ≡ true
main_is_laid d m e = method_is_laid d main_name (strings_name ∷ []) 1 m e

clinit_is_laid : (d : ClassDesc) (m : MethodDesc) → clinit_fits d m ≡ true → method_laid m ≡ true
clinit_is_laid d m e = method_is_laid d clinit_name [] 0 m e

two : (a b : MethodDesc) → method_laid a ≡ true → method_laid b ≡ true → list_all method_laid (a ∷ b ∷ []) ≡ true
two a b h k = rw (h, k) refl

methods_laid : (d : ClassDesc) (ms : List MethodDesc) → methods_fit d ms ≡ true → list_all method_laid ms ≡ true
methods_laid d [] e = refl
methods_laid d (m ∷ []) e = rw (main_is_laid d m e) refl
methods_laid d (a ∷ b ∷ []) e = elim (either (main_fits d a && clinit_fits d b) (clinit_fits d a && main_fits d b) e) [
  | inl h ↦ (let k = both (main_fits d a) (clinit_fits d b) h in two a b (main_is_laid d a k.0) (clinit_is_laid d b k.1))
  | inr h ↦ (let k = both (clinit_fits d a) (main_fits d b) h in two a b (clinit_is_laid d a k.0) (main_is_laid d b k.1))
]
methods_laid d (a ∷ b ∷ c ∷ ms) e = cc

-- fields that fit have no value
fields_zero : (fs : List FieldDesc) → list_all field_fits fs ≡ true → list_all has_no_value fs ≡ true
fields_zero [] e = refl
fields_zero (f ∷ fs) e =
    let a = both (field_fits f) (list_all field_fits fs) e in
    let b = both (same_name f.ty int_name) (is_static f.flags && has_no_value f) a.0 in
    let c = both (is_static f.flags) (has_no_value f) b.1 in
    rw (c.1) (fields_zero fs a.1)

empty_is : {A : Type 0} (xs : List A) → is_empty xs ≡ true → xs ≡ []
empty_is [] e = refl
empty_is (x ∷ xs) e = cc

-- the parts of the test of a class
record Parts (d : ClassDesc) : Type 0 where
  faces : is_empty d.faces ≡ true
  fields : list_all field_fits d.fields ≡ true
  methods : methods_fit d d.methods ≡ true

parts : (d : ClassDesc) → class_fits d ≡ true → Parts d
parts d e =
    let last : Bool = list_all field_fits d.fields && methods_fit d d.methods in
    let a = both (not (same_name d.name object_name)) (not (same_name d.name out_name) && (parent_fits d.parent && (is_empty d.faces && last))) e in
    let b = both (not (same_name d.name out_name)) (parent_fits d.parent && (is_empty d.faces && last)) a.1 in
    let c = both (parent_fits d.parent) (is_empty d.faces && last) b.1 in
    let f = both (is_empty d.faces) last c.1 in
    let g = both (list_all field_fits d.fields) (methods_fit d d.methods) f.1 in
    record { faces = f.0; fields = g.0; methods = g.1 }

there_and_few : (o : Option Code) → code_laid o ≡ true → few_registers o ≡ true → code_small o ≡ true
there_and_few None h k = h
there_and_few (Some code) h k = k

each_small : (ms : List MethodDesc) → list_all method_laid ms ≡ true → list_all (λ (m : MethodDesc). few_registers m.code) ms ≡ true → list_all method_small ms ≡ true
each_small [] h k = refl
each_small (m ∷ ms) h k =
    let a = both (method_laid m) (list_all method_laid ms) h in
    let b = both (few_registers m.code) (list_all (λ (x : MethodDesc). few_registers x.code) ms) k in
    let here : code_small m.code ≡ true = there_and_few m.code a.0 b.0 in
    rw here (each_small ms a.1 b.1)

-- behind the two classes of the first file there is one
record OneClass (names : List (List ℕ)) (main : List ℕ) (ds : List ClassDesc) : Type 0 where
  class : ClassDesc
  only : ds ≡ class ∷ []
  called : has_text names class.name main ≡ true
  fits : class_fits class ≡ true

one_class : (names : List (List ℕ)) (main : List ℕ) (ds : List ClassDesc) → one_fits names main (object_class ∷ out_class ∷ ds) ≡ true → OneClass names main ds
one_class names main [] e = cc
one_class names main (d ∷ []) e =
    let a = both (has_text names d.name main) (class_fits d) e in
    record { class = d; only = refl; called = a.0; fits = a.1 }
one_class names main (d ∷ other ∷ ds) e = cc

said_is : (file : List ℕ) → with_said core_program file
    ≡ with_file core_program (new_names core_names (texts_of file)) (types_said (named_file core_program file)) (classes_said (named_file core_program file) 1)
unfolding with_said
said_is file = refl

-- what a file brings behind the first one
brought : List ℕ → Brought
brought file = record { names = new_names core_names (texts_of file); types = types_said (named_file core_program file) }

-- the law of files, for one behind the first file
abbrev Keeps : Type 0
Keeps = (p : Program) (file : List ℕ) → IsProgram p → HasRoom p → length p.files < 8 → length file ≤ most_bytes → broken_rule file ≡ None → IsProgram (with_said p file)

-- and the law of the classes that it says
abbrev HasFacts : Type 0
HasFacts = (p : Program) (file : List ℕ) (number : ℕ) → ((k : ℕ) → slice_index file k < 256) → All (IsOfFile number) (classes_said (named_file p file) number)

core_room : HasRoom core_program
unfolding core_names
core_room = record { names = omega arith; types = omega arith; classes = omega arith; fields = omega arith; methods = omega arith }

module _ (fits : FitsBehind no_files core_names core_types core_classes) (keeps : Keeps) (main file : List ℕ) (short : length file ≤ most_bytes) where
  core_keeps : IsProgram core_program
  core_keeps = kept_behind no_files core_names core_types core_classes kept_at_first fits

  said_distinct : broken_rule file ≡ None → all_distinct same_text (core_names ++ new_names core_names (texts_of file)) ≡ true
  unfolding with_said
  said_distinct kept = (keeps core_program file core_keeps core_room (omega arith) short kept).names_distinct

  one_said : is_small main (with_said core_program file) ≡ true → OneClass (core_names ++ new_names core_names (texts_of file)) main (classes_said (named_file core_program file) 1)
  unfolding is_small with_said
  one_said small =
      let p : Program = with_said core_program file in
      one_class p.names main (classes_said (named_file core_program file) 1) (both (one_fits p.names main p.classes) (list_all is_plain_text p.names) small).0

  chain_is : (one : OneClass (core_names ++ new_names core_names (texts_of file)) main (classes_said (named_file core_program file) 1))
      → with_said core_program file ≡ small_chain (brought file) one.class
  unfolding brought
  chain_is one = said_is file ∙ ap (with_file core_program (new_names core_names (texts_of file)) (types_said (named_file core_program file))) one.only

  class_of_one : broken_rule file ≡ None → OneClass (core_names ++ new_names core_names (texts_of file)) main (classes_said (named_file core_program file) 1)
      → HasSmallClass main (with_said core_program file)
  unfolding brought
  class_of_one kept one = record {
    new = brought file;
    class = one.class;
    chain = chain_is one;
    distinct = said_distinct kept;
    fits = one.fits;
    named = one.called;
  }

  pub class_said : broken_rule file ≡ None → is_small main (with_said core_program file) ≡ true → HasSmallClass main (with_said core_program file)
  class_said kept small = class_of_one kept (one_said small)

  shape_of : HasFacts → broken_rule file ≡ None → ((k : ℕ) → slice_index file k < 256)
      → OneClass (core_names ++ new_names core_names (texts_of file)) main (classes_said (named_file core_program file) 1)
      → IsSmall main (with_said core_program file)
  unfolding brought class_of_one
  shape_of has_facts kept below one =
      let d : ClassDesc = one.class in
      let is : Parts d = parts d one.fits in
      let laid : list_all method_laid d.methods ≡ true = methods_laid d d.methods is.methods in
      let facts : IsOfFile 1 d = all_first (IsOfFile 1) d [] (subst (All (IsOfFile 1)) one.only (has_facts core_program file 1 below)) in
      record {
        one = class_of_one kept one;
        laid = laid;
        narrow = each_small d.methods laid facts.registers;
        zero_values = fields_zero d.fields is.fields;
        second = facts.file;
        no_faces = empty_is d.faces is.faces;
      }

  pub shape_said : HasFacts → ((k : ℕ) → slice_index file k < 256) → (p : Program) → SaysNext core_program file p → is_small main p ≡ true → IsSmall main p
  shape_said has_facts below p says small =
      let is : with_said core_program file ≡ p = sym says.chain in
      let there : is_small main (with_said core_program file) ≡ true = subst (λ (q : Program). is_small main q ≡ true) says.chain small in
      subst (IsSmall main) is (shape_of has_facts says.kept below (one_said there))
