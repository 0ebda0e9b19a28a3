-- Which programs a lazy run takes today: those of the first file and one file more, which has one small class. They are
-- programs that files say, so what the rules of the format ask of a file holds of them already.
use Rattle.std.specs.Prelude.{ℕ, ◌+◌, ◌-◌, ◌==◌, ◌&&◌, ◌||◌, not, nat_lt, nat_le, List, [], ◌∷◌, length, Option, Some, None, Bool, true, false, is_some, slice_get}
use Rattle.std.specs.List.{list_all}
use Rattle.pi_model.specs.declared.numbers.NameNo.{NameNo}
use Rattle.pi_model.specs.declared.insn.Insn.{Insn}
use Rattle.pi_model.specs.declared.insn.Insn.TheVariants.{Const, Sget, Sput, ReturnVoid, Invoke}
use Rattle.pi_model.specs.declared.insn.Access.TheVariants.{Plain}
use Rattle.pi_model.specs.declared.insn.How.TheVariants.{Static}
use Rattle.pi_model.specs.declared.insn.FieldRef.{FieldRef}
use Rattle.pi_model.specs.declared.insn.MethodRef.{MethodRef}
use Rattle.pi_model.specs.declared.describe.Line.{Line}
use Rattle.pi_model.specs.declared.describe.Code.{Code}
use Rattle.pi_model.specs.declared.describe.Init.{Init}
use Rattle.pi_model.specs.declared.describe.Init.TheVariants.{Zero}
use Rattle.pi_model.specs.declared.describe.ClassDesc.{ClassDesc}
use Rattle.pi_model.specs.declared.describe.FieldDesc.{FieldDesc}
use Rattle.pi_model.specs.declared.describe.MethodDesc.{MethodDesc}
use Rattle.pi_model.specs.Flags.{is_static}
use Rattle.pi_model.specs.Program.{Program, same_name}
use Rattle.pi_model.specs.Texts.{same_text}
use Rattle.pi_model.specs.Search.{own_field, same_names}
use Rattle.pi_format.specs.Core.{object_name, out_name, strings_name, void_name, int_name, print_name, main_name, clinit_name}

-- a character from 0x01 to 0x7f, and a text of fewer than 128 of them
abbrev pub is_plain : ℕ → Bool
is_plain unit = nat_lt 0 unit && nat_lt unit 128

abbrev pub is_plain_text : List ℕ → Bool
is_plain_text units = nat_lt (length units) 128 && list_all is_plain units

abbrev pub is_zero : Init → Bool
is_zero Zero = true
is_zero _ = false

-- the class gives the field no value
abbrev pub has_no_value : FieldDesc → Bool
has_no_value f = is_zero f.init

-- a static int without a value
abbrev pub field_fits : FieldDesc → Bool
field_fits f = same_name f.ty int_name && (is_static f.flags && has_no_value f)

-- the native that prints an int
abbrev pub is_print : MethodRef → Bool
is_print m = same_name m.class out_name && (same_name m.name print_name && (same_names m.params (int_name ∷ []) && same_name m.ret void_name))

-- the one register of a list is below a number
abbrev pub one_below : ℕ → List ℕ → Bool
one_below words [] = false
one_below words (c ∷ []) = nat_lt c words
one_below words (c ∷ d ∷ others) = false

-- a field of the class, as an instruction names it
abbrev pub names_own : ClassDesc → FieldRef → Bool
names_own d f = same_name f.class d.name && is_some (own_field d f)

-- an instruction of a code of the class that works on that many registers
abbrev pub insn_fits : ClassDesc → ℕ → Insn → Bool
insn_fits d words (Const a v) = nat_lt a words
insn_fits d words (Sget Plain a f) = nat_lt a words && names_own d f
insn_fits d words (Sput Plain a f) = nat_lt a words && names_own d f
insn_fits d words (Invoke Static m regs) = is_print m && one_below words regs
insn_fits d words ReturnVoid = true
insn_fits d words _ = false

abbrev pub line_fits : ClassDesc → ℕ → Line → Bool
line_fits d words line = insn_fits d words line.insn

-- how many units such an instruction has: a constant is one of const/4
abbrev pub insn_units : Insn → ℕ
insn_units (Sget kind a f) = 2
insn_units (Sput kind a f) = 2
insn_units (Invoke how m regs) = 3
insn_units _ = 1

-- from an address to the end of a code instructions lie one behind another, with nothing between them
abbrev pub lies : ℕ → ℕ → List Line → Bool
lies at end [] = at == end
lies at end (l ∷ ls) = (l.at == at) && ((l.units == insn_units l.insn) && lies (at + l.units) end ls)

abbrev pub is_return : Insn → Bool
is_return ReturnVoid = true
is_return _ = false

-- the last instruction returns
abbrev pub ends_in_return : List Line → Bool
ends_in_return [] = false
ends_in_return (line ∷ []) = is_return line.insn
ends_in_return (line ∷ next ∷ others) = ends_in_return (next ∷ others)

abbrev pub is_empty : {A : Type 0} → List A → Bool
is_empty [] = true
is_empty (x ∷ xs) = false

-- a code with that many argument words, without handlers, whose instructions leave the argument alone
abbrev pub code_fits : ClassDesc → ℕ → Option Code → Bool
code_fits d ins None = false
code_fits d ins (Some code) =
    (code.ins == ins) && (nat_le ins code.regs && (list_all (line_fits d (code.regs - ins)) code.insns
    && (ends_in_return code.insns && (lies 0 code.units code.insns && is_empty code.tries))))

-- a static method without result, of that name, with parameters of those types and as many argument words as those have
abbrev pub method_fits : ClassDesc → NameNo → List NameNo → ℕ → MethodDesc → Bool
method_fits d name params ins m =
    same_name m.name name && (same_names m.params params && (same_name m.ret void_name && (is_static m.flags && code_fits d ins m.code)))

abbrev pub main_fits : ClassDesc → MethodDesc → Bool
main_fits d m = method_fits d main_name (strings_name ∷ []) 1 m

abbrev pub clinit_fits : ClassDesc → MethodDesc → Bool
clinit_fits d m = method_fits d clinit_name [] 0 m

-- main, and at most an initialiser before or behind it
abbrev pub methods_fit : ClassDesc → List MethodDesc → Bool
methods_fit d [] = false
methods_fit d (m ∷ []) = main_fits d m
methods_fit d (a ∷ b ∷ []) = (main_fits d a && clinit_fits d b) || (clinit_fits d a && main_fits d b)
methods_fit d (a ∷ b ∷ c ∷ others) = false

-- the superclass is Object
abbrev pub parent_fits : Option NameNo → Bool
parent_fits None = false
parent_fits (Some parent) = same_name parent object_name

-- the class is no class of the first file, stands below Object and no interface, and has static ints and the two
-- methods alone
abbrev pub class_fits : ClassDesc → Bool
class_fits d =
    not (same_name d.name object_name) && (not (same_name d.name out_name) && (parent_fits d.parent
    && (is_empty d.faces && (list_all field_fits d.fields && methods_fit d d.methods))))

-- the name has this text
abbrev pub has_text : List (List ℕ) → NameNo → List ℕ → Bool
has_text names n text = is_text (slice_get names n.0)
  where
    is_text : Option (List ℕ) → Bool
    is_text None = false
    is_text (Some units) = same_text units text

-- behind the two classes of the first file there is one, which is named so and fits
abbrev pub one_fits : List (List ℕ) → List ℕ → List ClassDesc → Bool
one_fits names main (object ∷ out ∷ d ∷ []) = has_text names d.name main && class_fits d
one_fits names main [] = false
one_fits names main (a ∷ []) = false
one_fits names main (a ∷ b ∷ []) = false
one_fits names main (a ∷ b ∷ c ∷ d ∷ others) = false

-- the program is small for the main class of that text
unfoldable pub is_small : List ℕ → Program → Bool
is_small main p = one_fits p.names main p.classes && list_all is_plain_text p.names
