-- Which names a description uses: a test that each is one of the first so many.
use Rattle.std.specs.Prelude.{ℕ, ◌&&◌, nat_lt, List, Option, Some, None, Bool, true}
use Rattle.std.specs.List.{list_all}
use Rattle.pi_model.specs.declared.numbers.NameNo.{NameNo}
use Rattle.pi_model.specs.declared.insn.Insn.{Insn}
use Rattle.pi_model.specs.declared.insn.Insn.TheVariants.{ConstString, ConstClass, CheckCast, InstanceOf, NewInstance, NewArray, Filled, Iget, Iput, Sget, Sput, Invoke}
use Rattle.pi_model.specs.declared.insn.FieldRef.{FieldRef}
use Rattle.pi_model.specs.declared.insn.MethodRef.{MethodRef}
use Rattle.pi_model.specs.declared.describe.ClassDesc.{ClassDesc}
use Rattle.pi_model.specs.declared.describe.FieldDesc.{FieldDesc}
use Rattle.pi_model.specs.declared.describe.MethodDesc.{MethodDesc}
use Rattle.pi_model.specs.declared.describe.Code.{Code}
use Rattle.pi_model.specs.declared.describe.Line.{Line}
use Rattle.pi_model.specs.declared.describe.Catch.{Catch}
use Rattle.pi_model.specs.declared.describe.Init.{Init}
use Rattle.pi_model.specs.declared.describe.Init.TheVariants.{Zero, Word, Long, Str, Cls}

-- the name is one of the first so many
abbrev pub name_below : ℕ → NameNo → Bool
name_below count n = nat_lt n.0 count

abbrev pub names_below : ℕ → List NameNo → Bool
names_below count ns = list_all (name_below count) ns

abbrev pub optional_below : ℕ → Option NameNo → Bool
optional_below count None = true
optional_below count (Some n) = name_below count n

abbrev pub field_ref_below : ℕ → FieldRef → Bool
field_ref_below count f = name_below count f.class && (name_below count f.name && name_below count f.ty)

abbrev pub method_ref_below : ℕ → MethodRef → Bool
method_ref_below count m =
    name_below count m.class && (name_below count m.name && (names_below count m.params && name_below count m.ret))

abbrev pub insn_below : ℕ → Insn → Bool
insn_below count (ConstString a s) = name_below count s
insn_below count (ConstClass a t) = name_below count t
insn_below count (CheckCast a t) = name_below count t
insn_below count (InstanceOf a b t) = name_below count t
insn_below count (NewInstance a t) = name_below count t
insn_below count (NewArray a b t) = name_below count t
insn_below count (Filled t regs) = name_below count t
insn_below count (Iget kind a b f) = field_ref_below count f
insn_below count (Iput kind a b f) = field_ref_below count f
insn_below count (Sget kind a f) = field_ref_below count f
insn_below count (Sput kind a f) = field_ref_below count f
insn_below count (Invoke how m regs) = method_ref_below count m
insn_below count _ = true

abbrev pub line_below : ℕ → Line → Bool
line_below count l = insn_below count l.insn

abbrev pub catch_below : ℕ → Catch → Bool
catch_below count c = optional_below count c.ty

abbrev pub code_below : ℕ → Option Code → Bool
code_below count None = true
code_below count (Some code) = list_all (line_below count) code.insns && list_all (catch_below count) code.tries

abbrev pub init_below : ℕ → Init → Bool
init_below count (Str n) = name_below count n
init_below count (Cls n) = name_below count n
init_below count Zero = true
init_below count (Word w) = true
init_below count (Long w) = true

abbrev pub field_below : ℕ → FieldDesc → Bool
field_below count f = name_below count f.name && (name_below count f.ty && init_below count f.init)

abbrev pub method_below : ℕ → MethodDesc → Bool
method_below count m =
    name_below count m.name && (names_below count m.params && (name_below count m.ret && code_below count m.code))

-- every name that a class uses is one of the first so many
abbrev pub class_below : ℕ → ClassDesc → Bool
class_below count d =
    name_below count d.name && (optional_below count d.parent && (names_below count d.faces
    && (list_all (field_below count) d.fields && list_all (method_below count) d.methods)))
