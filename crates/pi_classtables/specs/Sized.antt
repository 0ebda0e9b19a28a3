-- What the types of a program's fields say of the numbers in a class, and the switches that are asked to be sparse.
use Rattle.std.specs.Prelude.{◌≡◌, ℕ, ◌<◌, ◌^◌, ◌==◌, not, ◌||◌, List, Option, Some, None, IfSome, IsTrue, Bool, true, false}
use Rattle.std.specs.List.{All, list_all, list_any}
use Rattle.pi_model.specs.declared.insn.Case.{Case}
use Rattle.pi_model.specs.declared.insn.Insn.{Insn}
use Rattle.pi_model.specs.declared.insn.Insn.TheVariants.{ConstString, ConstClass, CheckCast, InstanceOf, NewInstance, NewArray, Filled, Goto, If, IfZ, Iget, Iput, Sget, Sput, Invoke, Switch}
use Rattle.pi_contents.specs.Contents.{Naming, NoName, OfText, OfType, OfField, OfMethod, LineContent, CatchContent, CodeContent, InitContent, NoInit, WordInit, LongInit, TextInit, TypeInit, FieldContent, MethodContent, ClassContent}
use Rattle.pi_contents.specs.Named.{bare}
use Rattle.pi_contents.specs.Asked.{keys_rise}
use Rattle.pi_classtables.specs.Whole.{Added, Method, added_methods}

pub record CaseSized (c : Case) : Type 0 where
  pub key : c.key < 2 ^ 32
  pub to : c.to < 2 ^ 32

abbrev pub is_text : Naming → Bool
is_text (OfText s) = true
is_text _ = false

abbrev pub is_type : Naming → Bool
is_type (OfType t) = true
is_type _ = false

abbrev pub is_field : Naming → Bool
is_field (OfField f) = true
is_field _ = false

abbrev pub is_method : Naming → Bool
is_method (OfMethod m) = true
is_method _ = false

abbrev pub is_nothing : Naming → Bool
is_nothing NoName = true
is_nothing _ = false

-- targets are addresses of 32 bits
abbrev pub InsnSized : Insn → Type 0
InsnSized (Goto to) = to < 2 ^ 32
InsnSized (If cond a b to) = to < 2 ^ 32
InsnSized (IfZ cond a to) = to < 2 ^ 32
InsnSized (Switch a cases) = All CaseSized cases
InsnSized _ = Unit {0}

-- what an instruction names is of the kind that it has
abbrev pub names_alike : Insn → Naming → Bool
names_alike (ConstString a s) naming = is_text naming
names_alike (ConstClass a t) naming = is_type naming
names_alike (CheckCast a t) naming = is_type naming
names_alike (InstanceOf a b t) naming = is_type naming
names_alike (NewInstance a t) naming = is_type naming
names_alike (NewArray a b t) naming = is_type naming
names_alike (Filled t regs) naming = is_type naming
names_alike (Iget kind a b f) naming = is_field naming
names_alike (Iput kind a b f) naming = is_field naming
names_alike (Sget kind a f) naming = is_field naming
names_alike (Sput kind a f) naming = is_field naming
names_alike (Invoke how m regs) naming = is_method naming
names_alike _ naming = is_nothing naming

-- a line is that of an instruction: its names stand apart from it
pub record LineSized (l : LineContent) : Type 0 where
  pub insn : InsnSized l.insn
  pub bare : bare l.insn ≡ l.insn
  pub naming : IsTrue (names_alike l.insn l.naming)

pub record CatchSized (c : CatchContent) : Type 0 where
  pub from : c.from < 2 ^ 32
  pub to : c.to < 2 ^ 32
  pub at : c.at < 2 ^ 32

pub record CodeSized (c : CodeContent) : Type 0 where
  pub regs : c.regs < 2 ^ 16
  pub ins : c.ins < 2 ^ 16
  pub outs : c.outs < 2 ^ 16
  pub units : c.units < 2 ^ 32
  pub lines : All LineSized c.lines
  pub catches : All CatchSized c.catches

abbrev pub InitSized : InitContent → Type 0
InitSized NoInit = Unit {0}
InitSized (WordInit w) = w < 2 ^ 32
InitSized (LongInit l) = l < 2 ^ 64
InitSized (TextInit s) = Unit {0}
InitSized (TypeInit t) = Unit {0}

pub record FieldSized (f : FieldContent) : Type 0 where
  pub flags : f.flags < 2 ^ 32
  pub init : InitSized f.init

pub record MethodSized (m : MethodContent) : Type 0 where
  pub flags : m.flags < 2 ^ 32
  pub code : IfSome m.code CodeSized

pub record IsSized (c : ClassContent) : Type 0 where
  pub flags : c.flags < 2 ^ 32
  pub fields : All FieldSized c.fields
  pub methods : All MethodSized c.methods

-- the keys of switches whose addresses are listed rise
abbrev pub switch_rises : Insn → Bool
switch_rises (Switch a cases) = keys_rise cases
switch_rises _ = true

abbrev pub line_rises : List ℕ → LineContent → Bool
line_rises listed l = not (list_any (λ at. at == l.at) listed) || switch_rises l.insn

abbrev pub code_rises : List ℕ → Option CodeContent → Bool
code_rises listed None = true
code_rises listed (Some c) = list_all (line_rises listed) c.lines

abbrev pub sparse_rises : Added → Bool
sparse_rises e = list_all (λ (m : Method). code_rises m.sparse m.content.code) (added_methods e)
