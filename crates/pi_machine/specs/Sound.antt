-- Sound states: each reference names what is there, a literal that is named is touched, and numbers are as wide as they may
-- be. What the constants of a program keep for it. All of it is our own.
use Rattle.std.specs.Prelude.{◌≡◌, ℕ, ◌*◌, ◌^◌, ◌<◌, List, [], ◌∷◌, length, slice_get, Option, Some, None, true, is_some}
use Rattle.std.specs.List.{list_any}
use Rattle.pi_model.specs.declared.describe.ClassDesc.{ClassDesc}
use Rattle.pi_model.specs.declared.describe.FieldDesc.{FieldDesc}
use Rattle.pi_model.specs.declared.describe.MethodDesc.{MethodDesc}
use Rattle.pi_model.specs.declared.describe.Code.{Code}
use Rattle.pi_model.specs.declared.describe.Line.{Line}
use Rattle.pi_model.specs.declared.describe.Init.{Init}
use Rattle.pi_model.specs.declared.describe.Init.TheVariants as init
use Rattle.pi_model.specs.declared.insn.Insn.{Insn}
use Rattle.pi_model.specs.declared.insn.Insn.TheVariants.{Const, ConstWide, Filled, FillArray, BinaryLit}
use Rattle.pi_model.specs.Program.{Program, all_fields}
use Rattle.pi_model.specs.Fields.{first_fields}
use Rattle.pi_model.specs.Sizes.{object_bytes}
use Rattle.pi_model.specs.Values.{Ref, Num, Lit, Cls, Value, Word, Low, High, Long, At, Object, Instance, Array, Text}
use Rattle.pi_machine.specs.State.{State, Thing, Made, Touched, Entry, Call, Record, Held, Nothing, Result, Thrown}
use Rattle.pi_machine.specs.Deeds.{Deed, Make, is_touched, do_all}
use Rattle.pi_machine.specs.Objects.{made_of}
use Rattle.pi_machine.specs.Start.{first_state, with_main}
use Rattle.pi_machine.specs.Step.{deeds_of}
use Rattle.pi_machine.specs.StepLaws.{EachDeed}

-- a property of each element of a list
abbrev pub EachOf : {A : Type 0} → (A → Type 0) → List A → Type 0
EachOf P [] = Unit {0}
EachOf P (x ∷ xs) = P x × EachOf P xs

-- a reference names what is there: a thing that was made, a literal that was touched, any class object
abbrev pub IsThere : List Thing → Ref → Type 0
IsThere things (Num place) = is_some (made_of (slice_get things place)) ≡ true
IsThere things (Lit name) = list_any (is_touched name) things ≡ true
IsThere things (Cls name) = Unit {0}

-- a word and a half of a long are below 2^32, a long is below 2^64, and a reference names what is there
abbrev pub IsSoundValue : List Thing → Value → Type 0
IsSoundValue things (Word n) = n < 2 ^ 32
IsSoundValue things (Low n) = n < 2 ^ 32
IsSoundValue things (High n) = n < 2 ^ 32
IsSoundValue things (Long n) = n < 2 ^ 64
IsSoundValue things (At r) = IsThere things r

-- a text has fewer than 2^31 units, each of which is a word
abbrev pub IsSoundText : List ℕ → Type 0
IsSoundText units = (length units < 2 ^ 31) × EachOf (λ u. u < 2 ^ 32) units

-- an instance has as many fields as its class gives it, and an array fewer than 2^31 elements
abbrev pub IsSoundObject : Program → List Thing → Object → Type 0
IsSoundObject p things (Instance c fields) = (length fields ≡ length (first_fields p c)) × EachOf (IsSoundValue things) fields
IsSoundObject p things (Array ty items) = (length items < 2 ^ 31) × EachOf (IsSoundValue things) items
IsSoundObject p things (Text units) = IsSoundText units

-- what was made is sound
abbrev pub IsSoundThing : Program → List Thing → Thing → Type 0
IsSoundThing p things (Made file o) = IsSoundObject p things o
IsSoundThing p things (Touched file n) = Unit {0}

-- the registers of a frame hold sound values
abbrev pub IsSoundEntry : List Thing → Entry → Type 0
IsSoundEntry things (Call f) = EachOf (IsSoundValue things) f.registers
IsSoundEntry things (Record c phase) = Unit {0}

-- what is held is sound
abbrev pub IsSoundHeld : List Thing → Held → Type 0
IsSoundHeld things Nothing = Unit {0}
IsSoundHeld things (Result v) = IsSoundValue things v
IsSoundHeld things (Thrown r) = IsThere things r

-- a reference names what is there, or there is none
abbrev pub IsThereIfAny : List Thing → Option Ref → Type 0
IsThereIfAny things None = Unit {0}
IsThereIfAny things (Some r) = IsThere things r

-- a sound state of a program: all values that it holds are sound, and it has a static for each field and a status for each
-- class
pub record IsSound (p : Program) (s : State) : Type 0 where
  pub things : EachOf (IsSoundThing p s.things) s.things
  pub statics : EachOf (IsSoundValue s.things) s.statics
  pub stack : EachOf (IsSoundEntry s.things) s.stack
  pub held : IsSoundHeld s.things s.held
  pub pending : IsThereIfAny s.things s.pending
  pub args : IsThereIfAny s.things s.args
  pub all_statics : length s.statics ≡ all_fields p
  pub all_statuses : length s.statuses ≡ length p.classes

-- the constants of an instruction are words and longs, the items of its data are of their width in bytes, and it fills no
-- more than an array may have
abbrev pub HasWords : Insn → Type 0
HasWords (Const a v) = v < 2 ^ 32
HasWords (ConstWide a v) = v < 2 ^ 64
HasWords (BinaryLit op a b v) = v < 2 ^ 32
HasWords (Filled t regs) = length regs < 2 ^ 31
HasWords (FillArray a width items) = EachOf (λ n. n < 2 ^ (8 * width)) items
HasWords _ = Unit {0}

-- a static value is a word or a long
abbrev pub IsWordInit : Init → Type 0
IsWordInit (init.Word n) = n < 2 ^ 32
IsWordInit (init.Long n) = n < 2 ^ 64
IsWordInit _ = Unit {0}

-- the instructions of a code, where there is one
abbrev pub CodeHasWords : Option Code → Type 0
CodeHasWords None = Unit {0}
CodeHasWords (Some code) = EachOf (λ (l : Line). HasWords l.insn) code.insns

-- the static values and the code of a class
pub record ClassHasWords (d : ClassDesc) : Type 0 where
  pub fields : EachOf (λ (f : FieldDesc). IsWordInit f.init) d.fields
  pub methods : EachOf (λ (m : MethodDesc). CodeHasWords m.code) d.methods

-- the constants of a program are words, as the format gives: the texts of its names, its static values and its code
pub record HasWordConstants (p : Program) : Type 0 where
  pub names : EachOf IsSoundText p.names
  pub classes : EachOf ClassHasWords p.classes

-- Before anything runs the state is sound; so is a sound state in which a run begins, where its arguments are texts of words
-- and fewer than 2^31.
pub record StartsAreSound : Type 0 where
  pub first : (p : Program) → IsSound p (first_state p)
  pub main : (p : Program) (main : ℕ) (args : List (List ℕ)) (s : State) → IsSound p s → EachOf IsSoundText args → length args < 2 ^ 31
      → IsSound p (with_main p main args s)

-- a text has fewer than 2^31 units
abbrev pub IsShort : Object → Type 0
IsShort (Instance c fields) = Unit {0}
IsShort (Array ty items) = Unit {0}
IsShort (Text units) = length units < 2 ^ 31

-- a text that is made is short
abbrev pub MakesShort : Deed → Type 0
MakesShort (Make o) = IsShort o
MakesShort _ = Unit {0}

-- an object of fewer than 2^32 bytes is short
abbrev pub FewBytesAreShort : Type 0
FewBytesAreShort = (p : Program) (o : Object) → object_bytes p o < 2 ^ 32 → IsShort o

-- A step leads from a sound state to a sound one, for programs whose constants are words, where a text that it makes is short.
-- Without that, texts could be joined until their length is no word.
abbrev pub StepsKeepSound : Type 0
StepsKeepSound = (p : Program) (s : State) (deeds : List Deed) → HasWordConstants p → IsSound p s → deeds_of p s ≡ Some deeds → EachDeed MakesShort deeds
    → IsSound p (do_all deeds s)
