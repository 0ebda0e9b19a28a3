-- What a class holds, with texts in place of the numbers of names.
use Rattle.std.specs.Prelude.{ℕ, List, Option}
use Rattle.pi_model.specs.declared.insn.Insn.{Insn}

-- a field, a prototype and a method, as instructions name them
pub record FieldName : Type 0 where
  pub class : List ℕ
  pub name : List ℕ
  pub ty : List ℕ

pub record Prototype : Type 0 where
  pub params : List (List ℕ)
  pub ret : List ℕ

pub record MethodName : Type 0 where
  pub class : List ℕ
  pub name : List ℕ
  pub proto : Prototype

-- what an instruction names
pub data Naming : Type 0 where
  NoName : Naming
  OfText : List ℕ → Naming
  OfType : List ℕ → Naming
  OfField : FieldName → Naming
  OfMethod : MethodName → Naming

-- an instruction at its address, with its length in units: the instruction with name 0 for every name, and what it names
pub record LineContent : Type 0 where
  pub at : ℕ
  pub units : ℕ
  pub insn : Insn
  pub naming : Naming

-- an entry of a handler table, by the descriptor of the type that it catches
pub record CatchContent : Type 0 where
  pub from : ℕ
  pub to : ℕ
  pub ty : Option (List ℕ)
  pub at : ℕ

pub record CodeContent : Type 0 where
  pub regs : ℕ
  pub ins : ℕ
  pub outs : ℕ
  pub units : ℕ
  pub lines : List LineContent
  pub catches : List CatchContent

-- what a static field is set to
pub data InitContent : Type 0 where
  NoInit : InitContent
  WordInit : ℕ → InitContent
  LongInit : ℕ → InitContent
  TextInit : List ℕ → InitContent
  TypeInit : List ℕ → InitContent

pub record FieldContent : Type 0 where
  pub name : List ℕ
  pub ty : List ℕ
  pub flags : ℕ
  pub init : InitContent

pub record MethodContent : Type 0 where
  pub name : List ℕ
  pub proto : Prototype
  pub flags : ℕ
  pub code : Option CodeContent

pub record ClassContent : Type 0 where
  pub name : List ℕ
  pub flags : ℕ
  pub parent : Option (List ℕ)
  pub faces : List (List ℕ)
  pub fields : List FieldContent
  pub methods : List MethodContent
