-- The state of the machine. Its form is our own; what frames, registers and references are is that of the bytecode page.
use Rattle.std.specs.Prelude.{ℕ, List, Option, Bool}
use Rattle.pi_model.specs.declared.reason.ClassState.{ClassState}
use Rattle.pi_model.specs.Values.{Ref, Value, Object}

-- an object that was made, or the literal of a name at its first touch; each with the file whose image it is for
pub data Thing : Type 0 where
  Made : (file : Option ℕ) (object : Object) → Thing
  Touched : (file : Option ℕ) (name : ℕ) → Thing

-- a call of a method: the address of its instruction, and its registers
pub record Frame : Type 0 where
  pub method : ℕ
  pub at : ℕ
  pub registers : List Value

-- how far a record of initialisation has come: entered; the static values are set; the initialiser runs
pub data Phase : Type 0 where
  Entered : Phase
  ValuesSet : Phase
  Running : Phase

-- an entry of the stack
pub data Entry : Type 0 where
  Call : (frame : Frame) → Entry
  Record : (class : ℕ) (phase : Phase) → Entry

-- what the next instruction may fetch: nothing, the result of a call or an array, or a throwable that was caught
pub data Held : Type 0 where
  Nothing : Held
  Result : (value : Value) → Held
  Thrown : (ref : Ref) → Held

-- Things stand in the order of making and first touch, statics by the number of the field, statuses by that of the
-- class, the stack with its top first. `main` and `args` are the method that the run began for and the array of its
-- arguments; `started` says that main's frame was pushed; `file` is the file whose image new things are for.
pub record State : Type 0 where
  pub things : List Thing
  pub statics : List Value
  pub statuses : List ClassState
  pub main : Option ℕ
  pub args : Option Ref
  pub started : Bool
  pub stack : List Entry
  pub pending : Option Ref
  pub held : Held
  pub output : List ℕ
  pub file : Option ℕ
