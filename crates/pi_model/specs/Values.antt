-- What registers, fields and elements hold, and the objects that references name.
use Rattle.std.specs.Prelude.{ℕ, List}

-- what a reference names: the thing at a place of the state's list, the literal of a name, the class object of a type
pub data Ref : Type 0 where
  Num : (place : ℕ) → Ref
  Lit : (name : ℕ) → Ref
  Cls : (name : ℕ) → Ref

-- a word below 2^32, of which 0 is also null; one half of a long, in a register; a whole long, in a field or an
-- element; a reference
pub data Value : Type 0 where
  Word : (n : ℕ) → Value
  Low : (n : ℕ) → Value
  High : (n : ℕ) → Value
  Long : (n : ℕ) → Value
  At : (r : Ref) → Value

-- an instance of a class with its fields, the superclasses' first; an array of a type with its elements; a text
pub data Object : Type 0 where
  Instance : (class : ℕ) (fields : List Value) → Object
  Array : (ty : ℕ) (items : List Value) → Object
  Text : (units : List ℕ) → Object
