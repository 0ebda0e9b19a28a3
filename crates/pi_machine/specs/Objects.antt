-- Looking at the objects of a state. What never changes of an object is its shape: its class and how many fields it has,
-- or its type and length, or its text. Types, lengths and texts are read off the shape alone; what fields and elements
-- hold is read only together with a deed that tells it. The form is our own.
use Rattle.std.specs.Prelude.{ℕ, List, [], length, slice_get, Option, Some, None, Bool, true, is_some, option_map}
use Rattle.pi_model.specs.Values.{Ref, Num, Lit, Cls, Value, Word, Low, High, Long, At, Object, Instance, Array, Text}
use Rattle.pi_model.specs.declared.describe.ClassDesc.{ClassDesc}
use Rattle.pi_model.specs.Program.{Program}
use Rattle.pi_model.specs.Known.{JavaObject, JavaString, JavaClass, descriptor_of}
use Rattle.pi_model.specs.Search.{class_at, class_named}
use Rattle.pi_model.specs.Texts.{units_of}
use Rattle.pi_machine.specs.State.{State, Thing, Made, Touched}

-- the object of a thing; a touched literal has none of its own
abbrev pub made_of : Option Thing → Option Object
made_of None = None
made_of (Some (Made file o)) = Some o
made_of (Some (Touched file n)) = None

-- the object that a reference names: one that was made, or the text of a literal
abbrev pub object_at : Program → State → Ref → Option Object
object_at p s (Num place) = made_of (slice_get s.things place)
object_at p s (Lit name) = Some (Text (units_of p name))
object_at p s (Cls name) = None

-- what never changes of what a reference names: an instance of a class with so many fields, an array of a type with so
-- many elements, a text with its units, a class object
pub data Shape : Type 0 where
  OfInstance : (class : ℕ) (fields : ℕ) → Shape
  OfArray : (ty : ℕ) (items : ℕ) → Shape
  OfText : (units : List ℕ) → Shape
  OfClass : Shape

-- the shape of an object
abbrev pub shape_of : Object → Shape
shape_of (Instance c fields) = OfInstance c (length fields)
shape_of (Array ty items) = OfArray ty (length items)
shape_of (Text units) = OfText units

-- the shape of what a reference names
abbrev pub shape_at : Program → State → Ref → Option Shape
shape_at p s (Num place) = option_map shape_of (made_of (slice_get s.things place))
shape_at p s (Lit name) = Some (OfText (units_of p name))
shape_at p s (Cls name) = Some OfClass

-- a reference names something: the number of a thing that was made, a literal, or a class object. The place of a touched
-- literal is no object, and no reference may name it.
abbrev pub names_thing : State → Ref → Bool
names_thing s (Num place) = is_some (made_of (slice_get s.things place))
names_thing s (Lit name) = true
names_thing s (Cls name) = true

-- the descriptor of a class by its number
abbrev pub class_descriptor : Program → ℕ → List ℕ
class_descriptor p c = of_class (class_at p c)
  where
    of_class : Option ClassDesc → List ℕ
    of_class None = []
    of_class (Some d) = units_of p d.name.0

-- the descriptor of the type of an object
abbrev pub type_of_shape : Program → Shape → List ℕ
type_of_shape p (OfInstance c fields) = class_descriptor p c
type_of_shape p (OfArray ty items) = units_of p ty
type_of_shape p (OfText units) = descriptor_of JavaString
type_of_shape p OfClass = descriptor_of JavaClass

-- the class from which a call by the receiver's type searches; that of an array is Object
abbrev pub class_of_shape : Program → Shape → Option ℕ
class_of_shape p (OfInstance c fields) = Some c
class_of_shape p (OfArray ty items) = class_named p (descriptor_of JavaObject)
class_of_shape p (OfText units) = class_named p (descriptor_of JavaString)
class_of_shape p OfClass = class_named p (descriptor_of JavaClass)

-- the text of a value, where it names one
abbrev pub text_in : Option Object → Option (List ℕ)
text_in None = None
text_in (Some (Instance c fields)) = None
text_in (Some (Array ty items)) = None
text_in (Some (Text units)) = Some units

-- the text that a value names
abbrev pub text_at : Program → State → Value → Option (List ℕ)
text_at p s (At r) = text_in (object_at p s r)
text_at p s (Word n) = None
text_at p s (Low n) = None
text_at p s (High n) = None
text_at p s (Long n) = None

-- what a field of an instance holds, and what an element of an array holds
abbrev pub field_in : Option Object → ℕ → Option Value
field_in (Some (Instance c fields)) i = slice_get fields i
field_in (Some (Array ty items)) i = None
field_in (Some (Text units)) i = None
field_in None i = None

-- what an element of an array holds
abbrev pub item_in : Option Object → ℕ → Option Value
item_in (Some (Array ty items)) i = slice_get items i
item_in (Some (Instance c fields)) i = None
item_in (Some (Text units)) i = None
item_in None i = None

-- the elements of an array
abbrev pub items_in : Option Object → List Value
items_in (Some (Array ty items)) = items
items_in (Some (Instance c fields)) = []
items_in (Some (Text units)) = []
items_in None = []
