-- What a step does: a list of deeds. A state changes only where a deed is done, each in one line. The form is our own.
use Rattle.std.specs.Prelude.{ℕ, ◌+◌, ◌==◌, List, [], ◌∷◌, ◌++◌, slice_get, slice_set, Option, Some, None, Bool, true, false, if◌then◌else◌}
use Rattle.std.specs.List.{list_any}
use Rattle.pi_model.specs.declared.reason.ClassState.{ClassState}
use Rattle.pi_model.specs.Values.{Ref, Value, Object, Instance, Array, Text}
use Rattle.pi_machine.specs.State.{State, Thing, Made, Touched, Frame, Phase, Entry, Call, Record, Held}

-- what was read, with what it was: the status of a class, a static, a field or an element of an object, the held
-- value, an object as a whole
pub data Look : Type 0 where
  OfStatus : (class : ℕ) (is : ClassState) → Look
  OfStatic : (field : ℕ) (is : Value) → Look
  OfField : (ref : Ref) (place : ℕ) (is : Value) → Look
  OfItem : (ref : Ref) (place : ℕ) (is : Value) → Look
  OfHeld : (is : Held) → Look
  OfObject : (ref : Ref) (is : Object) → Look

-- Make an object; touch a literal; read; count as a read or as a write of an object as a whole; set a static, a
-- status, a field or an element of the object at a place; call a native; print bytes; push main's frame as the start;
-- push and pop entries; set a register of the top frame, go on at an address of it; move the top frame past its
-- call; set the phase of the top record; set a throwable pending, take it back; hold a value.
pub data Deed : Type 0 where
  Make : (object : Object) → Deed
  Touch : (name : ℕ) → Deed
  Saw : (look : Look) → Deed
  Reads : (place : ℕ) → Deed
  Writes : (place : ℕ) → Deed
  SetStatic : (field : ℕ) (value : Value) → Deed
  SetStatus : (class : ℕ) (status : ClassState) → Deed
  SetField : (thing : ℕ) (place : ℕ) (value : Value) → Deed
  SetItem : (thing : ℕ) (place : ℕ) (value : Value) → Deed
  CallNative : (method : ℕ) → Deed
  Print : (bytes : List ℕ) → Deed
  Start : Deed
  Push : (entry : Entry) → Deed
  Pop : Deed
  SetReg : (register : ℕ) (value : Value) → Deed
  Jump : (to : ℕ) → Deed
  GoOn : Deed
  SetPhase : (phase : Phase) → Deed
  Pend : (ref : Ref) → Deed
  Unpend : Deed
  Hold : (held : Held) → Deed

-- the thing is the touched literal of that name
abbrev pub is_touched : ℕ → Thing → Bool
is_touched n (Made file o) = false
is_touched n (Touched file m) = n == m

-- things with a literal touched: one that was touched before stays where it is
abbrev pub with_touched : Option ℕ → ℕ → List Thing → List Thing
with_touched file n things =
    if list_any (is_touched n) things then things else things ++ Touched file n ∷ []

-- an object with another field or element
abbrev pub with_field : ℕ → Value → Object → Object
with_field i v (Instance c fields) = Instance c (slice_set fields i v)
with_field i v (Array ty items) = Array ty items
with_field i v (Text units) = Text units

-- an object with another element
abbrev pub with_item : ℕ → Value → Object → Object
with_item i v (Instance c fields) = Instance c fields
with_item i v (Array ty items) = Array ty (slice_set items i v)
with_item i v (Text units) = Text units

-- a thing whose object is changed
abbrev pub in_thing : (Object → Object) → Thing → Thing
in_thing change (Made file o) = Made file (change o)
in_thing change (Touched file n) = Touched file n

-- the list with the element at a place changed
abbrev pub put_changed : {A : Type 0} → (A → A) → ℕ → List A → Option A → List A
put_changed change i xs None = xs
put_changed change i xs (Some x) = slice_set xs i (change x)

-- the list with the element at a place changed, where there is one
abbrev pub changed_at : {A : Type 0} → (A → A) → ℕ → List A → List A
changed_at change i xs = put_changed change i xs (slice_get xs i)

-- the stack without its top
abbrev pub stack_below : List Entry → List Entry
stack_below [] = []
stack_below (e ∷ below) = below

-- the stack with its top changed, if that is a frame, or if that is a record
abbrev pub on_frame : (Frame → Frame) → List Entry → List Entry
on_frame change [] = []
on_frame change (Call f ∷ below) = Call (change f) ∷ below
on_frame change (Record c phase ∷ below) = Record c phase ∷ below

-- the stack with the phase of its top changed, if that is a record
abbrev pub on_record : Phase → List Entry → List Entry
on_record phase [] = []
on_record phase (Call f ∷ below) = Call f ∷ below
on_record phase (Record c old ∷ below) = Record c phase ∷ below

-- a frame with another value in a register
abbrev pub with_register : ℕ → Value → Frame → Frame
with_register a v f = record f { registers = slice_set f.registers a v }

-- a frame that goes on at an address
abbrev pub frame_at : ℕ → Frame → Frame
frame_at to f = record f { at = to }

-- every form of a call has three units
abbrev pub past_call : Frame → Frame
past_call f = record f { at = f.at + 3 }

-- one deed is done
abbrev pub do_deed : Deed → State → State
do_deed (Make o) s = record s { things = s.things ++ Made s.file o ∷ [] }
do_deed (Touch n) s = record s { things = with_touched s.file n s.things }
do_deed (Saw look) s = s
do_deed (Reads place) s = s
do_deed (Writes place) s = s
do_deed (SetStatic f v) s = record s { statics = slice_set s.statics f v }
do_deed (SetStatus c status) s = record s { statuses = slice_set s.statuses c status }
do_deed (SetField place i v) s = record s { things = changed_at (in_thing (with_field i v)) place s.things }
do_deed (SetItem place i v) s = record s { things = changed_at (in_thing (with_item i v)) place s.things }
do_deed (CallNative m) s = s
do_deed (Print bytes) s = record s { output = s.output ++ bytes }
do_deed Start s = record s { started = true }
do_deed (Push e) s = record s { stack = e ∷ s.stack }
do_deed Pop s = record s { stack = stack_below s.stack }
do_deed (SetReg a v) s = record s { stack = on_frame (with_register a v) s.stack }
do_deed (Jump to) s = record s { stack = on_frame (frame_at to) s.stack }
do_deed GoOn s = record s { stack = on_frame past_call s.stack }
do_deed (SetPhase phase) s = record s { stack = on_record phase s.stack }
do_deed (Pend r) s = record s { pending = Some r }
do_deed Unpend s = record s { pending = None }
do_deed (Hold h) s = record s { held = h }

-- the deeds one after another
abbrev pub do_all : List Deed → State → State
do_all [] s = s
do_all (d ∷ ds) s = do_all ds (do_deed d s)
