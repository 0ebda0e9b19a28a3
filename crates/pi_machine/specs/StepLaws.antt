-- The laws of single steps, as statements: a step changes only what its deeds name; statuses of classes move one way;
-- what is ended stays ended.
use Rattle.std.specs.Prelude.{◌≡◌, ℕ, ◌+◌, ◌==◌, ◌<◌, ◌≤◌, List, [], ◌∷◌, length, slice_get, Option, Some, None, Bool, true, false, option_map}
use Rattle.std.specs.List.{list_any}
use Rattle.pi_model.specs.declared.reason.ClassState.{ClassState}
use Rattle.pi_model.specs.declared.reason.ClassState.TheVariants.{Fresh, InProgress, Done, Erroneous}
use Rattle.pi_model.specs.declared.insn.Insn.{Insn}
use Rattle.pi_model.specs.Program.{Program, all_fields}
use Rattle.pi_model.specs.Search.{in_class, field_of}
use Rattle.pi_machine.specs.State.{State, Thing, Made, Touched, Frame, Entry, Call, Record}
use Rattle.pi_machine.specs.Deeds.{Look, OfStatus, OfStatic, OfField, OfItem, OfHeld, OfObject, Deed, Make, Touch, Saw, SetStatic, SetStatus, SetField, SetItem, Print, Start, Push, Pop, SetReg, Jump, GoOn, SetPhase, Pend, Unpend, Hold, do_all}
use Rattle.pi_machine.specs.Objects.{made_of, OfInstance, OfArray, shape_of, object_at, field_in, item_in}
use Rattle.pi_machine.specs.Rows.{row}
use Rattle.pi_machine.specs.Step.{deeds_of, step, after_steps, at_rest}
use Rattle.pi_machine.specs.Start.{first_state, start_state}
use Rattle.pi_machine.specs.Ends.{Setting, Tally, Finish, End, end_of, run_by}

-- what a deed names: a static field, the status of a class, the thing at a place
abbrev pub sets_static : ℕ → Deed → Bool
sets_static f (SetStatic g v) = f == g
sets_static f _ = false

abbrev pub sets_status : ℕ → Deed → Bool
sets_status c (SetStatus d status) = c == d
sets_status c _ = false

abbrev pub changes_thing : ℕ → Deed → Bool
changes_thing n (SetField place i v) = n == place
changes_thing n (SetItem place i v) = n == place
changes_thing n _ = false

-- the kinds of deeds: those that may add a thing, print, move the stack, say what is pending, hold, and start
abbrev pub adds_thing : Deed → Bool
adds_thing (Make o) = true
adds_thing (Touch n) = true
adds_thing _ = false

abbrev pub prints : Deed → Bool
prints (Print bytes) = true
prints _ = false

abbrev pub moves_stack : Deed → Bool
moves_stack (Push e) = true
moves_stack Pop = true
moves_stack (SetReg a v) = true
moves_stack (Jump to) = true
moves_stack GoOn = true
moves_stack (SetPhase phase) = true
moves_stack _ = false

abbrev pub pends : Deed → Bool
pends (Pend r) = true
pends Unpend = true
pends _ = false

abbrev pub holds : Deed → Bool
holds (Hold h) = true
holds _ = false

abbrev pub starts : Deed → Bool
starts Start = true
starts _ = false

-- no deed of the list passes the test
abbrev pub NoneOf : (Deed → Bool) → List Deed → Type 0
NoneOf test deeds = list_any test deeds ≡ false

-- the file for whose image a thing is
abbrev pub file_of : Thing → Option ℕ
file_of (Made file o) = file
file_of (Touched file n) = file

-- Between two states only that differs which the deeds name. Things are never fewer, and each keeps its shape and its
-- file whatever the deeds, or stays the touched literal that it is. There are as many statics and statuses as before.
pub record ChangesOnly (deeds : List Deed) (before after : State) : Type 0 where
  pub statics : (f : ℕ) → NoneOf (sets_static f) deeds → slice_get after.statics f ≡ slice_get before.statics f
  pub statuses : (c : ℕ) → NoneOf (sets_status c) deeds → slice_get after.statuses c ≡ slice_get before.statuses c
  pub things : (n : ℕ) → n < length before.things → NoneOf (changes_thing n) deeds
      → slice_get after.things n ≡ slice_get before.things n
  pub shapes : (n : ℕ) → n < length before.things
      → option_map shape_of (made_of (slice_get after.things n)) ≡ option_map shape_of (made_of (slice_get before.things n))
  pub files : (n : ℕ) → n < length before.things
      → option_map file_of (slice_get after.things n) ≡ option_map file_of (slice_get before.things n)
  pub literals : (n : ℕ) (file : Option ℕ) (name : ℕ) → slice_get before.things n ≡ Some (Touched file name)
      → slice_get after.things n ≡ Some (Touched file name)
  pub static_count : length after.statics ≡ length before.statics
  pub status_count : length after.statuses ≡ length before.statuses
  pub count : NoneOf adds_thing deeds → length after.things ≡ length before.things
  pub grows : length before.things ≤ length after.things
  pub output : NoneOf prints deeds → after.output ≡ before.output
  pub stack : NoneOf moves_stack deeds → after.stack ≡ before.stack
  pub pending : NoneOf pends deeds → after.pending ≡ before.pending
  pub held : NoneOf holds deeds → after.held ≡ before.held
  pub started : NoneOf starts deeds → after.started ≡ before.started
  pub main : after.main ≡ before.main
  pub args : after.args ≡ before.args
  pub file : after.file ≡ before.file

-- deeds done in a state change only what they name
abbrev pub DeedsChangeOnly : Type 0
DeedsChangeOnly = (deeds : List Deed) (s : State) → ChangesOnly deeds s (do_all deeds s)

-- the entry is a record of that class
abbrev pub is_record_of : ℕ → Entry → Bool
is_record_of c (Call f) = false
is_record_of c (Record d phase) = c == d

-- on the stack the class of each record is in progress and has no other record
abbrev pub RecordsRunOn : List ClassState → List Entry → Type 0
RecordsRunOn statuses [] = Unit {0}
RecordsRunOn statuses (Call f ∷ below) = RecordsRunOn statuses below
RecordsRunOn statuses (Record c phase ∷ below) =
    (slice_get statuses c ≡ Some InProgress) × (list_any (is_record_of c) below ≡ false) × RecordsRunOn statuses below

abbrev pub RecordsRun : State → Type 0
RecordsRun s = RecordsRunOn s.statuses s.stack

-- a status stays, or moves from fresh to in progress, or from in progress to done or to erroneous
pub data StatusMoves : (before after : Option ClassState) → Type 0 where
  Stays : (status : Option ClassState) → StatusMoves status status
  Enters : StatusMoves (Some Fresh) (Some InProgress)
  Finishes : StatusMoves (Some InProgress) (Some Done)
  Breaks : StatusMoves (Some InProgress) (Some Erroneous)

-- after a step the records still run, and each status stayed or moved one way
pub record StepsKeepStatuses : Type 0 where
  pub records : (p : Program) (s after : State) → RecordsRun s → step p s ≡ Some after → RecordsRun after
  pub moves : (p : Program) (s after : State) → RecordsRun s → step p s ≡ Some after
      → (c : ℕ) → StatusMoves (slice_get s.statuses c) (slice_get after.statuses c)

-- in the states in which runs and preinitialisation start, the records run: there are none
abbrev pub StartRecordsRun : Type 0
StartRecordsRun = ((p : Program) → RecordsRun (first_state p)) × ((p : Program) (main : ℕ) (args : List (List ℕ)) → RecordsRun (start_state p main args))

-- after any number of steps the records still run, and a class that is done or erroneous stays so
pub record StatusesStay : Type 0 where
  pub records : (p : Program) (n : ℕ) (s after : State) → RecordsRun s → after_steps p n s ≡ Some after → RecordsRun after
  pub done : (p : Program) (n : ℕ) (s after : State) → RecordsRun s → after_steps p n s ≡ Some after
      → (c : ℕ) → slice_get s.statuses c ≡ Some Done → slice_get after.statuses c ≡ Some Done
  pub erroneous : (p : Program) (n : ℕ) (s after : State) → RecordsRun s → after_steps p n s ≡ Some after
      → (c : ℕ) → slice_get s.statuses c ≡ Some Erroneous → slice_get after.statuses c ≡ Some Erroneous

-- the deeds that no instruction does: those of initialisation and of the start, and taking a pending throwable back
abbrev pub is_beyond_rows : Deed → Bool
is_beyond_rows (SetStatus c status) = true
is_beyond_rows (Push (Record c phase)) = true
is_beyond_rows (SetPhase phase) = true
is_beyond_rows Start = true
is_beyond_rows Unpend = true
is_beyond_rows _ = false

-- an instruction sets no status, pushes no record, sets no phase, does not start, and takes no pending throwable back
abbrev pub RowsKeepWithin : Type 0
RowsKeepWithin = (p : Program) (s : State) (f : Frame) (units : ℕ) (i : Insn) (deeds : List Deed)
    → row p s f units i ≡ Some deeds → NoneOf is_beyond_rows deeds

-- a property of each deed of a list
abbrev pub EachDeed : (Deed → Type 0) → List Deed → Type 0
EachDeed P [] = Unit {0}
EachDeed P (d ∷ ds) = P d × EachDeed P ds

-- what was read stands so in the state
abbrev pub IsSeen : Program → State → Look → Type 0
IsSeen p s (OfStatus c is) = slice_get s.statuses c ≡ Some is
IsSeen p s (OfStatic f is) = slice_get s.statics f ≡ Some is
IsSeen p s (OfField r place is) = field_in (object_at p s r) place ≡ Some is
IsSeen p s (OfItem r place is) = item_in (object_at p s r) place ≡ Some is
IsSeen p s (OfHeld is) = s.held ≡ is
IsSeen p s (OfObject r is) = object_at p s r ≡ Some is

abbrev pub IsLookTrue : Program → State → Deed → Type 0
IsLookTrue p s (Saw look) = IsSeen p s look
IsLookTrue p s _ = Unit {0}

-- what the deeds of a step tell as read stands so in the state before it
abbrev pub LooksAreTrue : Type 0
LooksAreTrue = (p : Program) (s : State) (deeds : List Deed) → deeds_of p s ≡ Some deeds → EachDeed (IsLookTrue p s) deeds

-- the thing at a place is an instance with a field at that place of it, or an array with an element there
pub record HasField (s : State) (n place : ℕ) : Type 0 where
  pub class : ℕ
  pub fields : ℕ
  pub is : option_map shape_of (made_of (slice_get s.things n)) ≡ Some (OfInstance class fields)
  pub within : place < fields

pub record HasItem (s : State) (n place : ℕ) : Type 0 where
  pub ty : ℕ
  pub items : ℕ
  pub is : option_map shape_of (made_of (slice_get s.things n)) ≡ Some (OfArray ty items)
  pub within : place < items

-- a number is that of a field of a class
pub record IsFieldOf (p : Program) (c f : ℕ) : Type 0 where
  pub place : ℕ
  pub member : field_of p f ≡ Some (in_class c place)
  pub below : f < all_fields p

-- what a deed of an instruction writes is there to be written: the static, the field, the element, the register
abbrev pub IsWriteInside : State → Frame → Deed → Type 0
IsWriteInside s f (SetStatic field v) = field < length s.statics
IsWriteInside s f (SetField n place v) = HasField s n place
IsWriteInside s f (SetItem n place v) = HasItem s n place
IsWriteInside s f (SetReg a v) = a < length f.registers
IsWriteInside s f _ = Unit {0}

-- no write of an instruction is lost
abbrev pub RowWritesAreInside : Type 0
RowWritesAreInside = (p : Program) (s : State) (f : Frame) (units : ℕ) (i : Insn) (deeds : List Deed)
    → row p s f units i ≡ Some deeds → EachDeed (IsWriteInside s f) deeds

-- a state that is at rest has no next step
abbrev pub RestHasNoStep : Type 0
RestHasNoStep = (p : Program) (s : State) → at_rest s ≡ true → deeds_of p s ≡ None

-- a state that is ended is at rest
abbrev pub EndedIsAtRest : Type 0
EndedIsAtRest = (p : Program) (s : State) (e : End) → end_of p s ≡ Some e → at_rest s ≡ true

-- a state that is ended has no next step
abbrev pub EndedHasNoStep : Type 0
EndedHasNoStep = (p : Program) (s : State) (e : End) → end_of p s ≡ Some e → deeds_of p s ≡ None

-- a run that has ended within so many steps ends the same way within more
abbrev pub LongerRunEndsSame : Type 0
LongerRunEndsSame = (p : Program) (given : Setting) (n m : ℕ) (s : State) (t : Tally) (f : Finish)
    → run_by p given n s t ≡ Some f → run_by p given (n + m) s t ≡ Some f
