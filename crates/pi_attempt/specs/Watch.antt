-- The attempt to initialise one class ahead of time: a run of the machine that enters the class, watched before each
-- further step for what an image could not keep. docs/transaction.md states the same rules. All of it is our own.
use Rattle.std.specs.Prelude.{ℕ, zero, suc, ◌+◌, ◌-◌, ◌==◌, ◌&&◌, not, nat_lt, List, [], ◌∷◌, slice_get, Option, Some, None, Bool, true, false, if◌then◌else◌, option_map, option_and_then}
use Rattle.std.specs.List.{list_any}
use Rattle.pi_model.specs.declared.reason.ClassState.TheVariants.{Erroneous}
use Rattle.pi_model.specs.declared.describe.ClassDesc.{ClassDesc}
use Rattle.pi_model.specs.Program.{Program}
use Rattle.pi_model.specs.Values.{Num}
use Rattle.pi_model.specs.Search.{class_at, or_else}
use Rattle.pi_machine.specs.State.{State, Thing, Made, Touched, Entry}
use Rattle.pi_machine.specs.Deeds.{Deed, Saw, OfStatic, Writes, SetStatic, SetStatus, do_all}
use Rattle.pi_machine.specs.Objects.{shape_at}
use Rattle.pi_machine.specs.Natives.{type_name_of}
use Rattle.pi_machine.specs.Images.{image_bytes, all_added}
use Rattle.pi_machine.specs.Acts.{first_of, entered_by, field_class, impure_call}
use Rattle.pi_machine.specs.Initialisation.{enters}
use Rattle.pi_machine.specs.Operands.{Deeds}
use Rattle.pi_machine.specs.Step.{deeds_of}
use Rattle.pi_machine.specs.Ends.{frame_words}

-- why an attempt ends without its class: a step would enter another class; write what belongs to an earlier image; use
-- the statics of another class; call a native that is not pure; be one too many; take too many object bytes or frame
-- words; or let a throwable reach the record of the class. Types are told by the number of their name.
pub data Why : Type 0 where
  NeedsInit : (class : ℕ) → Why
  EarlierImage : (ty : ℕ) → Why
  OtherStatics : (class : ℕ) → Why
  NativeCall : (method : ℕ) → Why
  Steps : Why
  Heap : Why
  Frames : Why
  Uncaught : (ty : ℕ) → Why

-- the bytes that the objects of one image may have, and the words that the frames of an attempt may have
abbrev pub image_limit : ℕ
image_limit = 33554432

-- the words that the frames of an attempt may have
abbrev pub frame_limit : ℕ
frame_limit = 262144

-- the name of a class of an earlier file
abbrev pub earlier_class : ℕ → Option ClassDesc → Option ℕ
earlier_class file None = None
earlier_class file (Some d) = if nat_lt d.file.0 file then Some d.name.0 else None

-- a thing belongs to the image of an earlier file
abbrev pub is_earlier : ℕ → Option Thing → Bool
is_earlier file (Some (Made (Some other) o)) = nat_lt other file
is_earlier file (Some (Made None o)) = false
is_earlier file (Some (Touched other n)) = false
is_earlier file None = false

-- the type of a thing of an earlier image that is written
abbrev pub earlier_object : Program → ℕ → State → ℕ → Option ℕ
earlier_object p file s n = if is_earlier file (slice_get s.things n) then type_name_of p (shape_at p s (Num n)) else None

-- a write of a static of a class of an earlier file, or of an object that an earlier image holds
abbrev pub earlier_write : Program → ℕ → State → Deed → Option ℕ
earlier_write p file s (SetStatic f v) = option_and_then (λ c. earlier_class file (class_at p c)) (field_class p f)
earlier_write p file s (Writes n) = earlier_object p file s n
earlier_write p file s _ = None

-- a class that is another than that of the attempt
abbrev pub if_other : ℕ → Option ℕ → Option ℕ
if_other c None = None
if_other c (Some d) = if d == c then None else Some d

-- a write, and a read, of a static of another class
abbrev pub other_write : Program → ℕ → Deed → Option ℕ
other_write p c (SetStatic f v) = if_other c (field_class p f)
other_write p c _ = None

-- a read of a static of another class
abbrev pub other_read : Program → ℕ → Deed → Option ℕ
other_read p c (Saw (OfStatic f v)) = if_other c (field_class p f)
other_read p c _ = None

-- a throwable reaches the record of a class, which is left with the class erroneous
abbrev pub leaves_record : ℕ → Deed → Bool
leaves_record c (SetStatus d Erroneous) = d == c
leaves_record c _ = false

-- a step in which a throwable reaches the record of a class
abbrev pub reaches_record : ℕ → List Deed → Bool
reaches_record c deeds = list_any (leaves_record c) deeds

-- a reason that holds
abbrev pub reason_if : Bool → Why → Option Why
reason_if true why = Some why
reason_if false why = None

-- the image would have too many bytes: those that it has, and those that the step adds; a throwable that reaches the record
-- takes none
abbrev pub too_many_bytes : Program → ℕ → ℕ → State → List Deed → Bool
too_many_bytes p c file s deeds = not (reaches_record c deeds) && nat_lt image_limit (image_bytes p file s + all_added p file deeds s)

-- the frames would have too many words
abbrev pub too_many_words : State → List Deed → Bool
too_many_words s deeds = nat_lt frame_limit (frame_words (do_all deeds s).stack)

-- the type of the pending throwable, where it reaches the record
abbrev pub uncaught_type : Program → ℕ → State → List Deed → Option ℕ
uncaught_type p c s deeds = if reaches_record c deeds then option_and_then (λ t. type_name_of p (shape_at p s t)) s.pending else None

-- the first reason of a list that holds
abbrev pub first_why : List (Option Why) → Option Why
first_why [] = None
first_why (w ∷ ws) = or_else w (first_why ws)

-- The reasons in their order, asked of a step that would be made in the attempt of a class of a file; `spent` says that
-- as many steps were made as the budget allows.
abbrev pub reason : Program → ℕ → ℕ → Bool → State → List Deed → Option Why
reason p c file spent s deeds = first_why (
    option_map NeedsInit (first_of entered_by deeds)
    ∷ option_map EarlierImage (first_of (earlier_write p file s) deeds)
    ∷ option_map OtherStatics (or_else (first_of (other_write p c) deeds) (first_of (other_read p c) deeds))
    ∷ option_map NativeCall (first_of (impure_call p) deeds)
    ∷ reason_if spent Steps
    ∷ reason_if (too_many_bytes p c file s deeds) Heap
    ∷ reason_if (too_many_words s deeds) Frames
    ∷ option_map Uncaught (uncaught_type p c s deeds)
    ∷ [])

-- how an attempt ends: the class is done, after so many steps; or it was stopped
pub data Watched : Type 0 where
  Committed : (state : State) (steps : ℕ) → Watched
  Stopped : (why : Why) → Watched

-- one more step, where no reason holds; a step that the machine cannot make is stuck
abbrev pub judgement : (State → Option Watched) → State → List Deed → Option Why → Option Watched
judgement go s deeds None = go (do_all deeds s)
judgement go s deeds (Some why) = Some (Stopped why)

-- the step is made, or the attempt ends; none where the machine is stuck
abbrev pub by_deeds : Program → ℕ → ℕ → Bool → (State → Option Watched) → State → Deeds → Option Watched
by_deeds p c file spent go s None = None
by_deeds p c file spent go s (Some deeds) = judgement go s deeds (reason p c file spent s deeds)

-- the attempt is over where the stack is empty; else its next step is looked at
abbrev pub turn : Program → ℕ → ℕ → Bool → (State → Option Watched) → ℕ → State → List Entry → Option Watched
turn p c file spent go made s [] = Some (Committed s made)
turn p c file spent go made s (e ∷ below) = by_deeds p c file spent go s (deeds_of p s)

-- the watched run from a state after so many steps, with so many left
abbrev pub watch_by : Program → ℕ → ℕ → ℕ → ℕ → State → Option Watched
watch_by p c file zero made s = turn p c file true (λ after. None) made s s.stack
watch_by p c file (suc left) made s = turn p c file false (watch_by p c file left (made + 1)) made s s.stack

-- what the attempt makes and first touches is for the image of the file
abbrev pub entry_state : ℕ → ℕ → State → State
entry_state c file s = do_all (enters c) (record s { file = Some file })

-- outside of an attempt nothing is for an image
abbrev pub as_before : State → Watched → Watched
as_before s (Committed after steps) = Committed (record after { file = s.file }) steps
as_before s (Stopped why) = Stopped why

-- The attempt of a class of a file from a state with an empty stack, within a budget of steps, of which entering is the
-- first. None where the machine is stuck.
abbrev pub watch : Program → ℕ → ℕ → ℕ → State → Option Watched
watch p c file budget s = option_map (as_before s) (watch_by p c file (budget - 1) 1 (entry_state c file s))
