-- How a run ends under limits, what it has printed by then, and how many steps were counted. With held classes only the
-- outside steps count: those with no record of a held class on the stack before or after them. All of it is our own.
use Rattle.std.specs.Prelude.{◌≡◌, ℕ, zero, suc, ◌+◌, ◌==◌, ◌||◌, nat_lt, List, [], ◌∷◌, length, sum_by, Option, Some, None, Bool, true, false, if◌then◌else◌}
use Rattle.std.specs.List.{list_any}
use Rattle.pi_model.specs.Program.{Program}
use Rattle.pi_model.specs.Values.{Ref, Value, Object, Instance, Array, Text}
use Rattle.pi_model.specs.Sizes.{object_bytes}
use Rattle.pi_model.specs.Texts.{units_of}
use Rattle.pi_machine.specs.State.{State, Thing, Made, Touched, Entry, Call, Record}
use Rattle.pi_machine.specs.Deeds.{Deed, Make, Touch, do_all}
use Rattle.pi_machine.specs.Objects.{object_at, text_at}
use Rattle.pi_machine.specs.Operands.{Deeds}
use Rattle.pi_machine.specs.Step.{deeds_of}
use Rattle.pi_machine.specs.Start.{first_state, with_main, argument_bytes}

-- how a run ends: main returned; a throwable of a class, with its message, left the stack empty; a limit was met
pub data End : Type 0 where
  Returned : End
  Uncaught : (class : ℕ) (message : Option (List ℕ)) → End
  StepLimit : End
  HeapLimit : End
  FrameLimit : End

-- the end of a run, the output by then, and the counted steps
pub record Finish : Type 0 where
  pub end : End
  pub output : List ℕ
  pub steps : ℕ

-- what a run is given: the held classes, the literals that images hold, and the limits on steps, heap bytes, frame words
pub record Setting : Type 0 where
  pub held : List ℕ
  pub imaged : List ℕ
  pub steps : ℕ
  pub heap : ℕ
  pub frames : ℕ

-- what was counted so far: steps, bytes, and the literals that were touched in counted steps
pub record Tally : Type 0 where
  pub steps : ℕ
  pub bytes : ℕ
  pub literals : List ℕ

-- the message of a throwable: its first field, where that names a text
abbrev pub message_of : Program → State → List Value → Option (List ℕ)
message_of p s [] = None
message_of p s (v ∷ others) = text_at p s v

-- the end by a throwable, which is an instance
abbrev pub uncaught : Program → State → Option Object → Option End
uncaught p s None = None
uncaught p s (Some (Instance c fields)) = Some (Uncaught c (message_of p s fields))
uncaught p s (Some (Array ty items)) = None
uncaught p s (Some (Text units)) = None

-- the state is ended: main's frame was popped by a return, or a throwable is pending over an empty stack
abbrev pub end_by : Program → State → Option Ref → List Entry → Bool → Option End
end_by p s pending (e ∷ below) started = None
end_by p s (Some t) [] started = uncaught p s (object_at p s t)
end_by p s None [] true = Some Returned
end_by p s None [] false = None

-- the end of a state, where it is ended
abbrev pub end_of : Program → State → Option End
end_of p s = end_by p s s.pending s.stack s.started

-- a number stands in a list
abbrev pub has : List ℕ → ℕ → Bool
has xs n = list_any (λ x. x == n) xs

-- the entry is a record of a held class
abbrev pub is_held_record : List ℕ → Entry → Bool
is_held_record held (Call f) = false
is_held_record held (Record c phase) = has held c

-- a step is inside: a record of a held class is on the stack before or after it
abbrev pub is_inside : List ℕ → List Entry → List Entry → Bool
is_inside held before after = list_any (is_held_record held) before || list_any (is_held_record held) after

-- the words of a frame: its registers and four more
abbrev pub entry_words : Entry → ℕ
entry_words (Call f) = length f.registers + 4
entry_words (Record c phase) = 0

-- the words of all frames on a stack
abbrev pub frame_words : List Entry → ℕ
frame_words stack = sum_by entry_words stack

-- bytes and literals counted with the deeds of a step: objects that are made, and literals at their first counted touch
-- unless an image holds them
abbrev pub with_literal : Program → ℕ → Bool → Tally → Tally
with_literal p n true t = t
with_literal p n false t = record t { bytes = t.bytes + object_bytes p (Text (units_of p n)); literals = n ∷ t.literals }

-- the bytes of one deed are counted
abbrev pub with_deed : Program → List ℕ → Deed → Tally → Tally
with_deed p imaged (Make o) t = record t { bytes = t.bytes + object_bytes p o }
with_deed p imaged (Touch n) t = with_literal p n (has imaged n || has t.literals n) t
with_deed p imaged _ t = t

-- the bytes of the deeds of a step are counted
abbrev pub with_deeds : Program → List ℕ → List Deed → Tally → Tally
with_deeds p imaged [] t = t
with_deeds p imaged (d ∷ ds) t = with_deeds p imaged ds (with_deed p imaged d t)

-- what comes next in a run: it ends, it goes on, or it is stuck
pub data Next : Type 0 where
  Ends : (end : End) → Next
  Goes : (state : State) (tally : Tally) → Next
  Sticks : Next

-- a counted step, with what was counted by its end
abbrev pub outside_step : Setting → State → Tally → Next
outside_step given after tally =
    if nat_lt given.heap tally.bytes then Ends HeapLimit else
    if nat_lt given.frames (frame_words after.stack) then Ends FrameLimit else
    Goes after (record tally { steps = tally.steps + 1 })

-- a step that is inside is made and not counted; any other is counted
abbrev pub counted_step : Program → Setting → State → Tally → List Deed → State → Next
counted_step p given s t deeds after =
    if is_inside given.held s.stack after.stack then Goes after t
    else outside_step given after (with_deeds p given.imaged deeds t)

-- the next step, where there is one
abbrev pub next_step : Program → Setting → State → Tally → Deeds → Next
next_step p given s t None = Sticks
next_step p given s t (Some deeds) = counted_step p given s t deeds (do_all deeds s)

-- the cases in their order: the state is ended; as many steps as given were counted; the next step would pass the limit
-- on heap bytes, or that on frame words; the step is made
abbrev pub next_by : Program → Setting → State → Tally → Option End → Next
next_by p given s t (Some end) = Ends end
next_by p given s t None = if t.steps == given.steps then Ends StepLimit else next_step p given s t (deeds_of p s)

-- what comes next of a state
abbrev pub next : Program → Setting → State → Tally → Next
next p given s t = next_by p given s t (end_of p s)

-- the run by what comes next
abbrev pub goes_on : (State → Tally → Option Finish) → State → Tally → Next → Option Finish
goes_on run s t (Ends end) = Some (record { end = end; output = s.output; steps = t.steps })
goes_on run s t (Goes after tally) = run after tally
goes_on run s t Sticks = None

-- how the run ends, if fewer than that many steps lead to its end
abbrev pub run_by : Program → Setting → ℕ → State → Tally → Option Finish
run_by p given zero s t = None
run_by p given (suc n) s t = goes_on (run_by p given n) s t (next p given s t)

-- from that state and tally the run ends so
abbrev pub EndsFrom : Program → Setting → State → Tally → Finish → Type 0
EndsFrom p given s t f = (n : ℕ) × (run_by p given n s t ≡ Some f)

-- before the first step the arguments are counted
abbrev pub first_tally : Program → List (List ℕ) → Tally
first_tally p args = record { steps = 0; bytes = argument_bytes p args; literals = [] }

-- the end where the arguments do not fit
abbrev pub no_room : Finish
no_room = record { end = HeapLimit; output = []; steps = 0 }

-- a run ends so, by whether the arguments fit
abbrev pub BeginsAndEnds : Bool → Program → Setting → State → Tally → Finish → Type 0
BeginsAndEnds true p given s t f = f ≡ no_room
BeginsAndEnds false p given s t f = EndsFrom p given s t f

-- The run from a state with an empty stack, with this main and these arguments, ends so. Where the arguments do not fit
-- into the heap, it ends by that before any step.
abbrev pub EndsOf : Program → Setting → State → ℕ → List (List ℕ) → Finish → Type 0
EndsOf p given s main args f =
    BeginsAndEnds (nat_lt given.heap (argument_bytes p args)) p given (with_main p main args s) (first_tally p args) f

-- the run of a program from its start ends so
abbrev pub EndsWith : Program → Setting → ℕ → List (List ℕ) → Finish → Type 0
EndsWith p given main args f = EndsOf p given (first_state p) main args f

-- the literals that were touched in a state; those that images hold are those of the state after preinitialisation
abbrev pub touched_among : List Thing → List ℕ
touched_among [] = []
touched_among (Made file o ∷ things) = touched_among things
touched_among (Touched file n ∷ things) = n ∷ touched_among things

-- a moment of a run: the state, and what was counted by then
pub record Moment : Type 0 where
  pub state : State
  pub tally : Tally

-- the moment after what comes next
abbrev pub moves_on : (State → Tally → Option Moment) → Next → Option Moment
moves_on go (Ends end) = None
moves_on go (Goes after tally) = go after tally
moves_on go Sticks = None

-- the moment after that many steps of a run, where it makes them under its limits
abbrev pub moment_after : Program → Setting → ℕ → State → Tally → Option Moment
moment_after p given zero s t = Some (record { state = s; tally = t })
moment_after p given (suc n) s t = moves_on (moment_after p given n) (next p given s t)
