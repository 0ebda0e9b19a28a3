-- Initialising the selected classes of a chain ahead of time: a fold over the image lines and the selected classes of
-- each, with retries, and what it leaves. docs/transaction.md states the same rules. All of it is our own.
use Rattle.std.specs.Prelude.{ℕ, zero, suc, ◌+◌, ◌*◌, ◌==◌, ◌&&◌, not, List, [], ◌∷◌, ◌++◌, length, map, flat_map, find, slice_get, Option, Some, None, Bool, true, false, if◌then◌else◌, option_map, option_and_then}
use Rattle.pi_model.specs.declared.reason.ClassState.{ClassState}
use Rattle.pi_model.specs.declared.reason.ClassState.TheVariants.{Fresh, InProgress, Done, Erroneous}
use Rattle.pi_model.specs.Program.{Program}
use Rattle.pi_machine.specs.State.{State}
use Rattle.pi_machine.specs.Start.{first_state}
use Rattle.pi_machine.specs.Ends.{Setting, has, touched_among}
use Rattle.pi_attempt.specs.Watch.{Why, NeedsInit, Watched, Committed, Stopped, watch}

-- what is said of a selected class: it is held initialised, by a run of so many steps; or it is left to its first use
pub data Verdict : Type 0 where
  Held : (steps : ℕ) → Verdict
  Lazy : (why : Why) → Verdict

-- the verdict on a class
pub record Answer : Type 0 where
  pub class : ℕ
  pub verdict : Verdict

-- an image line: the budget of each attempt, and the selected classes of the file in order
pub record Line : Type 0 where
  pub budget : ℕ
  pub selected : List ℕ

-- what stands so far: the state, the answers in the order in which they came, the classes whose attempt has begun
pub record Progress : Type 0 where
  pub state : State
  pub answers : List Answer
  pub begun : List ℕ

-- the attempt of a class begins
abbrev pub begins : ℕ → Progress → Progress
begins c w = record w { begun = c ∷ w.begun }

-- a class is answered
abbrev pub with_verdict : ℕ → Verdict → Progress → Progress
with_verdict c verdict w = record w { answers = w.answers ++ record { class = c; verdict = verdict } ∷ [] }

-- the class is selected, and its attempt has not begun
abbrev pub may_begin : List ℕ → Progress → ℕ → Bool
may_begin selected w c = has selected c && not (has w.begun c)

-- the class that an attempt needs first, where it may begin
abbrev pub first_needed : List ℕ → Progress → Why → Option ℕ
first_needed selected w (NeedsInit d) = if may_begin selected w d then Some d else None
first_needed selected w _ = None

-- What follows an attempt of the class at the front of those that wait. Done: the new state is kept. Another class that
-- may begin is needed: that one is attempted before it. Another end: the old state is kept.
abbrev pub settle_lazy : {A : Type 0} → (List ℕ → Progress → Option A) → ℕ → List ℕ → Progress → Why → Option ℕ → Option A
settle_lazy go c waiting w why None = go waiting (with_verdict c (Lazy why) w)
settle_lazy go c waiting w why (Some d) = go (d ∷ c ∷ waiting) (begins d w)

-- the turn of the class at the front, by how its attempt ended
abbrev pub settle_by : {A : Type 0} → (List ℕ → Progress → Option A) → List ℕ → ℕ → List ℕ → Progress → Option Watched → Option A
settle_by go selected c waiting w None = None
settle_by go selected c waiting w (Some (Committed after steps)) = go waiting (with_verdict c (Held steps) (record w { state = after }))
settle_by go selected c waiting w (Some (Stopped why)) = settle_lazy go c waiting w why (first_needed selected w why)

-- Attempts until no class waits. Each turn answers the class at the front, or begins one that was selected and had not
-- begun, so two turns for each selected class suffice.
abbrev pub settle : Program → ℕ → Line → ℕ → List ℕ → Progress → Option Progress
settle p file line turns [] w = Some w
settle p file line zero (c ∷ waiting) w = None
settle p file line (suc turns) (c ∷ waiting) w = settle_by (settle p file line turns) line.selected c waiting w (watch p c file line.budget w.state)

-- a moment between two turns: the classes that wait, the one to attempt next at the front, and what stands
pub record Waits : Type 0 where
  pub waiting : List ℕ
  pub progress : Progress

-- the moment after that many turns, where the fold makes them
abbrev pub turns_after : Program → ℕ → Line → ℕ → List ℕ → Progress → Option Waits
turns_after p file line zero waiting w = Some (record { waiting = waiting; progress = w })
turns_after p file line (suc turns) [] w = None
turns_after p file line (suc turns) (c ∷ waiting) w = settle_by (turns_after p file line turns) line.selected c waiting w (watch p c file line.budget w.state)

-- a status is that of a class that is done
abbrev pub is_done : Option ClassState → Bool
is_done (Some Done) = true
is_done (Some Fresh) = false
is_done (Some InProgress) = false
is_done (Some Erroneous) = false
is_done None = false

-- a class that is done already is answered with 0 steps; another is attempted
abbrev pub first_attempt : Program → ℕ → Line → ℕ → Progress → Bool → Option Progress
first_attempt p file line c w true = Some (with_verdict c (Held 0) (begins c w))
first_attempt p file line c w false = settle p file line (2 * length line.selected) (c ∷ []) (begins c w)

-- one selected class: nothing is left to do where its attempt has begun
abbrev pub select : Program → ℕ → Line → ℕ → Progress → Option Progress
select p file line c w = if has w.begun c then Some w else first_attempt p file line c w (is_done (slice_get w.state.statuses c))

-- the selected classes of a line in order
abbrev pub select_all : Program → ℕ → Line → List ℕ → Progress → Option Progress
select_all p file line [] w = Some w
select_all p file line (c ∷ cs) w = option_and_then (select_all p file line cs) (select p file line c w)

-- the image lines in order, the first of the file of that number
abbrev pub over_lines : Program → ℕ → List Line → Progress → Option Progress
over_lines p file [] w = Some w
over_lines p file (line ∷ lines) w = option_and_then (over_lines p (file + 1) lines) (select_all p file line line.selected w)

-- before the first line: the state in which nothing has run, no answers, and no attempt has begun
abbrev pub no_progress : Program → Progress
no_progress p = record { state = first_state p; answers = []; begun = [] }

-- Initialising ahead of time, from the state in which nothing has run. None where the machine is stuck in an attempt.
abbrev pub preinitialise : Program → List Line → Option Progress
preinitialise p lines = over_lines p 0 lines (no_progress p)

-- all selected classes, in the order of the lines
abbrev pub all_selected : List Line → List ℕ
all_selected lines = flat_map (λ (line : Line). line.selected) lines

-- the verdict on a class
abbrev pub verdict_on : Progress → ℕ → Option Verdict
verdict_on w c = option_map (λ (a : Answer). a.verdict) (find (λ (a : Answer). a.class == c) w.answers)

-- the answers in the order of the selections
abbrev pub report : List Line → Progress → List (Option Verdict)
report lines w = map (verdict_on w) (all_selected lines)

-- the classes that are done in one list of statuses and not in another, by their numbers from one on
abbrev pub newly_done : ℕ → List ClassState → List ClassState → List ℕ
newly_done c (after ∷ afters) (before ∷ befores) =
    if is_done (Some after) && not (is_done (Some before)) then c ∷ newly_done (c + 1) afters befores else newly_done (c + 1) afters befores
newly_done c [] befores = []
newly_done c (after ∷ afters) [] = []

-- the held classes: those that are done after it and not before it
abbrev pub held_classes : Program → Progress → List ℕ
held_classes p w = newly_done 0 w.state.statuses (first_state p).statuses

-- a run from the start in which the held classes are initialised inside, and the literals of images are not counted
abbrev pub setting_after : Program → Progress → ℕ → ℕ → ℕ → Setting
setting_after p w steps heap frames = record { held = held_classes p w; imaged = touched_among w.state.things; steps = steps; heap = heap; frames = frames }
