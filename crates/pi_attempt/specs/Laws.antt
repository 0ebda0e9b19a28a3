-- The laws of initialising ahead of time, as statements.
use Rattle.std.specs.Prelude.{◌≡◌, ◌↔◌, ℕ, ◌==◌, List, [], ◌∷◌, ◌++◌, take, slice_get, nat_lt, Option, Some, None, Bool, true, false, option_map, count_by, if◌then◌else◌}
use Rattle.pi_model.specs.Program.{Program}
use Rattle.pi_model.specs.Search.{or_else}
use Rattle.pi_machine.specs.State.{State}
use Rattle.pi_machine.specs.Deeds.{Deed}
use Rattle.pi_machine.specs.Acts.{Act, EnterClass, WriteStatic, WriteObject, ReadStatic, CallImpure, Turn, acts}
use Rattle.pi_machine.specs.Step.{deeds_of}
use Rattle.pi_machine.specs.Ends.{has}
use Rattle.pi_attempt.specs.Watch.{Why, NeedsInit, EarlierImage, OtherStatics, NativeCall, Steps, Heap, Frames, Uncaught, if_other, reason_if, too_many_bytes, too_many_words, uncaught_type, first_why, reason, watch}
use Rattle.pi_attempt.specs.Fold.{Line, Answer, Progress, begins, turns_after, is_done, select_all, over_lines, no_progress, preinitialise, all_selected}

-- how many answers are about a class
abbrev pub answers_on : Progress → ℕ → ℕ
answers_on w c = count_by (λ (a : Answer). a.class == c) w.answers

-- each selected class is answered once, however often it was selected and attempted, and no other class is
abbrev pub EachAnsweredOnce : Type 0
EachAnsweredOnce = (p : Program) (lines : List Line) (w : Progress) (c : ℕ) → preinitialise p lines ≡ Some w
    → answers_on w c ≡ (if has (all_selected lines) c then 1 else 0)

-- The fold comes to an attempt of a class in the line of a file, with what stands then: the lines before it were taken
-- first, then the selected classes before another one, whose attempt had not begun and which was not done; and after some
-- turns from that one on the class is the next to be attempted.
pub record ComesTo (p : Program) (lines : List Line) (file : ℕ) (line : Line) (class : ℕ) (now : Progress) : Type 0 where
  pub of_job : slice_get lines file ≡ Some line
  pub at_line : Progress
  pub lines_before : over_lines p 0 (take file lines) (no_progress p) ≡ Some at_line
  pub before : List ℕ
  pub first : ℕ
  pub others : List ℕ
  pub in_order : line.selected ≡ before ++ first ∷ others
  pub at_first : Progress
  pub classes_before : select_all p file line before at_line ≡ Some at_first
  pub not_begun : has at_first.begun first ≡ false
  pub not_done : is_done (slice_get at_first.state.statuses first) ≡ false
  pub turns : ℕ
  pub waiting : List ℕ
  pub is_next : turns_after p file line turns (first ∷ []) (begins first at_first) ≡ Some (record { waiting = class ∷ waiting; progress = now })

-- an attempt to which the fold comes, of a class that its line selects, and in which the machine is stuck
pub record IsStuck (p : Program) (lines : List Line) : Type 0 where
  pub file : ℕ
  pub line : Line
  pub class : ℕ
  pub now : Progress
  pub comes : ComesTo p lines file line class now
  pub selected : has line.selected class ≡ true
  pub stuck : watch p class file line.budget now.state ≡ None

-- the fold has no result exactly where it comes to an attempt in which the machine is stuck: its turns suffice for every
-- program and all selections
abbrev pub EndsUnlessStuck : Type 0
EndsUnlessStuck = (p : Program) (lines : List Line) → (preinitialise p lines ≡ None ↔ IsStuck p lines)

-- a type of an earlier file, or of a file's image
abbrev pub if_earlier : ℕ → Option ℕ → ℕ → Option Why
if_earlier file None ty = None
if_earlier file (Some other) ty = reason_if (nat_lt other file) (EarlierImage ty)

-- a class other than that of the attempt
abbrev pub if_other_class : ℕ → ℕ → Option Why
if_other_class c d = option_map OtherStatics (if_other c (Some d))

-- why an act is refused in the attempt of a class of a file, where it is; `spent` says that as many steps were made as the
-- budget allows
abbrev pub refusal : ℕ → ℕ → Bool → Act → Option Why
refusal c file spent (EnterClass d) = Some (NeedsInit d)
refusal c file spent (WriteStatic d ty other) = or_else (if_earlier file (Some other) ty) (if_other_class c d)
refusal c file spent (WriteObject other ty) = if_earlier file other ty
refusal c file spent (ReadStatic d) = if_other_class c d
refusal c file spent (CallImpure m) = Some (NativeCall m)
refusal c file spent Turn = reason_if spent Steps

-- the first refusal of some acts
abbrev pub first_refusal : (Act → Option Why) → List Act → Option Why
first_refusal refuses [] = None
first_refusal refuses (a ∷ others) = or_else (refuses a) (first_refusal refuses others)

-- the reasons that are no act: what the step takes of bytes and words, and a throwable that reaches the record
abbrev pub reason_beyond : Program → ℕ → ℕ → State → List Deed → Option Why
reason_beyond p c file s deeds = first_why (
    reason_if (too_many_bytes p c file s deeds) Heap
    ∷ reason_if (too_many_words s deeds) Frames
    ∷ option_map Uncaught (uncaught_type p c s deeds)
    ∷ [])

-- the reason of a step is the first act of it that is refused, and where none is, what is beyond acts
abbrev pub ReasonIsFirstRefusal : Type 0
ReasonIsFirstRefusal = (p : Program) (c file : ℕ) (spent : Bool) (s : State) (deeds : List Deed) → deeds_of p s ≡ Some deeds
    → reason p c file spent s deeds ≡ or_else (first_refusal (refusal c file spent) (acts p s deeds)) (reason_beyond p c file s deeds)
