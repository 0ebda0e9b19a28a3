-- The plain run of a small file as a function on lists: the moves of its class, and its codes line by line.
use Rattle.std.specs.Prelude.{◌≡◌, ℕ, zero, suc, ◌+◌, ◌-◌, ◌<◌, ◌==◌, List, [], ◌++◌, length, slice_get, replicate, Option, Some, None, Bool, true, false, if◌then◌else◌, IsSome}
use Rattle.std.specs.List.{list_all}
use Rattle.pi_model.specs.declared.describe.ClassDesc.{ClassDesc}
use Rattle.pi_model.specs.declared.describe.Code.{Code}
use Rattle.pi_model.specs.declared.describe.Line.{Line}
use Rattle.pi_model.specs.declared.insn.Insn.{Insn}
use Rattle.pi_model.specs.declared.insn.Insn.TheVariants.{ReturnVoid}
use Rattle.pi_duty.specs.Small.{line_fits, ends_in_return}
use Rattle.pi_machine.specs.Ends.{Finish, End, Returned, StepLimit}
use Rattle.pi_top.specs.declared.plain.place.Stage.{Stage}
use Rattle.pi_top.specs.declared.plain.place.Stage.TheVariants.{Untouched, Entered, Valued, Initialising, Finishing, Ready, Running, Over}
use Rattle.pi_top.specs.Places.{Registers}
use Rattle.pi_top.specs.Row.{Effect, effect_of}

-- the class and its codes
pub record View : Type 0 where
  pub class : ClassDesc
  pub clinit : Option Code
  pub main : Code

-- the state of the run
pub record Plain : Type 0 where
  pub stage : Stage
  pub clinit : Registers
  pub main : Registers
  pub statics : List ℕ

-- the instruction at a place of a code
abbrev pub insn_or_return : Option Line → Insn
insn_or_return None = ReturnVoid
insn_or_return (Some l) = l.insn

abbrev pub insn_of : Code → ℕ → Insn
insn_of code line = insn_or_return (slice_get code.insns line)

-- what the next instruction of a frame does
abbrev pub effect_at : ClassDesc → Code → Registers → List ℕ → Effect
effect_at d code f statics = effect_of d (insn_of code f.line) f.words statics

-- the frame after it: at the next place, unless it returned
abbrev pub line_after : Bool → ℕ → ℕ
line_after true line = line
line_after false line = line + 1

abbrev pub frame_after : Effect → Registers → Registers
frame_after e f = record { line = line_after e.returns f.line; words = e.registers }

-- a frame that was not entered, of so many words
abbrev pub blank : ℕ → Registers
blank n = record { line = 0; words = replicate n 0 }

-- how many words of registers the initialiser has
abbrev pub clinit_words : Option Code → ℕ
clinit_words None = 0
clinit_words (Some code) = code.regs

-- a state and what was printed on the way to it
pub record Stepped : Type 0 where
  pub state : Plain
  pub printed : List ℕ

abbrev pub at_stage : Stage → Plain → Stepped
at_stage stage s = record { state = record s { stage = stage }; printed = [] }

-- the stage after an instruction
abbrev pub stage_after : Stage → Stage → Bool → Stage
stage_after now next true = next
stage_after now next false = now

abbrev pub clinit_step : Plain → Effect → Stepped
clinit_step s e = record {
  state = record {
    stage = stage_after Initialising Finishing e.returns;
    clinit = frame_after e s.clinit;
    main = s.main;
    statics = e.statics;
  };
  printed = e.printed;
}

abbrev pub main_step : Plain → Effect → Stepped
main_step s e = record {
  state = record {
    stage = stage_after Running Over e.returns;
    clinit = s.clinit;
    main = frame_after e s.main;
    statics = e.statics;
  };
  printed = e.printed;
}

-- the initialiser is called, if there is one
abbrev pub stage_after_values : Option Code → Stage
stage_after_values None = Ready
stage_after_values (Some code) = Initialising

abbrev pub clinit_move : ClassDesc → Option Code → Plain → Stepped
clinit_move d None s = at_stage Finishing s
clinit_move d (Some code) s = clinit_step s (effect_at d code s.clinit s.statics)

-- one step of the run
abbrev pub plain_move : View → Plain → Stage → Stepped
plain_move v s Untouched = at_stage Entered s
plain_move v s Entered = at_stage Valued s
plain_move v s Valued = at_stage (stage_after_values v.clinit) s
plain_move v s Initialising = clinit_move v.class v.clinit s
plain_move v s Finishing = at_stage Ready s
plain_move v s Ready = at_stage Running s
plain_move v s Running = main_step s (effect_at v.class v.main s.main s.statics)
plain_move v s Over = at_stage Over s

abbrev pub plain_step : View → Plain → Stepped
plain_step v s = plain_move v s s.stage

-- the run is over
abbrev pub is_over : Stage → Bool
is_over Over = true
is_over Untouched = false
is_over Entered = false
is_over Valued = false
is_over Initialising = false
is_over Finishing = false
is_over Ready = false
is_over Running = false

abbrev pub finish_of : End → List ℕ → ℕ → Finish
finish_of end output made = record { end = end; output = output; steps = made }

-- how the run ends from a state, with a limit on steps, so many steps made and so much printed before, if fewer than
-- that many steps lead there
abbrev pub plain_by : ℕ → View → ℕ → Plain → ℕ → List ℕ → Option Finish
plain_by zero v limit s made out = None
plain_by (suc n) v limit s made out =
    if is_over s.stage then Some (finish_of Returned out made) else
    if made == limit then Some (finish_of StepLimit out made) else
    plain_by n v limit (plain_step v s).state (made + 1) (out ++ (plain_step v s).printed)

pub record PlainEnds (v : View) (limit : ℕ) (s : Plain) (made : ℕ) (out : List ℕ) (f : Finish) : Type 0 where
  pub count : ℕ
  pub ends : plain_by count v limit s made out ≡ Some f

-- a frame that its code can run on: it stands at an instruction, and each fits its registers
pub record FrameFits (d : ClassDesc) (code : Code) (f : Registers) : Type 0 where
  pub stands : f.line < length code.insns
  pub fits : list_all (line_fits d (length f.words)) code.insns ≡ true
  pub ends : ends_in_return code.insns ≡ true

abbrev pub ClinitFits : ClassDesc → Option Code → Registers → Type 0
ClinitFits d None f = Unit {0}
ClinitFits d (Some code) f = FrameFits d code f

-- a state that the run can go on from
pub record Fits (v : View) (s : Plain) : Type 0 where
  pub statics : length s.statics ≡ length v.class.fields
  pub clinit : ClinitFits v.class v.clinit s.clinit
  pub main : FrameFits v.class v.main s.main
  pub initialises : s.stage ≡ Initialising → IsSome v.clinit

-- the state in which nothing has run
abbrev pub plain_start : View → Plain
plain_start v = record {
  stage = Untouched;
  clinit = blank (clinit_words v.clinit);
  main = blank (v.main.regs - 1);
  statics = replicate (length v.class.fields) 0;
}
