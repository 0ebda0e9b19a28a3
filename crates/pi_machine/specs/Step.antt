-- One step of the machine: its deeds are decided by the state alone, and then done. What one step is, is our own.
use Rattle.std.specs.Prelude.{ℕ, zero, suc, List, [], ◌∷◌, Option, Some, None, Bool, false, ◌||◌, is_some, is_none, option_map, option_and_then}
use Rattle.pi_model.specs.declared.describe.Line.{Line}
use Rattle.pi_model.specs.Program.{Program}
use Rattle.pi_model.specs.Values.{Ref}
use Rattle.pi_model.specs.Search.{class_at}
use Rattle.pi_machine.specs.State.{State, Frame, Entry, Call, Record}
use Rattle.pi_machine.specs.Deeds.{do_all}
use Rattle.pi_machine.specs.Operands.{Deeds}
use Rattle.pi_machine.specs.Codes.{line_of}
use Rattle.pi_machine.specs.Throwing.{throwable_move}
use Rattle.pi_machine.specs.Rows.{row}
use Rattle.pi_machine.specs.Initialisation.{need_of, by_need, start_move, record_move}

-- the row of the instruction at which a frame stands
abbrev pub instruction_move : Program → State → Frame → Option Line → Deeds
instruction_move p s f None = None
instruction_move p s f (Some l) = row p s f l.units l.insn

-- the move of a state in which nothing is needed: a pending throwable first, else by the top of the stack
abbrev pub move_of : Program → State → Option Ref → List Entry → Deeds
move_of p s (Some t) stack = throwable_move p s t stack
move_of p s None [] = start_move p s s.started s.main
move_of p s None (Call f ∷ below) = instruction_move p s f (line_of p f)
move_of p s None (Record c phase ∷ below) = record_move p c phase (class_at p c)

-- the deeds of the next step; none where the machine is stuck or ended
abbrev pub deeds_of : Program → State → Deeds
deeds_of p s = by_need p s (need_of p s s.pending s.stack) (move_of p s s.pending s.stack)

-- the state after the next step
abbrev pub step : Program → State → Option State
step p s = option_map (λ deeds. do_all deeds s) (deeds_of p s)

-- nothing is left to do: the stack is empty, and a throwable is pending, or main's frame was pushed, or there is no main
abbrev pub rests_by : Option Ref → List Entry → Bool → Option ℕ → Bool
rests_by pending (e ∷ below) started main = false
rests_by pending [] started main = is_some pending || (started || is_none main)

-- A state is at rest where nothing is left to do. So is one that is ended, and so is one without main and with an empty
-- stack, as before and after the initialisation of a class ahead of time.
abbrev pub at_rest : State → Bool
at_rest s = rests_by s.pending s.stack s.started s.main

-- the state after that many steps, where the machine makes them
abbrev pub after_steps : Program → ℕ → State → Option State
after_steps p zero s = Some s
after_steps p (suc n) s = option_and_then (after_steps p n) (step p s)
