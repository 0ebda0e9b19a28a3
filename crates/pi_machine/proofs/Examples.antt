-- Worked runs as data: a program, what its run is given, and how it ends.
use Rattle.std.proofs.Common.{◌≡◌, ℕ, List, [], ◌∷◌, map, Option, Some, None, Bool, true, false, if◌then◌else◌}
use Rattle.std.specs.Fmt.{digits}
use Rattle.std.specs.Prelude.{nat_lt}
use Rattle.pi_model.specs.declared.insn.Insn.{Insn}
use Rattle.pi_model.specs.Dispatch.{is_virtual}
use Rattle.pi_model.specs.Known.{descriptor_of}
use Rattle.pi_model.specs.Program.{Program}
use Rattle.pi_machine.specs.State.{State}
use Rattle.pi_machine.specs.Initialisation.{is_clinit}
use Rattle.pi_machine.specs.Natives.{native_table}
use Rattle.pi_machine.specs.Start.{first_state, with_main, argument_bytes}
use Rattle.pi_machine.specs.Ends.{Setting, Finish, Tally, End, Returned, Uncaught, BeginsAndEnds, EndsOf, run_by, first_tally, no_room}
use Rattle.pi_machine.specs.Sound.{EachOf}
use Rattle.pi_machine.proofs.Sample.{main_program, wide, finish}

-- the run of a program from a state, with a main and its arguments, and the finish that it is to have
pub record Run : Type 0 where
  pub program : Program
  pub given : Setting
  pub from : State
  pub main : ℕ
  pub args : List (List ℕ)
  pub finish : Finish

-- the finish of a run that takes fewer than a hundred turns
unfoldable pub outcome : Run → Option Finish
unfolding descriptor_of native_table is_virtual is_clinit digits
outcome r =
    if nat_lt r.given.heap (argument_bytes r.program r.args) then Some no_room
    else run_by r.program r.given 100 (with_main r.program r.main r.args r.from) (first_tally r.program r.args)

-- each of these runs has its finish
abbrev pub Outcomes : List Run → Type 0
Outcomes runs = map outcome runs ≡ map (λ (r : Run). Some r.finish) runs

-- and so it ends as the definition of an end says
begins_and_ends : (lacks_room : Bool) (p : Program) (given : Setting) (s : State) (t : Tally) (f : Finish)
    → (if lacks_room then Some no_room else run_by p given 100 s t) ≡ Some f → BeginsAndEnds lacks_room p given s t f
begins_and_ends true p given s t f e = cc
begins_and_ends false p given s t f e = (100, e)

pub each_ends : (runs : List Run) → Outcomes runs → EachOf (λ (r : Run). EndsOf r.program r.given r.from r.main r.args r.finish) runs
unfolding outcome
each_ends [] e = tt
each_ends (r ∷ runs) e = (
  begins_and_ends (nat_lt r.given.heap (argument_bytes r.program r.args)) r.program r.given (with_main r.program r.main r.args r.from)
      (first_tally r.program r.args) r.finish cc,
  each_ends runs cc,
)

-- the two of each pair compute to the same
abbrev pub Same : {A : Type 0} → List (A × A) → Type 0
Same {A} pairs = map (λ (x : A × A). x.0) pairs ≡ map (λ (x : A × A). x.1) pairs

-- a run from that state
abbrev pub ends_of : Program → Setting → State → ℕ → List (List ℕ) → Finish → Run
ends_of p given s main args f = record { program = p; given = given; from = s; main = main; args = args; finish = f }

-- a run from the start
abbrev pub ends_with : Program → Setting → ℕ → List (List ℕ) → Finish → Run
ends_with p given main args f = ends_of p given (first_state p) main args f

-- the run of main, the method of number 12, without arguments
abbrev pub ends_by : Program → Setting → End → List ℕ → ℕ → Run
ends_by p given end output steps = ends_with p given 12 [] (finish end output steps)

-- it prints so and returns, after so many steps
abbrev pub prints_in : Program → List ℕ → ℕ → Run
prints_in p output steps = ends_by p wide Returned output steps

-- it ends by a throwable of the class of that number, with that message
abbrev pub dies : Program → ℕ → Option (List ℕ) → List ℕ → ℕ → Run
dies p class message output steps = ends_by p wide (Uncaught class message) output steps

-- it ends by a new throwable of that class, and prints nothing
abbrev pub throws_in : Program → ℕ → ℕ → Run
throws_in p class steps = dies p class None [] steps

-- the same of a main of these instructions; four steps come before its first instruction
abbrev pub prints : List Insn → List ℕ → ℕ → Run
prints insns output steps = prints_in (main_program insns []) output steps

abbrev pub throws : List Insn → ℕ → ℕ → Run
throws insns class steps = throws_in (main_program insns []) class steps
