-- Calls of small files, which are run.
use Rattle.std.specs.Prelude.{◌≡◌, ℕ, ◌≤◌, List, [], length, Option, Some, None, true, IsTrue, ◌⊎◌, ◌||◌}
use Rattle.pi_base.specs.declared.status.Status.{Status}
use Rattle.pi_base.specs.declared.status.Status.TheVariants.{Done, Steps, Memory}
use Rattle.pi_base.specs.Views.{StoreView, SinkView}
use Rattle.pi_base.specs.Outside.{Rose}
use Rattle.pi_model.specs.Program.{Program}
use Rattle.pi_format.specs.Core.{core_program}
use Rattle.pi_format.specs.Rules.{broken_rule}
use Rattle.pi_format.specs.Says.{with_said}
use Rattle.pi_machine.specs.Start.{main_of}
use Rattle.pi_machine.specs.Ends.{Finish, EndsWith}
use Rattle.pi_duty.specs.Small.{is_small}
use Rattle.pi_duty.specs.Words.{LazyWords}
use Rattle.pi_duty.specs.Command.{Command, Lazy}
use Rattle.pi_bytes.specs.Numbers.{most_bytes}
use Rattle.pi_duty.specs.Duty.{end_status, lazy_setting}
use Rattle.pi_top.specs.Statuses.{is_status}

-- the run of a program for the main class of a descriptor ends so, under the limits of a lazy run
pub record RunEnds (p : Program) (main : List ℕ) (steps : ℕ) (f : Finish) : Type 0 where
  pub method : ℕ
  pub found : main_of p main ≡ Some method
  pub ends : EndsWith p (lazy_setting steps) method [] f

-- the words are a lazy run's, over a store that shows the file that they name, which is short enough to be read and
-- breaks no rule; the program that it says behind the first file is small for the main class
pub record IsSmallCall (store : StoreView) (command : Option Command) : Type 0 where
  pub shows : IsTrue store.shown
  pub words : LazyWords
  pub valid : command ≡ Some (Lazy words)
  pub file : List ℕ
  pub there : store.contents words.file ≡ Some file
  pub within : length file ≤ most_bytes
  pub kept : broken_rule file ≡ None
  pub program : Program
  pub said : program ≡ with_said core_program file
  pub small : is_small words.main program ≡ true

-- the machine ends the program's run, with a return or at the limit on steps, and the status says which
pub record EndsAsRun (p : Program) (main : List ℕ) (steps : ℕ) (status : Status) : Type 0 where
  pub finish : Finish
  pub run : RunEnds p main steps finish
  pub status_is : status ≡ end_status finish.end
  pub done_or_steps : IsTrue (is_status status Done || is_status status Steps)

-- a small call is run, unless a fault rose or memory was wanting
abbrev pub IsComplete : StoreView → StoreView → SinkView → SinkView → Option Command → Status → Type 0
IsComplete store store_now out out_now command status =
    (call : IsSmallCall store command) → ¬ Rose store.read_faults store_now.read_faults → ¬ Rose out.faults out_now.faults
    → (status ≡ Memory) ⊎ EndsAsRun call.program call.words.main call.words.steps status
