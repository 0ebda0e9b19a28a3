-- What a command owes is one thing at most, since a run has one end at most.
use Rattle.std.proofs.Common.{◌≡◌, ℕ, List, [], Option, Some, None, Bool, true, false, sym, ◌∙◌, ap}
use Rattle.std.specs.Prelude.{nat_lt, length}
use Rattle.pi_model.specs.Program.{Program}
use Rattle.pi_format.specs.Core.{core_program}
use Rattle.pi_format.specs.Rules.{Broken, broken_rule}
use Rattle.pi_format.specs.Says.{with_said}
use Rattle.pi_machine.specs.Start.{main_of}
use Rattle.pi_machine.proofs.RunLaws.{run_end_unique}
use Rattle.pi_duty.specs.Small.{is_small}
use Rattle.pi_base.specs.Views.{Contents}
use Rattle.pi_duty.specs.Words.{LazyWords}
use Rattle.pi_duty.specs.Command.{Command, Lazy, command_of}
use Rattle.pi_bytes.specs.Numbers.{most_bytes}
use Rattle.pi_duty.specs.Duty.{Owed, RunOwes, ProgramOwes, FileOwes, LengthOwes, LazyOwes, CommandOwes, WordsOwe, OwesOnce, owed_of_run, lazy_setting}

run_once : (p : Program) (steps : ℕ) (main : Option ℕ) (a b : Owed) → RunOwes p steps main a → RunOwes p steps main b → a ≡ b
run_once p steps None a b x y = x ∙ sym y
run_once p steps (Some main) a b x y =
    x.1.1 ∙ (ap (owed_of_run p) (run_end_unique p (lazy_setting steps) main [] x.0 y.0 x.1.0 y.1.0) ∙ sym y.1.1)

program_once : (small : Bool) (l : LazyWords) (p : Program) (a b : Owed) → ProgramOwes small l p a → ProgramOwes small l p b → a ≡ b
program_once false l p a b x y = x ∙ sym y
program_once true l p a b x y = run_once p l.steps (main_of p l.main) a b x y

file_once : (l : LazyWords) (broken : Option Broken) (p : Program) (a b : Owed) → FileOwes l broken p a → FileOwes l broken p b → a ≡ b
file_once l None p a b x y = program_once (is_small l.main p) l p a b x y
file_once l (Some broken) p a b x y = x ∙ sym y

length_once : (long : Bool) (l : LazyWords) (file : List ℕ) (a b : Owed) → LengthOwes long l file a → LengthOwes long l file b → a ≡ b
length_once true l file a b x y = x ∙ sym y
length_once false l file a b x y = file_once l (broken_rule file) (with_said core_program file) a b x y

lazy_once : (l : LazyWords) (file : Option (List ℕ)) (a b : Owed) → LazyOwes l file a → LazyOwes l file b → a ≡ b
lazy_once l None a b x y = x ∙ sym y
lazy_once l (Some file) a b x y = length_once (nat_lt most_bytes (length file)) l file a b x y

command_once : (command : Command) (contents : Contents) (a b : Owed) → CommandOwes command contents a → CommandOwes command contents b → a ≡ b
command_once (Lazy l) contents a b x y = lazy_once l (contents l.file) a b x y

words_once : (command : Option Command) (contents : Contents) (a b : Owed) → WordsOwe command contents a → WordsOwe command contents b → a ≡ b
words_once None contents a b x y = x ∙ sym y
words_once (Some command) contents a b x y = command_once command contents a b x y

pub owes_one : OwesOnce
owes_one = λ words contents a b x y. words_once (command_of words) contents a b x y
