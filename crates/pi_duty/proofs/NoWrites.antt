-- A command that only reads owes no write.
use Rattle.std.proofs.Common.{◌≡◌, ℕ, List, [], Option, Some, None, Bool, true, false, ap}
use Rattle.std.specs.Prelude.{nat_lt, length}
use Rattle.pi_base.specs.Views.{Contents}
use Rattle.pi_model.specs.Program.{Program}
use Rattle.pi_format.specs.Core.{core_program}
use Rattle.pi_format.specs.Rules.{Broken, broken_rule}
use Rattle.pi_format.specs.Says.{with_said}
use Rattle.pi_machine.specs.Start.{main_of}
use Rattle.pi_duty.specs.Small.{is_small}
use Rattle.pi_duty.specs.Words.{LazyWords}
use Rattle.pi_duty.specs.Command.{Command, Lazy, only_reads, writes_nothing}
use Rattle.pi_bytes.specs.Numbers.{most_bytes}
use Rattle.pi_duty.specs.Duty.{Owed, RunOwes, ProgramOwes, FileOwes, LengthOwes, LazyOwes, CommandOwes, WordsOwe, ReadersWriteNothing}

run_writes : (p : Program) (steps : ℕ) (main : Option ℕ) (o : Owed) → RunOwes p steps main o → o.writes ≡ []
run_writes p steps None o h = ap (λ (a : Owed). a.writes) h
run_writes p steps (Some main) o h = ap (λ (a : Owed). a.writes) h.1.1

program_writes : (small : Bool) (l : LazyWords) (p : Program) (o : Owed) → ProgramOwes small l p o → o.writes ≡ []
program_writes false l p o h = ap (λ (a : Owed). a.writes) h
program_writes true l p o h = run_writes p l.steps (main_of p l.main) o h

file_writes : (l : LazyWords) (broken : Option Broken) (p : Program) (o : Owed) → FileOwes l broken p o → o.writes ≡ []
file_writes l (Some broken) p o h = ap (λ (a : Owed). a.writes) h
file_writes l None p o h = program_writes (is_small l.main p) l p o h

length_writes : (long : Bool) (l : LazyWords) (file : List ℕ) (o : Owed) → LengthOwes long l file o → o.writes ≡ []
length_writes true l file o h = ap (λ (a : Owed). a.writes) h
length_writes false l file o h = file_writes l (broken_rule file) (with_said core_program file) o h

pub lazy_writes : (l : LazyWords) (found : Option (List ℕ)) (o : Owed) → LazyOwes l found o → o.writes ≡ []
lazy_writes l None o h = ap (λ (a : Owed). a.writes) h
lazy_writes l (Some file) o h = length_writes (nat_lt most_bytes (length file)) l file o h

command_writes : (command : Command) (contents : Contents) (o : Owed) → only_reads command ≡ true → CommandOwes command contents o → o.writes ≡ []
command_writes (Lazy l) contents o reads h = lazy_writes l (contents l.file) o h

pub no_writes : ReadersWriteNothing
no_writes = λ command contents o reads h. elim command as (λ c. writes_nothing c ≡ true → WordsOwe c contents o → o.writes ≡ []) [
  | None ↦ λ _ x. ap (λ (a : Owed). a.writes) x
  | Some c ↦ λ r x. command_writes c contents o r x
] reads h
