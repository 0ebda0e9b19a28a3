-- How the top call ended: its status and its lines, and what they say of what the words owe.
use Rattle.std.specs.Prelude.{◌≡◌, ℕ, List, [], ◌++◌, Option, Result, Ok, Err, IsSomeAnd}
use Rattle.pi_base.specs.declared.status.Status.{Status}
use Rattle.pi_base.specs.declared.status.Status.TheVariants as statuses
use Rattle.pi_base.specs.Views.{StoreView, SinkView}
use Rattle.pi_base.specs.Outside.{Took}
use Rattle.pi_base.specs.Writes.{Write, MakesAll}
use Rattle.pi_duty.specs.Command.{Command, Reads}
use Rattle.pi_duty.specs.Lines.{usage_line, missing_line, read_fault_line, dex_line, too_large_line, memory_line, not_built_line, out_fault_line, step_limit_line, made_line}
use Rattle.pi_duty.specs.Duty.{Owed}
use Rattle.pi_top.specs.declared.plain.run.RunEnd.{RunEnd}
use Rattle.pi_top.specs.declared.plain.run.RunEnd.TheVariants.{Returned, Limited, OutFault}
use Rattle.pi_top.specs.declared.file.fault.FileFault.{FileFault}
use Rattle.pi_top.specs.declared.file.fault.FileFault.TheVariants as fault
use Rattle.pi_top.specs.declared.outcome.Outcome.{Outcome}
use Rattle.pi_top.specs.declared.outcome.Outcome.TheVariants.{Usage, Missing, ReadFault, TooLarge, Memory, Broken, NotBuilt, Ran}
use Rattle.pi_top.specs.Answer.{OwesOver, Answered, Cuts}

abbrev pub status_of_end : RunEnd → Status
status_of_end (Returned steps) = statuses.Done
status_of_end (Limited steps) = statuses.Steps
status_of_end OutFault = statuses.OutFault

abbrev pub lines_of_end : RunEnd → List ℕ
lines_of_end (Returned steps) = made_line steps
lines_of_end (Limited steps) = step_limit_line ++ made_line steps
lines_of_end OutFault = out_fault_line

abbrev pub status_of : Outcome → Status
status_of Usage = statuses.Usage
status_of (Missing name) = statuses.Missing
status_of (ReadFault name) = statuses.ReadFault
status_of (TooLarge name) = statuses.TooLarge
status_of Memory = statuses.Memory
status_of (Broken name rule at) = statuses.Dex
status_of NotBuilt = statuses.NotBuilt
status_of (Ran end) = status_of_end end

abbrev pub lines_of : Outcome → List ℕ
lines_of Usage = usage_line
lines_of (Missing name) = missing_line name.now
lines_of (ReadFault name) = read_fault_line name.now
lines_of (TooLarge name) = too_large_line name.now
lines_of Memory = memory_line
lines_of (Broken name rule at) = dex_line name.now rule at
lines_of NotBuilt = not_built_line
lines_of (Ran end) = lines_of_end end

-- something that is owed has this status and these lines, its writes were made so, and its output was taken whole
abbrev pub Gives : (Owed → Type 0) → Status → (List Write → Type 0) → List ℕ → SinkView → SinkView → Type 0
Gives Owing status Made lines before now = Answered Owing status Made (λ output. Took output before now) (λ told. told ≡ lines)

-- what the end of a run says of what is owed
abbrev pub EndGives : (Owed → Type 0) → (List Write → Type 0) → RunEnd → SinkView → SinkView → Type 0
EndGives Owing Made (Returned steps) before now = Gives Owing statuses.Done Made (made_line steps) before now
EndGives Owing Made (Limited steps) before now = Gives Owing statuses.Steps Made (step_limit_line ++ made_line steps) before now
EndGives Owing Made OutFault before now = Cuts Owing before now

-- there is nothing to write
abbrev pub NoWrite : List Write → Type 0
NoWrite writes = writes ≡ []

-- the same of a file of that name that was read
abbrev pub FileGives : List ℕ → (Owed → Type 0) → (List Write → Type 0) → Result RunEnd FileFault → SinkView → SinkView → Type 0
FileGives name Owing Made (Ok end) before now = EndGives Owing Made end before now
FileGives name Owing Made (Err (fault.Broken rule at)) before now = Gives Owing statuses.Dex Made (dex_line name rule at) before now
FileGives name Owing Made (Err fault.NotBuilt) before now = Gives Owing statuses.NotBuilt Made not_built_line before now
FileGives name Owing Made (Err fault.OutOfMemory) before now = now ≡ before

-- the same of a command over a store
module _ (command : Option Command) (Owing : Owed → Type 0) (Made : List Write → Type 0) (before now : SinkView) where
  abbrev pub CommandGives : Outcome → Type 0
  CommandGives Usage = Gives Owing statuses.Usage Made usage_line before now
  CommandGives (Missing name) = Gives Owing statuses.Missing Made (missing_line name.now) before now
  CommandGives (ReadFault name) = (now ≡ before) × IsSomeAnd command (λ c. Reads c name.now)
  CommandGives (TooLarge name) = Gives Owing statuses.TooLarge Made (too_large_line name.now) before now
  CommandGives Memory = now ≡ before
  CommandGives (Broken name rule at) = Gives Owing statuses.Dex Made (dex_line name.now rule at) before now
  CommandGives NotBuilt = Gives Owing statuses.NotBuilt Made not_built_line before now
  CommandGives (Ran end) = EndGives Owing Made end before now

-- what an outcome says of what the words owe over a store
abbrev pub OutcomeGives : StoreView → StoreView → Option Command → Outcome → SinkView → SinkView → Type 0
OutcomeGives store store_now command o before now = CommandGives command (OwesOver store command) (λ writes. MakesAll writes store store_now) before now o
