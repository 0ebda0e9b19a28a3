-- The statement of the top call.
use Rattle.std.specs.Prelude.{◌≡◌, ℕ, ◌↔◌, List, [], ◌∷◌, None, Bool, true, false, IsTrue, IsSomeAnd, ◌⊎◌, ◌||◌, ◌&&◌}
use Rattle.pi_base.specs.declared.status.Status.{Status}
use Rattle.pi_base.specs.declared.status.Status.TheVariants.{Usage, ReadFault, WriteFault, OutFault, Memory}
use Rattle.pi_base.specs.Views.{StoreView, SinkView}
use Rattle.pi_base.specs.Outside.{Keeps, Told, Took}
use Rattle.pi_base.specs.Writes.{Write, MakesAll}
use Rattle.pi_duty.specs.Command.{Command, Reads, command_of, writes_nothing}
use Rattle.pi_duty.specs.Lines.{memory_line, out_fault_line, read_fault_line}
use Rattle.pi_duty.specs.Duty.{Owed, Owes}
use Rattle.pi_top.specs.Statuses.{ends_run, is_owed, is_status, may_come}
use Rattle.pi_top.specs.Answer.{Answered, Cuts, OwesOver, Raised, RefusedWrite, Wrote}
use Rattle.pi_top.specs.SmallCall.{IsComplete}

-- there is something to write
abbrev pub some_write : List Write → Bool
some_write [] = false
some_write (w ∷ ws) = true

-- what may stop a command: a read fault, want of memory, a fault of the output in a run, a refused write where one is owed
abbrev pub may_stop : Owed → Status → Bool
may_stop o status =
    is_status status ReadFault || (is_status status Memory || ((is_status status OutFault && ends_run o.status) || (is_status status WriteFault && some_write o.writes)))

-- the status is the one that is owed, unless the command was stopped
abbrev pub is_as_owed : Owed → Status → Bool
is_as_owed o status = may_stop o status || is_status status o.status

-- so it is of whatever the words owe over the contents of a store that shows them
abbrev pub IsExact : StoreView → List (List ℕ) → Status → Type 0
IsExact store words status = IsTrue store.shown → (o : Owed) → Owes words store.contents o → IsTrue (is_as_owed o status)

-- the line of a read fault was told of a name that the command reads
abbrev pub TellsReadFault : Command → SinkView → SinkView → Type 0
TellsReadFault command err err_now = (name : List ℕ) × (Reads command name × Told (read_fault_line name) err err_now)

-- what is done for words over a store and two sinks, by the status that is answered
pub record Obeys (words : List (List ℕ)) (status : Status) (store store_now : StoreView) (out out_now err err_now : SinkView) : Type 0 where
  -- status, writes, output and lines are what the words owe
  pub owed : IsTrue (is_owed status) → Answered (OwesOver store (command_of words)) status
      (λ writes. MakesAll writes store store_now) (λ output. Took output out out_now) (λ lines. Told lines err err_now)
  pub usage : (status ≡ Usage) ↔ (command_of words ≡ None)
  pub comes : IsTrue (may_come status)
  pub exact : IsExact store words status
  pub complete : IsComplete store store_now out out_now (command_of words) status
  -- where the duty is not met
  pub out_fault : status ≡ OutFault → Cuts (OwesOver store (command_of words)) out out_now × Told out_fault_line err err_now
  pub read_fault : status ≡ ReadFault → (out_now ≡ out) × IsSomeAnd (command_of words) (λ command. TellsReadFault command err err_now)
  pub write_fault : status ≡ WriteFault → RefusedWrite (OwesOver store (command_of words)) store store_now (λ line. Told line err err_now)
  pub memory : status ≡ Memory → (out_now ≡ out) × Told memory_line err err_now
  -- the counts, and the contents
  pub raised : Raised status store store_now out out_now
  pub wrote : Keeps store store_now ⊎ Wrote (OwesOver store (command_of words)) store store_now
  pub only_reads : IsTrue (writes_nothing (command_of words)) → Keeps store store_now
