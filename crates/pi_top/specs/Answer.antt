-- What was answered, written, printed and told of what is owed, and which counts rose.
use Rattle.std.specs.Prelude.{◌≡◌, ℕ, List, Option, IsTrue}
use Rattle.pi_base.specs.declared.status.Status.{Status}
use Rattle.pi_base.specs.declared.status.Status.TheVariants.{OutFault}
use Rattle.pi_base.specs.Views.{Contents, StoreView, SinkView}
use Rattle.pi_base.specs.Outside.{BrokeOff, Counts, Raises}
use Rattle.pi_base.specs.Writes.{Write, MakesFront, StopsAt}
use Rattle.pi_duty.specs.Command.{Command}
use Rattle.pi_duty.specs.Lines.{write_fault_line}
use Rattle.pi_duty.specs.Duty.{Owed, WordsOwe}
use Rattle.pi_top.specs.Statuses.{ends_run, is_status, status_causes}

-- so words owe over some store; where the store shows its contents, they are these
pub record OwesOver (store : StoreView) (command : Option Command) (o : Owed) : Type 0 where
  pub contents : Contents
  pub as_shown : IsTrue store.shown → contents ≡ store.contents
  pub owes : WordsOwe command contents o

-- something that is owed has this status, and so its writes were made, its output was taken and its lines were told
pub record Answered (Owing : Owed → Type 0) (status : Status) (Made : List Write → Type 0) (Prints Tells : List ℕ → Type 0) : Type 0 where
  pub owed : Owed
  pub due : Owing owed
  pub has_status : owed.status ≡ status
  pub made : Made owed.writes
  pub printed : Prints owed.output
  pub told : Tells owed.lines

-- a run is owed, and the sink broke off in its output
pub record Cuts (Owing : Owed → Type 0) (before now : SinkView) : Type 0 where
  pub owed : Owed
  pub due : Owing owed
  pub of_run : IsTrue (ends_run owed.status)
  pub begun : BrokeOff owed.output before now

-- a front of the writes of something that is owed was made
pub record Wrote (Owing : Owed → Type 0) (before now : StoreView) : Type 0 where
  pub owed : Owed
  pub due : Owing owed
  pub made : MakesFront owed.writes before now

-- the writes of something that is owed were made up to one that was refused, and the line of that one was told so
pub record RefusedWrite (Owing : Owed → Type 0) (before now : StoreView) (Tells : List ℕ → Type 0) : Type 0 where
  pub owed : Owed
  pub due : Owing owed
  pub refused : Write
  pub stops : StopsAt refused owed.writes before now
  pub told : Tells (write_fault_line refused.name)

-- what a command raised: each count rose exactly where the status says so, and else stands
pub record Raised (status : Status) (store store_now : StoreView) (out out_now : SinkView) : Type 0 where
  pub of_store : Raises (status_causes status) store store_now
  pub of_out : Counts (is_status status OutFault) out.faults out_now.faults
