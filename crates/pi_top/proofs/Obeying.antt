-- What was answered and told obeys the words.
use Rattle.std.proofs.Common.{◌≡◌, ◌⊎◌, ◌↔◌, ℕ, List, Option, Some, None, IsTrue, IsSomeAnd, refl, sym, subst}
use Rattle.pi_base.specs.declared.status.Status.{Status}
use Rattle.pi_base.specs.declared.status.Status.TheVariants as statuses
use Rattle.pi_base.specs.Views.{StoreView, SinkView}
use Rattle.pi_base.specs.Outside.{Keeps, Told, Took}
use Rattle.pi_base.specs.Writes.{Write, MakesAll}
use Rattle.pi_duty.specs.Command.{Command, Reads, command_of, writes_nothing}
use Rattle.pi_duty.specs.Lines.{memory_line, out_fault_line, read_fault_line}
use Rattle.pi_duty.specs.Duty.{OwesOnce}
use Rattle.pi_duty.specs.Shape.{SmallHasClass}
use Rattle.pi_top.specs.declared.plain.run.RunEnd.TheVariants.{Returned, Limited, OutFault}
use Rattle.pi_top.specs.declared.outcome.Outcome.{Outcome}
use Rattle.pi_top.specs.declared.outcome.Outcome.TheVariants.{Usage, Missing, ReadFault, TooLarge, Memory, Broken, NotBuilt, Ran}
use Rattle.pi_top.specs.Statuses.{is_owed, may_come}
use Rattle.pi_top.specs.Answer.{Answered, Cuts, OwesOver, Raised, RefusedWrite, Wrote}
use Rattle.pi_top.specs.Obeys.{Obeys, TellsReadFault}
use Rattle.pi_top.specs.Outcome.{Gives, OutcomeGives, status_of, lines_of}
use Rattle.pi_top.proofs.Complete.{complete_of}
use Rattle.pi_top.proofs.Exact.{exact_of}

comes : (o : Outcome) → IsTrue (may_come (status_of o))
comes Usage = refl
comes (Missing name) = refl
comes (ReadFault name) = refl
comes (TooLarge name) = refl
comes Memory = refl
comes (Broken name rule at) = refl
comes NotBuilt = refl
comes (Ran (Returned steps)) = refl
comes (Ran (Limited steps)) = refl
comes (Ran OutFault) = refl

module _ (store store_now : StoreView) (command : Option Command) (out out_now err err_now : SinkView) where
  abbrev Made : List Write → Type 0
  Made writes = MakesAll writes store store_now

  abbrev Meets : Status → Type 0
  Meets status = Answered (OwesOver store command) status Made (λ output. Took output out out_now) (λ lines. Told lines err err_now)

  meets : (status : Status) (lines : List ℕ) → Told lines err err_now → Gives (OwesOver store command) status Made lines out out_now → Meets status
  meets status lines told g = record {
    owed = g.owed;
    due = g.due;
    has_status = g.has_status;
    made = g.made;
    printed = g.printed;
    told = subst (λ (ls : List ℕ). Told ls err err_now) (sym g.told) told;
  }

  -- an answer that is no fault and no want of memory is what is owed, and its lines were told
  owed_of : (o : Outcome) → OutcomeGives store store_now command o out out_now → Told (lines_of o) err err_now → IsTrue (is_owed (status_of o)) → Meets (status_of o)
  owed_of Usage g told due = meets _ _ told g
  owed_of (Missing name) g told due = meets _ _ told g
  owed_of (ReadFault name) g told due = absurd (cc)
  owed_of (TooLarge name) g told due = meets _ _ told g
  owed_of Memory g told due = absurd (cc)
  owed_of (Broken name rule at) g told due = meets _ _ told g
  owed_of NotBuilt g told due = meets _ _ told g
  owed_of (Ran (Returned steps)) g told due = meets _ _ told g
  owed_of (Ran (Limited steps)) g told due = meets _ _ told g
  owed_of (Ran OutFault) g told due = absurd (cc)

  out_fault_of : (o : Outcome) → OutcomeGives store store_now command o out out_now → Told (lines_of o) err err_now → status_of o ≡ statuses.OutFault
      → Cuts (OwesOver store command) out out_now × Told out_fault_line err err_now
  out_fault_of Usage g told is = absurd (cc)
  out_fault_of (Missing name) g told is = absurd (cc)
  out_fault_of (ReadFault name) g told is = absurd (cc)
  out_fault_of (TooLarge name) g told is = absurd (cc)
  out_fault_of Memory g told is = absurd (cc)
  out_fault_of (Broken name rule at) g told is = absurd (cc)
  out_fault_of NotBuilt g told is = absurd (cc)
  out_fault_of (Ran (Returned steps)) g told is = absurd (cc)
  out_fault_of (Ran (Limited steps)) g told is = absurd (cc)
  out_fault_of (Ran OutFault) g told is = (g, told)

  named : (c : Option Command) (name : List ℕ) → IsSomeAnd c (λ k. Reads k name) → Told (read_fault_line name) err err_now → IsSomeAnd c (λ k. TellsReadFault k err err_now)
  named None name h told = absurd h
  named (Some k) name h told = (name, (h, told))

  read_fault_of : (o : Outcome) → OutcomeGives store store_now command o out out_now → Told (lines_of o) err err_now → status_of o ≡ statuses.ReadFault
      → (out_now ≡ out) × IsSomeAnd command (λ k. TellsReadFault k err err_now)
  read_fault_of Usage g told is = absurd (cc)
  read_fault_of (Missing name) g told is = absurd (cc)
  read_fault_of (ReadFault name) g told is = (g.0, named command name.now g.1 told)
  read_fault_of (TooLarge name) g told is = absurd (cc)
  read_fault_of Memory g told is = absurd (cc)
  read_fault_of (Broken name rule at) g told is = absurd (cc)
  read_fault_of NotBuilt g told is = absurd (cc)
  read_fault_of (Ran (Returned steps)) g told is = absurd (cc)
  read_fault_of (Ran (Limited steps)) g told is = absurd (cc)
  read_fault_of (Ran OutFault) g told is = absurd (cc)

  write_fault_of : (o : Outcome) → status_of o ≡ statuses.WriteFault → RefusedWrite (OwesOver store command) store store_now (λ line. Told line err err_now)
  write_fault_of Usage is = absurd (cc)
  write_fault_of (Missing name) is = absurd (cc)
  write_fault_of (ReadFault name) is = absurd (cc)
  write_fault_of (TooLarge name) is = absurd (cc)
  write_fault_of Memory is = absurd (cc)
  write_fault_of (Broken name rule at) is = absurd (cc)
  write_fault_of NotBuilt is = absurd (cc)
  write_fault_of (Ran (Returned steps)) is = absurd (cc)
  write_fault_of (Ran (Limited steps)) is = absurd (cc)
  write_fault_of (Ran OutFault) is = absurd (cc)

  memory_of : (o : Outcome) → OutcomeGives store store_now command o out out_now → Told (lines_of o) err err_now → status_of o ≡ statuses.Memory
      → (out_now ≡ out) × Told memory_line err err_now
  memory_of Usage g told is = absurd (cc)
  memory_of (Missing name) g told is = absurd (cc)
  memory_of (ReadFault name) g told is = absurd (cc)
  memory_of (TooLarge name) g told is = absurd (cc)
  memory_of Memory g told is = (g, told)
  memory_of (Broken name rule at) g told is = absurd (cc)
  memory_of NotBuilt g told is = absurd (cc)
  memory_of (Ran (Returned steps)) g told is = absurd (cc)
  memory_of (Ran (Limited steps)) g told is = absurd (cc)
  memory_of (Ran OutFault) g told is = absurd (cc)

module _ (once : OwesOnce) (law : SmallHasClass) (words : List (List ℕ)) (store store_now : StoreView) (out out_now err err_now : SinkView) where
  -- an outcome that says what is owed, and was told, obeys the words
  pub obeys_of : (o : Outcome) (status : Status) → status ≡ status_of o → OutcomeGives store store_now (command_of words) o out out_now → Told (lines_of o) err err_now
      → ((status_of o ≡ statuses.Usage) ↔ (command_of words ≡ None)) → Raised (status_of o) store store_now out out_now
      → (Keeps store store_now ⊎ Wrote (OwesOver store (command_of words)) store store_now) → (IsTrue (writes_nothing (command_of words)) → Keeps store store_now)
      → Obeys words status store store_now out out_now err err_now
  obeys_of o status is g told usage raised wrote reads = subst (λ (s : Status). Obeys words s store store_now out out_now err err_now) (sym is) (record {
    owed = owed_of store store_now (command_of words) out out_now err err_now o g told;
    usage = usage;
    comes = comes o;
    exact = exact_of once store store_now words out out_now (status_of o) o refl g;
    complete = complete_of law store store_now (command_of words) out out_now o g raised;
    out_fault = out_fault_of store store_now (command_of words) out out_now err err_now o g told;
    read_fault = read_fault_of store store_now (command_of words) out out_now err err_now o g told;
    write_fault = write_fault_of store store_now (command_of words) out out_now err err_now o;
    memory = memory_of store store_now (command_of words) out out_now err err_now o g told;
    raised = raised;
    wrote = wrote;
    only_reads = reads;
  })
