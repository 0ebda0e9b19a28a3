-- A small file whose words are right is run, to the end that the machine gives it.
use Rattle.std.proofs.Common.{◌≡◌, ◌⊎◌, inl, inr, ℕ, ◌≤◌, ◌||◌, List, [], length, Option, Some, None, Bool, true, false, IsTrue, refl, ap, sym, ◌∙◌, subst, arith}
use Rattle.std.specs.Prelude.{nat_lt}
use Rattle.std.proofs.lemmas.Bool.Decides.{nat_tests}
use Rattle.pi_base.specs.declared.status.Status.{Status}
use Rattle.pi_base.specs.declared.status.Status.TheVariants as statuses
use Rattle.pi_base.specs.Views.{Contents, StoreView, SinkView}
use Rattle.pi_base.specs.Outside.{Rose, Counts}
use Rattle.pi_model.specs.Program.{Program, method_number}
use Rattle.pi_format.specs.Core.{core_program}
use Rattle.pi_format.specs.Rules.{Broken, broken_rule}
use Rattle.pi_format.specs.Says.{with_said}
use Rattle.pi_machine.specs.Start.{main_of}
use Rattle.pi_machine.specs.Ends as ends
use Rattle.pi_machine.specs.Ends.{End, Finish, EndsWith}
use Rattle.pi_duty.specs.Small.{is_small}
use Rattle.pi_duty.specs.Shape.{small_chain, HasSmallClass, SmallHasClass}
use Rattle.pi_duty.specs.Words.{LazyWords}
use Rattle.pi_duty.specs.Command.{Command, Lazy}
use Rattle.pi_bytes.specs.Numbers.{most_bytes}
use Rattle.pi_duty.specs.Duty.{Owed, RunOwes, ProgramOwes, FileOwes, LengthOwes, LazyOwes, WordsOwe, owed_of_run, end_status, lazy_setting}
use Rattle.pi_top.specs.declared.plain.run.RunEnd.TheVariants.{Returned, Limited, OutFault}
use Rattle.pi_top.specs.declared.outcome.Outcome.{Outcome}
use Rattle.pi_top.specs.declared.outcome.Outcome.TheVariants as outcome
use Rattle.pi_top.specs.declared.outcome.Outcome.TheVariants.{Usage, Missing, ReadFault, TooLarge, Memory, NotBuilt, Ran}
use Rattle.pi_top.specs.Statuses.{is_owed, is_status}
use Rattle.pi_top.specs.Answer.{OwesOver, Raised}
use Rattle.pi_top.specs.SmallCall.{RunEnds, IsComplete, IsSmallCall, EndsAsRun}
use Rattle.pi_top.specs.Outcome.{OutcomeGives, status_of}
use Rattle.pi_top.proofs.Lookups.{ClassIs, class_is}
use Rattle.pi_top.proofs.Roles.{RolesOf, roles_of}
use Rattle.pi_top.proofs.MachineStart.{finds_main}

-- a small program has a main method
small_main : (text : List ℕ) (p : Program) → HasSmallClass text p → (method : ℕ) × (main_of p text ≡ Some method)
small_main text p s =
    let is : ClassIs s.class = class_is s.class s.fits in
    let roles : RolesOf s.new s.class s.class.methods = roles_of s.new s.class s.class.methods is.methods in
    let method : ℕ = method_number (small_chain s.new s.class) 2 roles.place in
    (method, subst (λ (q : Program). main_of q text ≡ Some method) (sym s.chain) (finds_main s.new s.class text is s.distinct s.named roles.place roles.found))

-- what the words owe, from the command inward
command_owed : (command : Option Command) (contents : Contents) (l : LazyWords) (o : Owed) → command ≡ Some (Lazy l) → WordsOwe command contents o → LazyOwes l (contents l.file) o
command_owed command contents l o is h = subst (λ (c : Option Command). WordsOwe c contents o) is h

by_length : (long : Bool) (l : LazyWords) (file : List ℕ) (o : Owed) → long ≡ false → LengthOwes long l file o → FileOwes l (broken_rule file) (with_said core_program file) o
by_length true l file o is h = absurd (cc)
by_length false l file o is h = h

by_rule : (l : LazyWords) (broken : Option Broken) (p : Program) (o : Owed) → broken ≡ None → FileOwes l broken p o → ProgramOwes (is_small l.main p) l p o
by_rule l None p o is h = h
by_rule l (Some b) p o is h = absurd (cc)

by_size : (small : Bool) (l : LazyWords) (p : Program) (o : Owed) → small ≡ true → ProgramOwes small l p o → RunOwes p l.steps (main_of p l.main) o
by_size true l p o is h = h
by_size false l p o is h = absurd (cc)

lazy_owed : (l : LazyWords) (found : Option (List ℕ)) (file : List ℕ) (p : Program) (o : Owed) → found ≡ Some file → length file ≤ most_bytes
    → broken_rule file ≡ None → p ≡ with_said core_program file → is_small l.main p ≡ true → LazyOwes l found o → RunOwes p l.steps (main_of p l.main) o
lazy_owed l None file p o is within kept said small h = absurd (cc)
lazy_owed l (Some other) file p o is within kept said small h =
    let same : other ≡ file = cc in
    let due : LazyOwes l (Some file) o = subst (λ (x : List ℕ). LazyOwes l (Some x) o) same h in
    let short : nat_lt most_bytes (length file) ≡ false = grind (arith, nat_tests) in
    let of_file : FileOwes l (broken_rule file) (with_said core_program file) o = by_length _ l file o short due in
    let of_program : FileOwes l (broken_rule file) p o = subst (λ (q : Program). FileOwes l (broken_rule file) q o) (sym said) of_file in
    by_size (is_small l.main p) l p o small (by_rule l (broken_rule file) p o kept of_program)

run_owed : (p : Program) (text : List ℕ) (steps : ℕ) (main : Option ℕ) (method : ℕ) (o : Owed) → main ≡ Some method → main_of p text ≡ Some method → RunOwes p steps main o → (f : Finish) × (RunEnds p text steps f × (o ≡ owed_of_run p f))
run_owed p text steps None method o is found h = absurd (cc)
run_owed p text steps (Some m) method o is found h =
    let same : m ≡ method = cc in
    (h.0, (record { method = method; found = found; ends = subst (λ (k : ℕ). EndsWith p (lazy_setting steps) k [] h.0) same h.1.0 }, h.1.1))

-- of the ends of a run two are answered
done_or_steps : (end : End) → IsTrue (is_owed (end_status end)) → IsTrue (is_status (end_status end) statuses.Done || is_status (end_status end) statuses.Steps)
done_or_steps ends.Returned h = refl
done_or_steps (ends.Uncaught c message) h = absurd (cc)
done_or_steps ends.StepLimit h = refl
done_or_steps ends.HeapLimit h = absurd (cc)
done_or_steps ends.FrameLimit h = absurd (cc)

module _ (law : SmallHasClass) (store store_now : StoreView) (command : Option Command) (call : IsSmallCall store command) where
  abbrev Runs : Status → Type 0
  Runs status = EndsAsRun call.program call.words.main call.words.steps status

  -- the program of a small call has one class, and so a main method
  has_class : HasSmallClass call.words.main call.program
  has_class =
      let small : is_small call.words.main (with_said core_program call.file) ≡ true =
      subst (λ (q : Program). is_small call.words.main q ≡ true) call.said call.small in
      subst (HasSmallClass call.words.main) (sym call.said) (law call.words.main call.file call.kept call.within small)

  -- what a small call owes is the end of a run
  owed_run : (o : Owed) → OwesOver store command o → (f : Finish) × (RunEnds call.program call.words.main call.words.steps f × (o ≡ owed_of_run call.program f))
  owed_run o due =
      let over : WordsOwe command store.contents o = subst (λ (c : Contents). WordsOwe command c o) (due.as_shown call.shows) due.owes in
      let method : (m : ℕ) × (main_of call.program call.words.main ≡ Some m) = small_main call.words.main call.program has_class in
      let run : RunOwes call.program call.words.steps (main_of call.program call.words.main) o =
      lazy_owed call.words (store.contents call.words.file) call.file call.program o call.there call.within call.kept call.said call.small
      (command_owed command store.contents call.words o call.valid over) in
      run_owed call.program call.words.main call.words.steps (main_of call.program call.words.main) method.0 o method.1 method.1 run

  ends_as : (status : Status) (o : Owed) → OwesOver store command o → o.status ≡ status → IsTrue (is_owed status) → Runs status
  ends_as status o due has owed =
      let r : (f : Finish) × (RunEnds call.program call.words.main call.words.steps f × (o ≡ owed_of_run call.program f)) = owed_run o due in
      let same : status ≡ end_status r.0.end = sym has ∙ ap (λ (x : Owed). x.status) r.1.1 in
      record {
        finish = r.0;
        run = r.1.0;
        status_is = same;
        done_or_steps = subst (λ (s : Status). IsTrue (is_status s statuses.Done || is_status s statuses.Steps)) (sym same)
            (done_or_steps r.0.end (subst (λ (s : Status). IsTrue (is_owed s)) same owed));
      }

  module _ (before now : SinkView) (no_read : ¬ Rose store.read_faults store_now.read_faults) (no_out : ¬ Rose before.faults now.faults) where
    by_outcome : (o : Outcome) → OutcomeGives store store_now command o before now → Counts (is_status (status_of o) statuses.ReadFault) store.read_faults store_now.read_faults
        → Counts (is_status (status_of o) statuses.OutFault) before.faults now.faults
        → (status_of o ≡ statuses.Memory) ⊎ Runs (status_of o)
    by_outcome Usage g read out = inr (ends_as statuses.Usage g.owed g.due g.has_status refl)
    by_outcome (Missing name) g read out = inr (ends_as statuses.Missing g.owed g.due g.has_status refl)
    by_outcome (ReadFault name) g read out = absurd (no_read read.1)
    by_outcome (TooLarge name) g read out = inr (ends_as statuses.TooLarge g.owed g.due g.has_status refl)
    by_outcome Memory g read out = inl refl
    by_outcome (outcome.Broken name rule at) g read out = inr (ends_as statuses.Dex g.owed g.due g.has_status refl)
    by_outcome NotBuilt g read out = inr (ends_as statuses.NotBuilt g.owed g.due g.has_status refl)
    by_outcome (Ran (Returned steps)) g read out = inr (ends_as statuses.Done g.owed g.due g.has_status refl)
    by_outcome (Ran (Limited steps)) g read out = inr (ends_as statuses.Steps g.owed g.due g.has_status refl)
    by_outcome (Ran OutFault) g read out = absurd (no_out out.1)

-- an answer of a small call that is no fault and no want of memory is the end of a run
pub complete_of : (law : SmallHasClass) (store store_now : StoreView) (command : Option Command) (out out_now : SinkView) (o : Outcome) → OutcomeGives store store_now command o out out_now
    → Raised (status_of o) store store_now out out_now → IsComplete store store_now out out_now command (status_of o)
complete_of law store store_now command out out_now o g raised = λ call no_read no_out.
    by_outcome law store store_now command call out out_now no_read no_out o g raised.of_store.read_faults raised.of_out
