-- What each step keeps, many steps keep; so a class that is done or erroneous stays so.
use Rattle.std.proofs.Common.{◌≡◌, ℕ, zero, suc, slice_get, Option, Some, None, refl, subst}
use Rattle.std.specs.Prelude.{option_and_then}
use Rattle.pi_model.specs.declared.reason.ClassState.{ClassState}
use Rattle.pi_model.specs.declared.reason.ClassState.TheVariants.{Done, Erroneous}
use Rattle.pi_model.specs.Program.{Program}
use Rattle.pi_machine.specs.State.{State}
use Rattle.pi_machine.specs.Step.{step, after_steps}
use Rattle.pi_machine.specs.StepLaws.{RecordsRun, StatusMoves, Stays, Enters, Finishes, Breaks, StatusesStay}
use Rattle.pi_machine.proofs.Statuses.{steps_keep_statuses}
use Rattle.pi_machine.proofs.Truths.{some_same}

-- a property of states that each step keeps
pub record StepsKeep (p : Program) (Q : State → Type 0) : Type 0 where
  pub keeps : (s after : State) → Q s → step p s ≡ Some after → Q after

then_keeps : (p : Program) (Q : State → Type 0) (n : ℕ) (after : State) → ((s : State) → Q s → after_steps p n s ≡ Some after → Q after)
    → (x : Option State) → ((next : State) → x ≡ Some next → Q next) → option_and_then (after_steps p n) x ≡ Some after → Q after
then_keeps p Q n after ih None q e = cc
then_keeps p Q n after ih (Some next) q e = ih next (q next refl) e

pub many_steps : (p : Program) (Q : State → Type 0) → StepsKeep p Q → (n : ℕ) (after s : State) → Q s → after_steps p n s ≡ Some after → Q after
many_steps p Q k zero after s q e = subst Q (some_same s after e) q
many_steps p Q k (suc n) after s q e = then_keeps p Q n after (many_steps p Q k n after) (step p s) (λ next is. k.keeps s next q is) e

-- done and erroneous are last
moved_done : (a b : Option ClassState) → StatusMoves a b → a ≡ Some Done → b ≡ Some Done
moved_done a b (Stays x) e = e
moved_done a b Enters e = cc
moved_done a b Finishes e = cc
moved_done a b Breaks e = cc

moved_erroneous : (a b : Option ClassState) → StatusMoves a b → a ≡ Some Erroneous → b ≡ Some Erroneous
moved_erroneous a b (Stays x) e = e
moved_erroneous a b Enters e = cc
moved_erroneous a b Finishes e = cc
moved_erroneous a b Breaks e = cc

-- the records run, and a class has a status
record RunsWith (c : ℕ) (status : ClassState) (s : State) : Type 0 where
  run : RecordsRun s
  is : slice_get s.statuses c ≡ Some status

records_kept : (p : Program) → StepsKeep p RecordsRun
records_kept p = record { keeps = λ s after r e. steps_keep_statuses.records p s after r e }

status_kept : (p : Program) (c : ℕ) (status : ClassState)
    → ((a b : Option ClassState) → StatusMoves a b → a ≡ Some status → b ≡ Some status) → StepsKeep p (RunsWith c status)
status_kept p c status last = record {
  keeps = λ s after q e. record {
    run = steps_keep_statuses.records p s after q.run e;
    is = last (slice_get s.statuses c) (slice_get after.statuses c) (steps_keep_statuses.moves p s after q.run e c) q.is;
  };
}

pub statuses_stay : StatusesStay
statuses_stay = record {
  records = λ p n s after r e. many_steps p RecordsRun (records_kept p) n after s r e;
  done = λ p n s after r e c is. (many_steps p (RunsWith c Done) (status_kept p c Done moved_done) n after s (record { run = r; is = is }) e).is;
  erroneous = λ p n s after r e c is.
      (many_steps p (RunsWith c Erroneous) (status_kept p c Erroneous moved_erroneous) n after s (record { run = r; is = is }) e).is;
}
