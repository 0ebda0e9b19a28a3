-- A plain run ends as the machine does.
use Rattle.std.proofs.Common.{◌≡◌, ◌≢◌, ℕ, zero, suc, ◌+◌, Bool, true, false, List, ◌++◌, Some, None, refl, arith, ◌∙◌, ap}
use Rattle.std.proofs.lemmas.Bool.Decides.{nat_tests}
use Rattle.std.specs.Prelude.{◌==◌, if◌then◌else◌}
use Rattle.pi_duty.specs.Shape.{small_chain, Brought}
use Rattle.pi_machine.specs.State.{Thing}
use Rattle.pi_machine.specs.Ends.{Finish, End, Returned, StepLimit, Ends, next, next_by, goes_on, end_of, end_by, run_by, EndsFrom}
use Rattle.pi_duty.specs.Duty.{lazy_setting}
use Rattle.pi_top.specs.declared.plain.place.Stage.{Stage}
use Rattle.pi_top.specs.declared.plain.place.Stage.TheVariants as stage
use Rattle.pi_top.specs.Plain.{View, Plain, plain_step, is_over, finish_of, plain_by, Fits}
use Rattle.pi_top.proofs.PlainLaws.{fits_on}
use Rattle.pi_top.proofs.MachineSteps.{Found, Begun, begun_on, clinit_no_end, state_at, state_for, counted, StepIs, step_is}

differ : (a b : ℕ) → (a == b) ≡ false → a ≢ b
differ a b e = grind (arith, nat_tests)

module _ (new : Brought) (v : View) (main clinit : ℕ) (things : List Thing) (found : Found new v main clinit) (limit : ℕ) where
  over_end : (s : Plain) (out : List ℕ) (at : Stage) → is_over at ≡ true → end_of (small_chain new v.class) (state_for new v main clinit things s at out) ≡ Some Returned
  over_end s out stage.Over e = refl
  over_end s out stage.Untouched e = cc
  over_end s out stage.Entered e = cc
  over_end s out stage.Valued e = cc
  over_end s out stage.Initialising e = cc
  over_end s out stage.Finishing e = cc
  over_end s out stage.Ready e = cc
  over_end s out stage.Running e = cc

  no_end : (s : Plain) (out : List ℕ) (at : Stage) → is_over at ≡ false → end_of (small_chain new v.class) (state_for new v main clinit things s at out) ≡ None
  no_end s out stage.Over e = cc
  no_end s out stage.Untouched e = refl
  no_end s out stage.Entered e = refl
  no_end s out stage.Valued e = refl
  no_end s out stage.Initialising e = clinit_no_end new v main clinit things s v.clinit
      (λ stack. end_by (small_chain new v.class) (state_for new v main clinit things s stage.Initialising out) None stack false) (λ e rest. refl)
  no_end s out stage.Finishing e = refl
  no_end s out stage.Ready e = refl
  no_end s out stage.Running e = refl

  ends_now : (s : Plain) (made : ℕ) (out : List ℕ) (end : End) (f : Finish) → next (small_chain new v.class) (lazy_setting limit) (state_at new v main clinit things s out) (counted new v main clinit things made) ≡ Ends end
      → Some (finish_of end out made) ≡ Some f → EndsFrom (small_chain new v.class) (lazy_setting limit) (state_at new v main clinit things s out) (counted new v main clinit things made) f
  ends_now s made out end f e same = (1, ap (goes_on (run_by (small_chain new v.class) (lazy_setting limit) 0) (state_at new v main clinit things s out) (counted new v main clinit things made)) e ∙ same)

  -- one step of the plain run under its limit
  plain_by_cases : (n : ℕ) (f : Finish) (s : Plain) (made : ℕ) (out : List ℕ) (over met : Bool) → is_over s.stage ≡ over → (made == limit) ≡ met
      → Fits v s → Begun new v main clinit things s s.stage
      → ((s : Plain) (made : ℕ) (out : List ℕ) → plain_by n v limit s made out ≡ Some f → Fits v s → Begun new v main clinit things s s.stage
      → EndsFrom (small_chain new v.class) (lazy_setting limit) (state_at new v main clinit things s out) (counted new v main clinit things made) f)
      → (if over then Some (finish_of Returned out made) else if met then Some (finish_of StepLimit out made) else
      plain_by n v limit (plain_step v s).state (made + 1) (out ++ (plain_step v s).printed)) ≡ Some f
      → EndsFrom (small_chain new v.class) (lazy_setting limit) (state_at new v main clinit things s out) (counted new v main clinit things made) f
  plain_by_cases n f s made out true met is at fits b ih e =
      ends_now s made out Returned f (ap (next_by (small_chain new v.class) (lazy_setting limit) (state_at new v main clinit things s out) (counted new v main clinit things made)) (over_end s out s.stage is)) e
  plain_by_cases n f s made out false true is at fits b ih e =
      ends_now s made out StepLimit f (ap (next_by (small_chain new v.class) (lazy_setting limit) (state_at new v main clinit things s out) (counted new v main clinit things made)) (no_end s out s.stage is) ∙ rw at refl) e
  plain_by_cases n f s made out false false is at fits b ih e =
      let more : made ≢ limit = differ made limit at in
      let x : EndsFrom (small_chain new v.class) (lazy_setting limit) (state_at new v main clinit things (plain_step v s).state (out ++ (plain_step v s).printed)) (counted new v main clinit things (made + 1)) f =
      ih (plain_step v s).state (made + 1) (out ++ (plain_step v s).printed) e (fits_on v s fits) (begun_on new v main clinit things s s.stage b) in
      let y : StepIs new v main clinit things limit made s s.stage out = step_is new v main clinit things found limit made more s out s.stage refl fits b is in
      (suc x.0, ap (goes_on (run_by (small_chain new v.class) (lazy_setting limit) x.0) (state_at new v main clinit things s out) (counted new v main clinit things made)) y ∙ x.1)

  pub machine_ends : (n : ℕ) (f : Finish) (s : Plain) (made : ℕ) (out : List ℕ) → plain_by n v limit s made out ≡ Some f → Fits v s → Begun new v main clinit things s s.stage
      → EndsFrom (small_chain new v.class) (lazy_setting limit) (state_at new v main clinit things s out) (counted new v main clinit things made) f
  machine_ends zero f s made out e fits b = cc
  machine_ends (suc n) f s made out e fits b = plain_by_cases n f s made out (is_over s.stage) (made == limit) refl refl fits b (machine_ends n f) e
