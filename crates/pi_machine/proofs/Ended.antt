-- What is at rest makes no step, and what is ended is at rest and stays ended.
use Rattle.std.proofs.Common.{◌≡◌, ℕ, zero, suc, ◌+◌, List, [], ◌∷◌, Option, Some, None, Bool, true, false, ◌||◌, is_none, refl, subst, arith}
use Rattle.pi_model.specs.Program.{Program}
use Rattle.pi_model.specs.Values.{Ref}
use Rattle.pi_machine.specs.State.{State, Entry}
use Rattle.pi_machine.specs.Initialisation.{need_of, needed_to_start, by_need, start_move}
use Rattle.pi_machine.specs.Step.{move_of, rests_by}
use Rattle.pi_machine.specs.Ends.{End, Finish, Setting, Tally, Next, Ends, Goes, Sticks, next, end_by, goes_on, run_by}
use Rattle.pi_machine.specs.StepLaws.{RestHasNoStep, EndedIsAtRest, EndedHasNoStep, LongerRunEndsSame}

module _ (p : Program) (s : State) where
  no_start : (started : Bool) (main : Option ℕ) → (started || is_none main) ≡ true
      → by_need p s (needed_to_start p started main) (start_move p s started main) ≡ None
  no_start true main h = refl
  no_start false None h = refl
  no_start false (Some m) h = cc

  no_move : (pending : Option Ref) (stack : List Entry) → rests_by pending stack s.started s.main ≡ true
      → by_need p s (need_of p s pending stack) (move_of p s pending stack) ≡ None
  no_move pending (x ∷ below) h = cc
  no_move (Some t) [] h = refl
  no_move None [] h = no_start s.started s.main h

  ended_rests : (pending : Option Ref) (stack : List Entry) (started : Bool) (main : Option ℕ) (e : End)
      → end_by p s pending stack started ≡ Some e → rests_by pending stack started main ≡ true
  ended_rests pending (x ∷ below) started main e h = cc
  ended_rests (Some t) [] started main e h = refl
  ended_rests None [] true main e h = refl
  ended_rests None [] false main e h = cc

pub rest_has_no_step : RestHasNoStep
rest_has_no_step = λ p s h. no_move p s s.pending s.stack h

pub ended_is_at_rest : EndedIsAtRest
ended_is_at_rest = λ p s e h. ended_rests p s s.pending s.stack s.started s.main e h

pub ended_has_no_step : EndedHasNoStep
ended_has_no_step = λ p s e h. rest_has_no_step p s (ended_is_at_rest p s e h)

module _ (p : Program) (given : Setting) (m : ℕ) where
  longer_next : (n : ℕ) (f : Finish) (s : State) (t : Tally)
      → ((after : State) (u : Tally) → run_by p given n after u ≡ Some f → run_by p given (n + m) after u ≡ Some f)
      → (x : Next) → goes_on (run_by p given n) s t x ≡ Some f → goes_on (run_by p given (n + m)) s t x ≡ Some f
  longer_next n f s t ih (Ends end) e = e
  longer_next n f s t ih (Goes after u) e = ih after u e
  longer_next n f s t ih Sticks e = e

  longer : (n : ℕ) (f : Finish) (s : State) (t : Tally) → run_by p given n s t ≡ Some f → run_by p given (n + m) s t ≡ Some f
  longer zero f s t e = cc
  longer (suc n) f s t e =
      let more : suc (n + m) ≡ suc n + m = omega arith in
      subst (λ (k : ℕ). run_by p given k s t ≡ Some f) more (longer_next n f s t (longer n f) (next p given s t) e)

pub longer_run_ends_same : LongerRunEndsSame
longer_run_ends_same = λ p given n m s t f e. longer p given m n f s t e
