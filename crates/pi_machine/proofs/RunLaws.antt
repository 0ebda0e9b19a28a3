-- The laws of runs.
use Rattle.std.proofs.Common.{◌≡◌, ℕ, zero, suc, List, [], ◌∷◌, ◌++◌, Option, Some, None, Bool, true, false, refl, rules, sym, ◌∙◌, ap, subst, append_assoc, append-nil}
use Rattle.pi_model.specs.Program.{Program}
use Rattle.pi_machine.specs.State.{State}
use Rattle.pi_machine.specs.Deeds.{Deed, Print, do_deed, do_all}
use Rattle.pi_machine.specs.Operands.{Deeds}
use Rattle.pi_machine.specs.Step.{deeds_of}
use Rattle.std.specs.Prelude.{if◌then◌else◌, nat_lt, ◌==◌}
use Rattle.pi_machine.specs.Ends.{End, HeapLimit, FrameLimit, StepLimit, Finish, Setting, Tally, Moment, Next, Ends, Goes, Sticks, next, next_by, next_step, end_of, goes_on, moves_on, run_by, moment_after, EndsFrom, BeginsAndEnds, with_deeds, is_inside, frame_words}
use Rattle.pi_machine.specs.Laws.{EndIsUnique, RunEndIsUnique, OutputGrows, EndStays}
use Rattle.pi_machine.proofs.Truths.{some_same}

-- the output of one state is a front of another's
pub record Grows (before after : State) : Type 0 where
  pub rest : List ℕ
  pub is : before.output ++ rest ≡ after.output

module _ (p : Program) (given : Setting) where
  once_next : (n m : ℕ) (s : State) (t : Tally) (f g : Finish)
      → ((s : State) (t : Tally) → run_by p given n s t ≡ Some f → run_by p given m s t ≡ Some g → f ≡ g)
      → (x : Next) → goes_on (run_by p given n) s t x ≡ Some f → goes_on (run_by p given m) s t x ≡ Some g → f ≡ g
  once_next n m s t f g ih (Ends end) a b = cc
  once_next n m s t f g ih (Goes after tally) a b = ih after tally a b
  once_next n m s t f g ih Sticks a b = cc

  once : (n m : ℕ) (f g : Finish) (s : State) (t : Tally) → run_by p given n s t ≡ Some f → run_by p given m s t ≡ Some g → f ≡ g
  once zero m f g s t a b = cc
  once (suc n) zero f g s t a b = cc
  once (suc n) (suc m) f g s t a b = once_next n m s t f g (once n m f g) (next p given s t) a b

  once_begun : (main : ℕ) (args : List (List ℕ)) (b : Bool) (s : State) (t : Tally) (f g : Finish)
      → BeginsAndEnds b p given s t f → BeginsAndEnds b p given s t g → f ≡ g
  once_begun main args true s t f g a b = a ∙ sym b
  once_begun main args false s t f g a b = once a.0 b.0 f g s t a.1 b.1

-- each deed keeps what was printed, and printing adds to it
grows_by : (s : State) → Grows s s
grows_by s = record { rest = []; is = search rules }

deed_grows : (d : Deed) (s : State) → Grows s (do_deed d s)
deed_grows (Print bytes) s = record { rest = bytes; is = refl }
deed_grows _ s = record { rest = []; is = search rules }

grows_on : (a b c : State) → Grows a b → Grows b c → Grows a c
grows_on a b c x y = record { rest = x.rest ++ y.rest; is = sym (append_assoc a.output x.rest y.rest) ∙ (ap (λ front. front ++ y.rest) x.is ∙ y.is) }

deeds_grow : (ds : List Deed) (s : State) → Grows s (do_all ds s)
deeds_grow [] s = grows_by s
deeds_grow (d ∷ ds) s = grows_on s (do_deed d s) (do_all ds (do_deed d s)) (deed_grows d s) (deeds_grow ds (do_deed d s))

-- one step of a run keeps what was printed
pub record LeadsTo (x : Next) (after : State) (tally : Tally) : Type 0 where
  pub is : x ≡ Goes after tally

module _ (p : Program) (given : Setting) where
  goes_same : (a : State) (t : Tally) (b : State) (u : Tally) → Goes a t ≡ Goes b u → a ≡ b
  goes_same a t b u e = cc

  outside_grows : (heap frames : Bool) (s after : State) (t : Tally) (after' : State) (t' : Tally) → Grows s after
      → (if heap then Ends HeapLimit else if frames then Ends FrameLimit else Goes after t) ≡ Goes after' t' → Grows s after'
  outside_grows true frames s after t after' t' g e = cc
  outside_grows false true s after t after' t' g e = cc
  outside_grows false false s after t after' t' g e = subst (Grows s) (goes_same after t after' t' e) g

  counted_grows : (inside heap frames : Bool) (s after : State) (t u : Tally) (after' : State) (t' : Tally) → Grows s after
      → (if inside then Goes after t else (if heap then Ends HeapLimit else if frames then Ends FrameLimit else Goes after u)) ≡ Goes after' t' → Grows s after'
  counted_grows true heap frames s after t u after' t' g e = subst (Grows s) (goes_same after t after' t' e) g
  counted_grows false heap frames s after t u after' t' g e = outside_grows heap frames s after u after' t' g e

  step_grows : (ds : Deeds) (s : State) (t : Tally) (after : State) (u : Tally) → next_step p given s t ds ≡ Goes after u → Grows s after
  step_grows None s t after u e = cc
  step_grows (Some deeds) s t after u e =
      counted_grows (is_inside given.held s.stack (do_all deeds s).stack) (nat_lt given.heap (with_deeds p given.imaged deeds t).bytes)
      (nat_lt given.frames (frame_words (do_all deeds s).stack)) s (do_all deeds s) t _ after u (deeds_grow deeds s) e

  limit_grows : (met : Bool) (s : State) (t : Tally) (after : State) (u : Tally)
      → (if met then Ends StepLimit else next_step p given s t (deeds_of p s)) ≡ Goes after u → Grows s after
  limit_grows true s t after u e = cc
  limit_grows false s t after u e = step_grows (deeds_of p s) s t after u e

  next_grows_by : (end : Option End) (s : State) (t : Tally) (after : State) (u : Tally) → next_by p given s t end ≡ Goes after u → Grows s after
  next_grows_by (Some end) s t after u e = cc
  next_grows_by None s t after u e = limit_grows (t.steps == given.steps) s t after u e

  next_grows : (s : State) (t : Tally) (after : State) (u : Tally) → next p given s t ≡ Goes after u → Grows s after
  next_grows s t after u e = next_grows_by (end_of p s) s t after u e

  -- what was printed so far is a front of what was printed by the end
  pub record Fronts (s : State) (f : Finish) : Type 0 where
    pub rest : List ℕ
    pub is : s.output ++ rest ≡ f.output

  fronts_on : (a b : State) (f : Finish) → Grows a b → Fronts b f → Fronts a f
  fronts_on a b f x y = record { rest = x.rest ++ y.rest; is = sym (append_assoc a.output x.rest y.rest) ∙ (ap (λ front. front ++ y.rest) x.is ∙ y.is) }

  stays_front : (x f : Finish) (s : State) → x ≡ f → s.output ≡ x.output → Fronts s f
  stays_front x f s e same = record { rest = []; is = append-nil s.output ∙ (same ∙ ap (λ (y : Finish). y.output) e) }

  -- the output at the end begins with what was printed by now
  ends_fronts_by : (n : ℕ) (f : Finish) (s : State) (t : Tally)
      → ((after : State) (u : Tally) → run_by p given n after u ≡ Some f → Fronts after f)
      → (x : Next) → next p given s t ≡ x → goes_on (run_by p given n) s t x ≡ Some f → Fronts s f
  ends_fronts_by n f s t ih (Ends end) is e = stays_front (record { end = end; output = s.output; steps = t.steps }) f s (some_same _ f e) refl
  ends_fronts_by n f s t ih (Goes after u) is e = fronts_on s after f (next_grows s t after u is) (ih after u e)
  ends_fronts_by n f s t ih Sticks is e = cc

  ends_fronts : (n : ℕ) (f : Finish) (s : State) (t : Tally) → run_by p given n s t ≡ Some f → Fronts s f
  ends_fronts zero f s t e = cc
  ends_fronts (suc n) f s t e = ends_fronts_by n f s t (ends_fronts n f) (next p given s t) refl e

  -- the end of a run from one state is its end from another
  pub record LeadsOn (s : State) (t : Tally) (m : Moment) : Type 0 where
    pub back : (f : Finish) → EndsFrom p given m.state m.tally f → EndsFrom p given s t f
    pub on : (f : Finish) → EndsFrom p given s t f → EndsFrom p given m.state m.tally f

  at_moment : State → Tally → Moment
  at_moment s t = record { state = s; tally = t }

  leads_here : (s : State) (t : Tally) (m : Moment) → record { state = s; tally = t } ≡ m → LeadsOn s t m
  leads_here s t m e = record {
    back = λ f x. subst (λ (y : Moment). EndsFrom p given y.state y.tally f) (sym e) x;
    on = λ f x. subst (λ (y : Moment). EndsFrom p given y.state y.tally f) e x;
  }

  -- one step on
  run_on : (n : ℕ) (f : Finish) (s : State) (t : Tally) (after : State) (u : Tally) → next p given s t ≡ Goes after u
      → run_by p given n s t ≡ Some f → EndsFrom p given after u f
  run_on zero f s t after u is e = cc
  run_on (suc n) f s t after u is e = (n, ap (goes_on (run_by p given n) s t) (sym is) ∙ e)

  run_back : (n : ℕ) (f : Finish) (s : State) (t : Tally) (after : State) (u : Tally) → next p given s t ≡ Goes after u
      → run_by p given n after u ≡ Some f → EndsFrom p given s t f
  run_back n f s t after u is e = (suc n, ap (goes_on (run_by p given n) s t) is ∙ e)

  leads_step : (s : State) (t : Tally) (after : State) (u : Tally) (m : Moment) → next p given s t ≡ Goes after u → LeadsOn after u m → LeadsOn s t m
  leads_step s t after u m is l = record {
    back = λ f x. let y : EndsFrom p given after u f = l.back f x in run_back y.0 f s t after u is y.1;
    on = λ f x. l.on f (run_on x.0 f s t after u is x.1);
  }

  leads_by : (n : ℕ) (m : Moment) (s : State) (t : Tally)
      → ((after : State) (u : Tally) → moment_after p given n after u ≡ Some m → LeadsOn after u m)
      → (x : Next) → next p given s t ≡ x → moves_on (moment_after p given n) x ≡ Some m → LeadsOn s t m
  leads_by n m s t ih (Ends end) is e = cc
  leads_by n m s t ih (Goes after u) is e = leads_step s t after u m is (ih after u e)
  leads_by n m s t ih Sticks is e = cc

  leads_on : (n : ℕ) (m : Moment) (s : State) (t : Tally) → moment_after p given n s t ≡ Some m → LeadsOn s t m
  leads_on zero m s t e = leads_here s t m (some_same (record { state = s; tally = t }) m e)
  leads_on (suc n) m s t e = leads_by n m s t (leads_on n m) (next p given s t) refl e

pub end_unique : EndIsUnique
end_unique = λ p given s t f g a b. once p given a.0 b.0 f g s t a.1 b.1

pub run_end_unique : RunEndIsUnique
run_end_unique = λ p given main args f g a b. once_begun p given main args _ _ _ f g a b

fronts_of : (p : Program) (given : Setting) (n : ℕ) (s : State) (t : Tally) (m : Moment) (f : Finish)
    → moment_after p given n s t ≡ Some m → EndsFrom p given s t f → Fronts p given m.state f
fronts_of p given n s t m f e x =
    let y : EndsFrom p given m.state m.tally f = (leads_on p given n m s t e).on f x in
    ends_fronts p given y.0 f m.state m.tally y.1

pub output_grows_law : OutputGrows
output_grows_law = λ p given n s t m f e x. let r : Fronts p given m.state f = fronts_of p given n s t m f e x in (r.rest, r.is)

pub end_stays_law : EndStays
end_stays_law = λ p given n s t m f e. let l : LeadsOn p given s t m = leads_on p given n m s t e in (l.back f, l.on f)
