-- Laws of the plain run: what a state keeps that it can go on from, and that it always ends.
use Rattle.std.proofs.Common.{◌≡◌, ◌≢◌, ◌⊎◌, inl, inr, ℕ, zero, suc, ◌+◌, ◌-◌, ◌<◌, ◌≤◌, Bool, true, false, List, [], ◌∷◌, ◌++◌, length, Option, Some, None, refl, arith, rules, sym, ◌∙◌, ap, subst, append_assoc}
use Rattle.std.proofs.lemmas.List.{append-nil}
use Rattle.std.specs.Prelude.{slice_get, IsSome, ◌==◌}
use Rattle.pi_model.specs.declared.describe.ClassDesc.{ClassDesc}
use Rattle.pi_model.specs.declared.describe.Code.{Code}
use Rattle.pi_model.specs.declared.describe.Line.{Line}
use Rattle.pi_model.specs.declared.insn.Insn.{Insn}
use Rattle.pi_model.specs.declared.insn.Insn.TheVariants.{Const, Sget, Sput, ReturnVoid, Invoke}
use Rattle.pi_duty.specs.Small.{is_return, ends_in_return}
use Rattle.pi_machine.specs.Ends.{Finish, Returned, StepLimit}
use Rattle.pi_top.specs.declared.plain.place.Stage.{Stage}
use Rattle.pi_top.specs.declared.plain.place.Stage.TheVariants.{Untouched, Entered, Valued, Initialising, Finishing, Ready, Running, Over}
use Rattle.pi_base.specs.Views.{SinkView}
use Rattle.pi_base.specs.Outside.{grown, Begins, BrokeOff}
use Rattle.pi_base.proofs.Taken.{grown-grown, rose_after}
use Rattle.pi_top.specs.Places.{Registers}
use Rattle.pi_top.specs.Row.{effect_of}
use Rattle.pi_top.specs.Plain.{View, Plain, insn_or_return, insn_of, effect_at, line_after, frame_after, stage_after, main_step, stage_after_values, clinit_move, plain_move, plain_step, is_over, finish_of, PlainEnds, FrameFits, ClinitFits, Fits}

-- an instruction keeps how many registers and statics there are
pub registers_stay : (d : ClassDesc) (i : Insn) (r s : List ℕ) → length (effect_of d i r s).registers ≡ length r
registers_stay d (Const a v) r s = search rules
registers_stay d (Sget kind a f) r s = search rules
registers_stay d _ r s = refl

statics_stay : (d : ClassDesc) (i : Insn) (r s : List ℕ) → length (effect_of d i r s).statics ≡ length s
statics_stay d (Sput kind a f) r s = search rules
statics_stay d _ r s = refl

-- the last instruction returns, so behind one that does not there is another
returns_of : (d : ClassDesc) (i : Insn) (r s : List ℕ) → is_return i ≡ true → (effect_of d i r s).returns ≡ true
returns_of d ReturnVoid r s e = refl
returns_of d (Const a v) r s e = cc
returns_of d (Sget kind a f) r s e = cc
returns_of d (Sput kind a f) r s e = cc
returns_of d (Invoke how m regs) r s e = cc
returns_of d _ r s e = refl

last_returns : (xs : List Line) (i : ℕ) → ends_in_return xs ≡ true → i + 1 ≡ length xs → is_return (insn_or_return (slice_get xs i)) ≡ true
last_returns [] i ends last = cc
last_returns (l ∷ []) zero ends last = ends
last_returns (l ∷ []) (suc i) ends last = absurd (omega arith)
last_returns (l ∷ m ∷ ls) zero ends last = absurd (omega arith)
last_returns (l ∷ m ∷ ls) (suc i) ends last = last_returns (m ∷ ls) i ends (omega arith)

after_stands : (returns : Bool) (line count : ℕ) → line < count → (returns ≡ false → line + 1 < count) → line_after returns line < count
after_stands true line count here next = here
after_stands false line count here next = next refl

true-not-false : (b : Bool) → b ≡ true → b ≡ false → ⊥
true-not-false b t f = cc

pub next_stands : (d : ClassDesc) (code : Code) (f : Registers) (s : List ℕ) → FrameFits d code f
    → (effect_at d code f s).returns ≡ false → f.line + 1 < length code.insns
next_stands d code f s fits goes =
    let last : f.line + 1 ≡ length code.insns → ⊥ = λ e. true-not-false (effect_at d code f s).returns
    (returns_of d (insn_of code f.line) f.words s (last_returns code.insns f.line fits.ends e)) goes in
    omega (arith, fits.stands, last)

frame_on : (d : ClassDesc) (code : Code) (f : Registers) (s : List ℕ) → FrameFits d code f → FrameFits d code (frame_after (effect_at d code f s) f)
frame_on d code f s fits = record {
  stands = after_stands (effect_at d code f s).returns f.line (length code.insns) fits.stands (next_stands d code f s fits);
  fits = rw (registers_stay d (insn_of code f.line) f.words s) fits.fits;
  ends = fits.ends;
}

-- the state after a step of a run that is not over is one that the run can go on from
clinit_on : (v : View) (c : Option Code) (s : Plain) → v.clinit ≡ c → length s.statics ≡ length v.class.fields → ClinitFits v.class c s.clinit
    → FrameFits v.class v.main s.main → Fits v (clinit_move v.class c s).state
clinit_on v None s is statics fits main = record {
  statics = statics;
  clinit = subst (λ (o : Option Code). ClinitFits v.class o s.clinit) (sym is) fits;
  main = main;
  initialises = λ e. cc;
}
clinit_on v (Some code) s is statics fits main =
    record {
      statics = statics_stay v.class (insn_of code s.clinit.line) s.clinit.words s.statics ∙ statics;
      clinit = subst (λ (o : Option Code). ClinitFits v.class o (frame_after (effect_at v.class code s.clinit s.statics) s.clinit)) (sym is)
          (frame_on v.class code s.clinit s.statics fits);
      main = main;
      initialises = λ e. rw is (search rules);
    }

main_on : (v : View) (s : Plain) → Fits v s → Fits v (main_step s (effect_at v.class v.main s.main s.statics)).state
main_on v s fits = record {
  statics = statics_stay v.class (insn_of v.main s.main.line) s.main.words s.statics ∙ fits.statics;
  clinit = fits.clinit;
  main = frame_on v.class v.main s.main s.statics fits.main;
  initialises = λ e. absurd (not_initialising (effect_at v.class v.main s.main s.statics).returns e);
}
  where
    not_initialising : (b : Bool) → stage_after Running Over b ≡ Initialising → ⊥
    not_initialising true e = cc
    not_initialising false e = cc

staged : (v : View) (s : Plain) (stage : Stage) → Fits v s → (stage ≡ Initialising → IsSome v.clinit) → Fits v (record s { stage = stage })
staged v s stage fits h = record { statics = fits.statics; clinit = fits.clinit; main = fits.main; initialises = h }

valued_is : (c : Option Code) → stage_after_values c ≡ Initialising → IsSome c
valued_is None e = cc
valued_is (Some code) e = search rules

move_on : (v : View) (s : Plain) (stage : Stage) → Fits v s → Fits v (plain_move v s stage).state
move_on v s Untouched fits = staged v s Entered fits (λ e. cc)
move_on v s Entered fits = staged v s Valued fits (λ e. cc)
move_on v s Valued fits = staged v s (stage_after_values v.clinit) fits (valued_is v.clinit)
move_on v s Initialising fits = clinit_on v v.clinit s refl fits.statics fits.clinit fits.main
move_on v s Finishing fits = staged v s Ready fits (λ e. cc)
move_on v s Ready fits = staged v s Running fits (λ e. cc)
move_on v s Running fits = main_on v s fits
move_on v s Over fits = staged v s Over fits (λ e. cc)

pub fits_on : (v : View) (s : Plain) → Fits v s → Fits v (plain_step v s).state
fits_on v s fits = move_on v s s.stage fits

-- the run is over exactly at its last stage
over_not : (stage : Stage) → is_over stage ≡ false → stage ≢ Over
over_not stage e h = true-not-false (is_over stage) (ap is_over h) e

-- how a run ends at its last stage, at the limit, and else as it ends after a step
pub ends_over : (v : View) (limit : ℕ) (s : Plain) (made : ℕ) (out : List ℕ) → is_over s.stage ≡ true → PlainEnds v limit s made out (finish_of Returned out made)
ends_over v limit s made out over = record { count = 1; ends = rw over refl }

pub ends_limited : (v : View) (limit : ℕ) (s : Plain) (made : ℕ) (out : List ℕ) → is_over s.stage ≡ false → made ≡ limit → PlainEnds v limit s made out (finish_of StepLimit out made)
ends_limited v limit s made out goes met =
    let b : (made == limit) ≡ true = grind arith in
    record { count = 1; ends = rw (goes, b) refl }

ends_back : (v : View) (limit : ℕ) (s : Plain) (made : ℕ) (out : List ℕ) (f : Finish) → is_over s.stage ≡ false → made ≢ limit
    → PlainEnds v limit (plain_step v s).state (made + 1) (out ++ (plain_step v s).printed) f → PlainEnds v limit s made out f
ends_back v limit s made out f goes more e =
    let b : (made == limit) ≡ false = grind arith in
    record { count = suc e.count; ends = rw (goes, b) e.ends }

-- a run ends, and its output begins with what was printed before
pub record EndsAfter (v : View) (limit : ℕ) (s : Plain) (made : ℕ) (out : List ℕ) : Type 0 where
  pub finish : Finish
  pub ends : PlainEnds v limit s made out finish
  pub rest : List ℕ
  pub front : out ++ rest ≡ finish.output

ends_step : (v : View) (limit : ℕ) (s : Plain) (made : ℕ) (out : List ℕ) → is_over s.stage ≡ false → made ≢ limit
    → EndsAfter v limit (plain_step v s).state (made + 1) (out ++ (plain_step v s).printed) → EndsAfter v limit s made out
ends_step v limit s made out goes more e = record {
  finish = e.finish;
  ends = ends_back v limit s made out e.finish goes more e.ends;
  rest = (plain_step v s).printed ++ e.rest;
  front = sym (append_assoc out (plain_step v s).printed e.rest) ∙ e.front;
}

over_or_not : (b : Bool) → (b ≡ true) ⊎ (b ≡ false)
over_or_not true = inl refl
over_or_not false = inr refl

ends_now : (v : View) (limit : ℕ) (s : Plain) (made : ℕ) (out : List ℕ) → is_over s.stage ≡ true → EndsAfter v limit s made out
ends_now v limit s made out over = record {
  finish = finish_of Returned out made;
  ends = ends_over v limit s made out over;
  rest = [];
  front = append-nil out;
}

ends_left : (left : ℕ) (v : View) (limit : ℕ) (s : Plain) (made : ℕ) (out : List ℕ) → made + left ≡ limit → EndsAfter v limit s made out
ends_left zero v limit s made out is = elim (over_or_not (is_over s.stage)) [
  | inl over ↦ ends_now v limit s made out over
  | inr goes ↦ record {
    finish = finish_of StepLimit out made;
    ends = ends_limited v limit s made out goes (omega arith);
    rest = [];
    front = append-nil out;
  }
]
ends_left (suc left) v limit s made out is = elim (over_or_not (is_over s.stage)) [
  | inl over ↦ ends_now v limit s made out over
  | inr goes ↦ ends_step v limit s made out goes (omega arith)
      (ends_left left v limit (plain_step v s).state (made + 1) (out ++ (plain_step v s).printed) (omega arith))
]

ends_after : (v : View) (limit : ℕ) (s : Plain) (made : ℕ) (out : List ℕ) → made ≤ limit → EndsAfter v limit s made out
ends_after v limit s made out within = ends_left (limit - made) v limit s made out (omega arith)

-- a run so far: what was printed, and that it ends from here as it does from its start
pub record SoFar (v : View) (limit : ℕ) (start now : Plain) (made : ℕ) (before told : Option (List ℕ)) : Type 0 where
  pub out : List ℕ
  pub printed : told ≡ grown before out
  pub back : (f : Finish) → PlainEnds v limit now made out f → PlainEnds v limit start 0 [] f
  pub fits : Fits v now
  pub within : made ≤ limit

-- a run so far, a step later
pub so_far_on : (v : View) (limit : ℕ) (start now next : Plain) (made : ℕ) (before told later : Option (List ℕ)) → SoFar v limit start now made before told
    → is_over now.stage ≡ false → made ≢ limit → next ≡ (plain_step v now).state → later ≡ grown told (plain_step v now).printed
    → SoFar v limit start next (made + 1) before later
so_far_on v limit start now next made before told later r goes more is printed = record {
  out = r.out ++ (plain_step v now).printed;
  printed = printed ∙ (ap (λ (o : Option (List ℕ)). grown o (plain_step v now).printed) r.printed ∙ grown-grown before r.out (plain_step v now).printed);
  back = λ f e. r.back f (ends_back v limit now made r.out f goes more
      (subst (λ (s : Plain). PlainEnds v limit s (made + 1) (r.out ++ (plain_step v now).printed) f) is e));
  fits = subst (Fits v) (sym is) (fits_on v now r.fits);
  within = omega (arith, r.within);
}

joined : (a b c d p o : List ℕ) → b ++ c ≡ p → (a ++ p) ++ d ≡ o → (a ++ b) ++ (c ++ d) ≡ o
joined a b c d p o e h = sym (append_assoc (a ++ b) c d) ∙ (ap (λ x. x ++ d) (append_assoc a b c ∙ ap (λ x. a ++ x) e) ∙ h)

-- a front of a step's output is behind what was printed before it a front of the run's output
front_by : (v : View) (limit : ℕ) (start now : Plain) (made : ℕ) (before told later : Option (List ℕ)) (r : SoFar v limit start now made before told)
    → is_over now.stage ≡ false → made ≢ limit → Begins (plain_step v now).printed told later
    → EndsAfter v limit (plain_step v now).state (made + 1) (r.out ++ (plain_step v now).printed)
    → (f : Finish) × (PlainEnds v limit start 0 [] f × Begins f.output before later)
front_by v limit start now made before told later r goes more begins e = (
  e.finish,
  (
    r.back e.finish (ends_back v limit now made r.out e.finish goes more e.ends),
    (
      r.out ++ begins.0,
      begins.1 ++ e.rest,
      joined r.out begins.0 begins.1 e.rest (plain_step v now).printed e.finish.output begins.2 e.front,
      begins.3 ∙ (ap (λ (o : Option (List ℕ)). grown o begins.0) r.printed ∙ grown-grown before r.out begins.0),
    ),
  ),
)

front_of_end : (v : View) (limit : ℕ) (start now : Plain) (made : ℕ) (before told later : Option (List ℕ)) → SoFar v limit start now made before told
    → is_over now.stage ≡ false → made ≢ limit → Begins (plain_step v now).printed told later
    → (f : Finish) × (PlainEnds v limit start 0 [] f × Begins f.output before later)
front_of_end v limit start now made before told later r goes more begins =
    front_by v limit start now made before told later r goes more begins
    (ends_after v limit (plain_step v now).state (made + 1) (r.out ++ (plain_step v now).printed) (omega (arith, r.within)))

-- where the sink breaks off in the output of a step, it breaks off in that of the run
pub breaks_off : (v : View) (limit : ℕ) (start now : Plain) (made : ℕ) (before told later : SinkView) → SoFar v limit start now made before.bytes told.bytes
    → told.faults ≡ before.faults → is_over now.stage ≡ false → made ≢ limit → BrokeOff (plain_step v now).printed told later
    → (f : Finish) × (PlainEnds v limit start 0 [] f × BrokeOff f.output before later)
breaks_off v limit start now made before told later r quiet goes more broke =
    let e = front_of_end v limit start now made before.bytes told.bytes later.bytes r goes more broke.bytes in
    (e.0, (e.1.0, record { bytes = e.1.1; faults = rose_after before.faults told.faults later.faults quiet broke.faults }))
