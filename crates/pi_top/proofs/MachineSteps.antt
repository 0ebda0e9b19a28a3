-- A step of the plain run is a step of the machine.
use Rattle.std.proofs.Common.{◌≡◌, ◌≢◌, inl, inr, ℕ, zero, suc, ◌+◌, ◌-◌, ◌<◌, ◌≤◌, Bool, true, false, List, [], ◌∷◌, ◌++◌, length, Option, Some, None, refl, arith, sym, ◌∙◌, ap, subst, add-one, lit≤}
use Rattle.std.proofs.lemmas.Bool.Decides.{nat_tests}
use Rattle.std.proofs.lemmas.List.{append-nil, length-append}
use Rattle.std.specs.Prelude.{nat_lt, ◌==◌, slice_get, replicate, IsSome}
use Rattle.std.specs.List.{list_any, list_all}
use Rattle.pi_model.specs.Program.{Program}
use Rattle.pi_machine.specs.State.{State, Entry, Call, Record}
use Rattle.pi_machine.specs.Deeds.{Saw, OfStatus, SetStatus, SetPhase, Push, Pop, Start, on_frame, past_call}
use Rattle.pi_machine.specs.Step.{deeds_of, instruction_move}
use Rattle.pi_machine.specs.Ends.{Tally, Goes, End, end_by, next, end_of, is_held_record, frame_words}
use Rattle.pi_duty.specs.Duty.{lazy_setting}
use Rattle.pi_model.specs.declared.describe.ClassDesc.{ClassDesc}
use Rattle.pi_model.specs.declared.describe.Code.{Code}
use Rattle.pi_model.specs.declared.describe.Line.{Line}
use Rattle.pi_model.specs.declared.describe.FieldDesc.{FieldDesc}
use Rattle.pi_model.specs.declared.reason.ClassState.{ClassState}
use Rattle.pi_model.specs.declared.reason.ClassState.TheVariants.{Fresh, InProgress, Done}
use Rattle.pi_model.specs.Program.{method_number}
use Rattle.pi_model.specs.Search.{in_class, method_of}
use Rattle.pi_model.specs.Values.{Value, Word, At, Num}
use Rattle.pi_duty.specs.Small.{insn_fits, line_fits, has_no_value, is_zero}
use Rattle.pi_format.specs.Says.Facts.{laid_from}
use Rattle.pi_duty.specs.Shape.{small_chain, Brought}
use Rattle.pi_model.specs.declared.describe.Init.{Init}
use Rattle.pi_model.specs.declared.describe.Init.TheVariants as init
use Rattle.pi_machine.specs.State.{Thing, Entered, ValuesSet, Running}
use Rattle.pi_machine.specs.Codes.{code_of, line_of}
use Rattle.pi_machine.specs.Rows.{row}
use Rattle.pi_machine.specs.Initialisation.{clinit_of, value_deeds, values_from, by_need, needed_by, needed_at}
use Rattle.pi_machine.proofs.Truths.{both}
use Rattle.pi_top.specs.declared.plain.place.Stage.{Stage}
use Rattle.pi_top.specs.declared.plain.place.Stage.TheVariants as stage
use Rattle.pi_top.specs.Places.{Registers}
use Rattle.pi_top.specs.Plain.{insn_or_return, insn_of, stage_after, stage_after_values, clinit_move, clinit_step, main_step, blank, clinit_words, View, Plain, plain_move, is_over, effect_at, Fits, ClinitFits, FrameFits}
use Rattle.pi_top.proofs.Lookups.{ClassIs}
use Rattle.pi_top.specs.Row.{Effect, effect_of}
use Rattle.pi_top.proofs.Laid.{find_laid, next_laid, first_laid}
use Rattle.pi_top.proofs.MachineRows.{DoesTo, IsOpen, base, frame, stack_after, insn_does}
use Rattle.pi_top.proofs.Lists.{list_all-get}
use Rattle.pi_top.proofs.PlainLaws.{registers_stay, next_stands}
use Rattle.pi_top.proofs.Words.{words_of, length_words, zero_words, fails_lt}

none_held : (stack : List Entry) → list_any (is_held_record []) stack ≡ false
none_held [] = refl
none_held (Call f ∷ below) = none_held below
none_held (Record c phase ∷ below) = none_held below

not_met : (a b : ℕ) → a ≢ b → (a == b) ≡ false
not_met a b h = grind (arith, nat_tests)

-- a step under limits that it keeps
goes_by : (p : Program) (limit : ℕ) (s : State) (t : Tally) (after : State) → end_of p s ≡ None → t.steps ≢ limit → DoesTo p s (deeds_of p s) after
    → frame_words after.stack ≤ 1048576 → t.bytes ≤ 67108864 → next p (lazy_setting limit) s t ≡ Goes after (record t { steps = t.steps + 1 })
goes_by p limit s t after goes more x words bytes =
    let a : (t.steps == limit) ≡ false = not_met t.steps limit more in
    let b : nat_lt 67108864 t.bytes ≡ false = fails_lt 67108864 t.bytes bytes in
    let c : nat_lt 1048576 (frame_words after.stack) ≡ false = fails_lt 1048576 (frame_words after.stack) words in
    rw (goes, a, x.is, x.does, none_held s.stack, none_held after.stack, x.counts t, b, c) refl

-- the address of the instruction at a place of a code
abbrev pub line_address : Option Line → ℕ
line_address None = 0
line_address (Some l) = l.at

abbrev pub address : Code → ℕ → ℕ
address code line = line_address (slice_get code.insns line)

-- the initialiser of the class, or that there is none
pub record ClinitCode (new : Brought) (d : ClassDesc) (number : ℕ) (code : Code) : Type 0 where
  pub place : ℕ
  pub found : clinit_of (small_chain new d) d ≡ Some place
  pub is_number : method_number (small_chain new d) 2 place ≡ number
  pub coded : code_of (small_chain new d) number ≡ Some code
  pub words : code.ins ≡ 0
  pub laid : laid_from 0 code.insns ≡ true
  pub narrow : code.regs < 65536

abbrev pub ClinitFound : Brought → ClassDesc → ℕ → Option Code → Type 0
ClinitFound new d number None = clinit_of (small_chain new d) d ≡ None
ClinitFound new d number (Some code) = ClinitCode new d number code

-- what the machine finds in the program of a small file
pub record Found (new : Brought) (v : View) (main clinit : ℕ) : Type 0 where
  pub class : ClassIs v.class
  pub no_values : list_all has_no_value v.class.fields ≡ true
  pub place : ℕ
  pub method : method_of (small_chain new v.class) main ≡ Some (in_class 2 place)
  pub coded : code_of (small_chain new v.class) main ≡ Some v.main
  pub words : v.main.ins ≡ 1
  pub laid : laid_from 0 v.main.insns ≡ true
  pub narrow : v.main.regs < 65536
  pub init : ClinitFound new v.class clinit v.clinit

-- there is an element at a place within a list
pub record Here {A : Type 0} (xs : List A) (i : ℕ) : Type 0 where
  pub item : A
  pub there : slice_get xs i ≡ Some item

here : {A : Type 0} (xs : List A) (i : ℕ) → i < length xs → Here xs i
here [] i h = absurd (omega arith)
here (x ∷ xs) zero h = record { item = x; there = refl }
here (x ∷ xs) (suc i) h = let r : Here xs i = here xs i (omega arith) in record { item = r.item; there = r.there }

address_zero : (code : Code) → 0 < length code.insns → laid_from 0 code.insns ≡ true → address code 0 ≡ 0
address_zero code some laid =
    let h : Here code.insns 0 = here code.insns 0 some in
    ap line_address h.there ∙ first_laid 0 code.insns h.item laid h.there

-- the stack after an instruction of a frame
abbrev pub next_stack : Bool → ℕ → Code → ℕ → List ℕ → List Value → List Entry → List Entry
next_stack true method code line words extra below = on_frame past_call below
next_stack false method code line words extra below = Call (frame method (address code (line + 1)) words extra) ∷ below

module _ (new : Brought) (d : ClassDesc) (is : ClassIs d) (things : List Thing) (main : ℕ) (method : ℕ) (code : Code)
    (coded : code_of (small_chain new d) method ≡ Some code) (laid : laid_from 0 code.insns ≡ true)
    (status : ClassState) (open_ : IsOpen status) (started : Bool) (f : Registers) (fits : FrameFits d code f)
    (statics : List ℕ) (sized : length statics ≡ length d.fields) (extra : List Value) (below : List Entry) (out : List ℕ) where
  abbrev pub frame_now : State
  frame_now = base things main statics status started (Call (frame method (address code f.line) f.words extra) ∷ below) out

  abbrev pub frame_next : Effect → State
  frame_next e = base things main e.statics status started (next_stack e.returns method code f.line e.registers extra below) (out ++ e.printed)

  next_address : (l : Line) (b : Bool) (words : List ℕ) → slice_get code.insns f.line ≡ Some l → (b ≡ false → f.line + 1 < length code.insns)
      → stack_after b method (l.at + l.units) words extra below ≡ next_stack b method code f.line words extra below
  next_address l true words at next = refl
  next_address l false words at next =
      let h : Here code.insns (suc f.line) = here code.insns (suc f.line) (let n : f.line + 1 < length code.insns = next refl in omega (arith, n)) in
      let a : h.item.at ≡ l.at + l.units = next_laid 0 code.insns f.line l h.item laid at h.there in
      let e : address code (f.line + 1) ≡ l.at + l.units = rw add-one (ap line_address h.there ∙ a) in
      ap (λ (n : ℕ). Call (frame method n words extra) ∷ below) (sym e)

  found_line : (l : Line) → slice_get code.insns f.line ≡ Some l → line_of (small_chain new d) (frame method (address code f.line) f.words extra) ≡ Some l
  found_line l at = rw (coded, at) (find_laid 0 code.insns f.line l laid at)

  frame_does_at : (l : Line) → slice_get code.insns f.line ≡ Some l → DoesTo (small_chain new d) frame_now (deeds_of (small_chain new d) frame_now)
      (frame_next (effect_of d l.insn f.words statics))
  frame_does_at l at =
      let p : Program = small_chain new d in
      let e : Effect = effect_of d l.insn f.words statics in
      let fit : insn_fits d (length f.words) l.insn ≡ true = list_all-get (line_fits d (length f.words)) code.insns f.line l fits.fits at in
      let P : ℕ → Type 0 = λ n. DoesTo p (base things main statics status started (Call (frame method n f.words extra) ∷ below) out)
      (by_need p (base things main statics status started (Call (frame method n f.words extra) ∷ below) out) (needed_by p l.insn)
      (row p (base things main statics status started (Call (frame method n f.words extra) ∷ below) out) (frame method n f.words extra) l.units l.insn))
      (base things main e.statics status started (stack_after e.returns method (l.at + l.units) e.registers extra below) (out ++ e.printed)) in
      let x : P l.at = insn_does new d is things main status open_ started method l.at l.units f.words statics extra below out sized l.insn fit in
      let y : P (address code f.line) = subst P (sym (ap line_address at)) x in
      let same : deeds_of p frame_now ≡ by_need p frame_now (needed_by p l.insn) (row p frame_now (frame method (address code f.line) f.words extra) l.units l.insn) =
      ap (λ o. by_need p frame_now (needed_at p o) (instruction_move p frame_now (frame method (address code f.line) f.words extra) o)) (found_line l at) in
      let goes : e.returns ≡ false → f.line + 1 < length code.insns = λ r. next_stands d code f statics fits (rw at r) in
      record {
        list = y.list;
        is = same ∙ y.is;
        does = y.does ∙ ap (λ stack. base things main e.statics status started stack (out ++ e.printed)) (next_address l e.returns e.registers at goes);
        counts = y.counts;
      }

  -- the step of a frame does what the plain run does
  frame_does : DoesTo (small_chain new d) frame_now (deeds_of (small_chain new d) frame_now) (frame_next (effect_at d code f statics))
  frame_does =
      let h : Here code.insns f.line = here code.insns f.line fits.stands in
      let same : effect_of d h.item.insn f.words statics ≡ effect_at d code f statics = ap (λ o. effect_of d (insn_or_return o) f.words statics) (sym h.there) in
      subst (λ (e : Effect). DoesTo (small_chain new d) frame_now (deeds_of (small_chain new d) frame_now) (frame_next e)) same (frame_does_at h.item h.there)

-- fields without a value are left as they are
no_deeds : (n : ℕ) (i : Init) → is_zero i ≡ true → value_deeds n i ≡ []
no_deeds n init.Zero e = refl
no_deeds n (init.Word w) e = cc
no_deeds n (init.Long w) e = cc
no_deeds n (init.Str t) e = cc
no_deeds n (init.Cls t) e = cc

values_none : (n : ℕ) (fields : List FieldDesc) → list_all has_no_value fields ≡ true → values_from n fields ≡ []
values_none n [] e = refl
values_none n (f ∷ fs) e =
    let h : (has_no_value f ≡ true) × (list_all has_no_value fs ≡ true) = both _ _ e in
    rw (no_deeds n f.init h.0) (values_none (n + 1) fs h.1)

module _ (new : Brought) (v : View) (main clinit : ℕ) (things : List Thing) where
  -- the status of the class and the stack, by the stage
  abbrev pub status_at : Stage → ClassState
  status_at stage.Untouched = Fresh
  status_at stage.Entered = InProgress
  status_at stage.Valued = InProgress
  status_at stage.Initialising = InProgress
  status_at stage.Finishing = InProgress
  status_at stage.Ready = Done
  status_at stage.Running = Done
  status_at stage.Over = Done

  abbrev pub started_at : Stage → Bool
  started_at stage.Untouched = false
  started_at stage.Entered = false
  started_at stage.Valued = false
  started_at stage.Initialising = false
  started_at stage.Finishing = false
  started_at stage.Ready = false
  started_at stage.Running = true
  started_at stage.Over = true

  abbrev pub clinit_stack : Option Code → Registers → List Entry
  clinit_stack None f = Record 2 Running ∷ []
  clinit_stack (Some code) f = Call (frame clinit (address code f.line) f.words []) ∷ Record 2 Running ∷ []

  abbrev pub stack_at : Plain → Stage → List Entry
  stack_at s stage.Untouched = []
  stack_at s stage.Entered = Record 2 Entered ∷ []
  stack_at s stage.Valued = Record 2 ValuesSet ∷ []
  stack_at s stage.Initialising = clinit_stack v.clinit s.clinit
  stack_at s stage.Finishing = Record 2 Running ∷ []
  stack_at s stage.Ready = []
  stack_at s stage.Running = Call (frame main (address v.main s.main.line) s.main.words (At (Num 0) ∷ [])) ∷ []
  stack_at s stage.Over = []

  -- the state of the machine where the plain run stands so and has printed so much
  abbrev pub state_at : Plain → List ℕ → State
  state_at s out = base things main s.statics (status_at s.stage) (started_at s.stage) (stack_at s s.stage) out

  abbrev pub clinit_waits : Stage → Bool
  clinit_waits stage.Untouched = true
  clinit_waits stage.Entered = true
  clinit_waits stage.Valued = true
  clinit_waits _ = false

  abbrev pub main_waits : Stage → Bool
  main_waits stage.Running = false
  main_waits stage.Over = false
  main_waits _ = true

  -- frames that were not entered are blank, and each has as many words as its code asks for
  pub record Begun (s : Plain) (at : Stage) : Type 0 where
    pub clinit_blank : clinit_waits at ≡ true → s.clinit ≡ blank (clinit_words v.clinit)
    pub main_blank : main_waits at ≡ true → s.main ≡ blank (v.main.regs - 1)
    pub clinit_size : length s.clinit.words ≡ clinit_words v.clinit
    pub main_size : length s.main.words ≡ v.main.regs - 1

  begun_at : (s : Plain) (at next : Stage) → Begun s at → (clinit_waits next ≡ true → clinit_waits at ≡ true) → (main_waits next ≡ true → main_waits at ≡ true)
      → Begun (record s { stage = next }) next
  begun_at s at next b c m = record {
    clinit_blank = λ e. b.clinit_blank (c e);
    main_blank = λ e. b.main_blank (m e);
    clinit_size = b.clinit_size;
    main_size = b.main_size;
  }

  values_end_waiting : (c : Option Code) → clinit_waits (stage_after_values c) ≡ true → ⊥
  values_end_waiting None e = cc
  values_end_waiting (Some code) e = cc

  no_clinit_waits : (b : Bool) → clinit_waits (stage_after stage.Initialising stage.Finishing b) ≡ true → ⊥
  no_clinit_waits true e = cc
  no_clinit_waits false e = cc

  no_main_waits : (b : Bool) → main_waits (stage_after stage.Running stage.Over b) ≡ true → ⊥
  no_main_waits true e = cc
  no_main_waits false e = cc

  main_ends_waiting : (b : Bool) → clinit_waits (stage_after stage.Running stage.Over b) ≡ true → ⊥
  main_ends_waiting true e = cc
  main_ends_waiting false e = cc

  begun_clinit : (c : Option Code) (s : Plain) → Begun s stage.Initialising → Begun (clinit_move v.class c s).state (clinit_move v.class c s).state.stage
  begun_clinit None s b = begun_at s stage.Initialising stage.Finishing b (λ e. e) (λ e. e)
  begun_clinit (Some code) s b = record {
    clinit_blank = λ e. absurd (no_clinit_waits (effect_at v.class code s.clinit s.statics).returns e);
    main_blank = λ e. b.main_blank refl;
    clinit_size = registers_stay v.class (insn_of code s.clinit.line) s.clinit.words s.statics ∙ b.clinit_size;
    main_size = b.main_size;
  }

  pub begun_on : (s : Plain) (at : Stage) → Begun s at → Begun (plain_move v s at).state (plain_move v s at).state.stage
  begun_on s stage.Untouched b = begun_at s stage.Untouched stage.Entered b (λ e. e) (λ e. e)
  begun_on s stage.Entered b = begun_at s stage.Entered stage.Valued b (λ e. e) (λ e. e)
  begun_on s stage.Valued b = begun_at s stage.Valued (stage_after_values v.clinit) b (λ e. absurd (values_end_waiting v.clinit e)) (λ e. refl)
  begun_on s stage.Initialising b = begun_clinit v.clinit s b
  begun_on s stage.Finishing b = begun_at s stage.Finishing stage.Ready b (λ e. e) (λ e. e)
  begun_on s stage.Ready b = begun_at s stage.Ready stage.Running b (λ e. e) (λ e. refl)
  begun_on s stage.Running b = record {
    clinit_blank = λ e. absurd (main_ends_waiting (effect_at v.class v.main s.main s.statics).returns e);
    main_blank = λ e. absurd (no_main_waits (effect_at v.class v.main s.main s.statics).returns e);
    clinit_size = b.clinit_size;
    main_size = registers_stay v.class (insn_of v.main s.main.line) s.main.words s.statics ∙ b.main_size;
  }
  begun_on s stage.Over b = begun_at s stage.Over stage.Over b (λ e. e) (λ e. e)

  -- no stack of the run has more than a frame, and that has few words
  clinit_stack_fits : (c : Option Code) (f : Registers) → ClinitFound new v.class clinit c → length f.words ≡ clinit_words c → frame_words (clinit_stack c f) ≤ 1048576
  clinit_stack_fits None f r e = lit≤ tt
  clinit_stack_fits (Some code) f r e = let none : List Value = [] in omega (arith, length-append (words_of f.words) none, length_words f.words, e, r.narrow)

  stack_fits : (s : Plain) (at : Stage) → Found new v main clinit → Begun s at → frame_words (stack_at s at) ≤ 1048576
  stack_fits s stage.Untouched r b = lit≤ tt
  stack_fits s stage.Entered r b = lit≤ tt
  stack_fits s stage.Valued r b = lit≤ tt
  stack_fits s stage.Initialising r b = clinit_stack_fits v.clinit s.clinit r.init b.clinit_size
  stack_fits s stage.Finishing r b = lit≤ tt
  stack_fits s stage.Ready r b = lit≤ tt
  stack_fits s stage.Running r b = omega (arith, length-append (words_of s.main.words) (At (Num 0) ∷ []), length_words s.main.words, b.main_size, r.narrow)
  stack_fits s stage.Over r b = lit≤ tt

  -- so many steps were counted, and the array of arguments
  abbrev pub counted : ℕ → Tally
  counted made = record { steps = made; bytes = 16; literals = [] }

  -- the state for a stage that is not read off the plain state
  abbrev pub state_for : Plain → Stage → List ℕ → State
  state_for s at out = base things main s.statics (status_at at) (started_at at) (stack_at s at) out

  abbrev pub StepIs : ℕ → ℕ → Plain → Stage → List ℕ → Type 0
  StepIs limit made s at out = next (small_chain new v.class) (lazy_setting limit) (state_for s at out) (counted made)
      ≡ Goes (state_at (plain_move v s at).state (out ++ (plain_move v s at).printed)) (counted (made + 1))

  -- a stack with an entry is no end
  pub clinit_no_end : (s : Plain) (c : Option Code) (end : List Entry → Option End) → ((e : Entry) (rest : List Entry) → end (e ∷ rest) ≡ None)
      → end (clinit_stack c s.clinit) ≡ None
  clinit_no_end s None end h = h _ _
  clinit_no_end s (Some code) end h = h _ _

  module _ (found : Found new v main clinit) (limit made : ℕ) (more : made ≢ limit) (s : Plain) (out : List ℕ) where
    untouched_is : StepIs limit made s stage.Untouched out
    untouched_is = goes_by (small_chain new v.class) limit (state_for s stage.Untouched out) (counted made) _ refl more
        (record {
          list = Saw (OfStatus 2 Fresh) ∷ SetStatus 2 InProgress ∷ Push (Record 2 Entered) ∷ [];
          is = rw (found.method) refl;
          does = rw (append-nil out) refl;
          counts = λ t. refl;
        }) (lit≤ tt) (lit≤ tt)

    entered_is : StepIs limit made s stage.Entered out
    entered_is = goes_by (small_chain new v.class) limit (state_for s stage.Entered out) (counted made) _ refl more
        (record {
          list = Saw (OfStatus 0 Done) ∷ SetPhase ValuesSet ∷ [];
          is = rw (found.class.parent, values_none _ v.class.fields found.no_values) refl;
          does = rw (append-nil out) refl;
          counts = λ t. refl;
        }) (lit≤ tt) (lit≤ tt)

    finishing_is : StepIs limit made s stage.Finishing out
    finishing_is = goes_by (small_chain new v.class) limit (state_for s stage.Finishing out) (counted made) _ refl more
        (record {
          list = SetStatus 2 Done ∷ Pop ∷ [];
          is = refl;
          does = rw (append-nil out) refl;
          counts = λ t. refl;
        }) (lit≤ tt) (lit≤ tt)

    valued_with : (c : Option Code) → v.clinit ≡ c → ClinitFound new v.class clinit c → ClinitFits v.class c s.clinit → Begun s stage.Valued
        → DoesTo (small_chain new v.class) (state_for s stage.Valued out) (deeds_of (small_chain new v.class) (state_for s stage.Valued out))
        (state_at (plain_move v s stage.Valued).state (out ++ []))
    valued_with None is r fits b = record {
      list = SetStatus 2 Done ∷ Pop ∷ [];
      is = rw r refl;
      does = rw (is, append-nil out) refl;
      counts = λ t. refl;
    }
    valued_with (Some code) is r fits b =
        let first : s.clinit ≡ blank code.regs = b.clinit_blank refl ∙ ap (λ (o : Option Code). blank (clinit_words o)) is in
        let some : 0 < length code.insns = omega (arith, fits.stands) in
        let zero : address code 0 ≡ 0 = address_zero code some r.laid in
        let whole : code.regs - 0 ≡ code.regs = omega arith in
        record {
          list = SetPhase Running ∷ Push (Call (record { method = clinit; at = 0; registers = replicate (code.regs - 0) (Word 0) ++ [] })) ∷ [];
          is = rw (r.found, r.is_number, r.coded, r.words) refl;
          does = rw (is, append-nil out, first, zero, zero_words code.regs, whole) refl;
          counts = λ t. refl;
        }

    valued_is : ClinitFits v.class v.clinit s.clinit → Begun s stage.Valued → StepIs limit made s stage.Valued out
    valued_is fits b = goes_by (small_chain new v.class) limit (state_for s stage.Valued out) (counted made) _ refl more
        (valued_with v.clinit refl found.init fits b)
        (stack_fits (plain_move v s stage.Valued).state (plain_move v s stage.Valued).state.stage found (begun_on s stage.Valued b)) (lit≤ tt)

    ready_is : FrameFits v.class v.main s.main → Begun s stage.Ready → StepIs limit made s stage.Ready out
    ready_is fits b =
        let first : s.main ≡ blank (v.main.regs - 1) = b.main_blank refl in
        let some : 0 < length v.main.insns = omega (arith, fits.stands) in
        let zero : address v.main 0 ≡ 0 = address_zero v.main some found.laid in
        goes_by (small_chain new v.class) limit (state_for s stage.Ready out) (counted made) _ refl more
        (record {
          list = Saw (OfStatus 2 Done) ∷ Start ∷ Push (Call (record { method = main; at = 0; registers = replicate (v.main.regs - 1) (Word 0) ++ At (Num 0) ∷ [] })) ∷ [];
          is = rw (found.coded, found.method, found.words) refl;
          does = rw (append-nil out, first, zero, zero_words (v.main.regs - 1)) refl;
          counts = λ t. refl;
        })
        (stack_fits (plain_move v s stage.Ready).state stage.Running found (begun_on s stage.Ready b)) (lit≤ tt)

    -- the states of the two runs are the same after an instruction
    clinit_after_by : (code : Code) (returns : Bool) (r st pr : List ℕ) → v.clinit ≡ Some code
        → base things main st InProgress false (next_stack returns clinit code s.clinit.line r [] (Record 2 Running ∷ [])) (out ++ pr)
        ≡ state_at (clinit_step s (record { registers = r; statics = st; printed = pr; returns = returns })).state (out ++ pr)
    clinit_after_by code true r st pr is = refl
    clinit_after_by code false r st pr is = rw is refl

    main_after_by : (returns : Bool) (r st pr : List ℕ)
        → base things main st Done true (next_stack returns main v.main s.main.line r (At (Num 0) ∷ []) []) (out ++ pr)
        ≡ state_at (main_step s (record { registers = r; statics = st; printed = pr; returns = returns })).state (out ++ pr)
    main_after_by true r st pr = refl
    main_after_by false r st pr = refl

    initialising_with : (c : Option Code) → v.clinit ≡ c → IsSome c → ClinitFound new v.class clinit c → ClinitFits v.class c s.clinit
        → length s.statics ≡ length v.class.fields
        → DoesTo (small_chain new v.class) (state_for s stage.Initialising out) (deeds_of (small_chain new v.class) (state_for s stage.Initialising out))
        (state_at (clinit_move v.class c s).state (out ++ (clinit_move v.class c s).printed))
    initialising_with None is some r fits sized = cc
    initialising_with (Some code) is some r fits sized =
        let p : Program = small_chain new v.class in
        let e : Effect = effect_at v.class code s.clinit s.statics in
        let below : List Entry = Record 2 Running ∷ [] in
        let after : State = base things main e.statics InProgress false (next_stack e.returns clinit code s.clinit.line e.registers [] below) (out ++ e.printed) in
        let P : Option Code → Type 0 = λ o. DoesTo p (base things main s.statics InProgress false (clinit_stack o s.clinit) out)
        (deeds_of p (base things main s.statics InProgress false (clinit_stack o s.clinit) out)) after in
        let x : P (Some code) = frame_does new v.class found.class things main clinit code r.coded r.laid InProgress (inl refl) false s.clinit fits s.statics sized [] below out in
        let y : P v.clinit = subst P (sym is) x in
        record { list = y.list; is = y.is; does = y.does ∙ clinit_after_by code e.returns e.registers e.statics e.printed is; counts = y.counts }

    initialising_is : IsSome v.clinit → ClinitFits v.class v.clinit s.clinit → Begun s stage.Initialising → length s.statics ≡ length v.class.fields
        → end_of (small_chain new v.class) (state_for s stage.Initialising out) ≡ None → StepIs limit made s stage.Initialising out
    initialising_is some fits b sized goes = goes_by (small_chain new v.class) limit (state_for s stage.Initialising out) (counted made) _ goes more
        (initialising_with v.clinit refl some found.init fits sized)
        (stack_fits (plain_move v s stage.Initialising).state (plain_move v s stage.Initialising).state.stage found (begun_on s stage.Initialising b)) (lit≤ tt)

    running_is : FrameFits v.class v.main s.main → Begun s stage.Running → length s.statics ≡ length v.class.fields → StepIs limit made s stage.Running out
    running_is fits b sized =
        let e : Effect = effect_at v.class v.main s.main s.statics in
        let x : DoesTo (small_chain new v.class) (state_for s stage.Running out) (deeds_of (small_chain new v.class) (state_for s stage.Running out))
        (base things main e.statics Done true (next_stack e.returns main v.main s.main.line e.registers (At (Num 0) ∷ []) []) (out ++ e.printed)) =
        frame_does new v.class found.class things main main v.main found.coded found.laid Done (inr refl) true s.main fits s.statics sized (At (Num 0) ∷ []) [] out in
        goes_by (small_chain new v.class) limit (state_for s stage.Running out) (counted made) _ refl more
        (record { list = x.list; is = x.is; does = x.does ∙ main_after_by e.returns e.registers e.statics e.printed; counts = x.counts })
        (stack_fits (plain_move v s stage.Running).state (plain_move v s stage.Running).state.stage found (begun_on s stage.Running b)) (lit≤ tt)

    -- a step of the plain run is a step of the machine
    pub step_is : (at : Stage) → s.stage ≡ at → Fits v s → Begun s at → is_over at ≡ false → StepIs limit made s at out
    step_is stage.Untouched is fits b goes = untouched_is
    step_is stage.Entered is fits b goes = entered_is
    step_is stage.Valued is fits b goes = valued_is fits.clinit b
    step_is stage.Initialising is fits b goes = initialising_is (fits.initialises is) fits.clinit b fits.statics
        (clinit_no_end s v.clinit (λ stack. end_by (small_chain new v.class) (state_for s stage.Initialising out) None stack false) (λ e rest. refl))
    step_is stage.Finishing is fits b goes = finishing_is
    step_is stage.Ready is fits b goes = ready_is fits.main b
    step_is stage.Running is fits b goes = running_is fits.main b fits.statics
    step_is stage.Over is fits b goes = cc
