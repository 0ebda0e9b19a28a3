-- What the deeds of a step are: those of a row, or one of a few lists that initialisation, the start and a pending throwable
-- give. So a law of steps is shown of each of them, with what is known of it.
use Rattle.std.proofs.Common.{◌≡◌, ℕ, ◌+◌, List, [], ◌∷◌, ◌++◌, length, slice_get, Option, Some, None, Bool, true, false, option_map, refl, ap, subst, arith, ◌<◌}
use Rattle.pi_model.specs.declared.reason.ClassState.{ClassState}
use Rattle.pi_model.specs.declared.reason.ClassState.TheVariants.{Fresh, InProgress, Done, Erroneous}
use Rattle.pi_model.specs.declared.describe.ClassDesc.{ClassDesc}
use Rattle.pi_model.specs.declared.describe.FieldDesc.{FieldDesc}
use Rattle.pi_model.specs.declared.describe.Catch.{Catch}
use Rattle.pi_model.specs.declared.describe.Line.{Line}
use Rattle.pi_model.specs.declared.describe.Init.{Init}
use Rattle.pi_model.specs.declared.describe.Init.TheVariants as init
use Rattle.pi_model.specs.Program.{Program, all_fields, field_number, method_number}
use Rattle.pi_model.specs.Known.{Known, Error, ExceptionInInitializer, NoClassDefFound, descriptor_of}
use Rattle.pi_model.specs.Search.{class_at, class_named}
use Rattle.pi_model.specs.Fields.{new_instance}
use Rattle.pi_model.specs.Values.{Ref, Lit, Cls, Value, Word, Long, At}
use Rattle.pi_machine.specs.State.{State, Frame, Phase, Entered, ValuesSet, Running, Entry, Call, Record, Thrown}
use Rattle.pi_machine.specs.Deeds.{OfStatus, Deed, Make, Touch, Saw, SetStatic, SetStatus, SetField, SetItem, Start, Push, Pop, Jump, SetPhase, Pend, Unpend, Hold}
use Rattle.pi_machine.specs.Operands.{Deeds, first_do}
use Rattle.pi_machine.specs.Codes.{code_of, line_of}
use Rattle.pi_machine.specs.Throwing.{next_made, throws, is_of_type, handler_for, to_handler, fails, throwable_move}
use Rattle.pi_machine.specs.Rows.{row}
use Rattle.pi_machine.specs.Rows.Calls.{entry_frame}
use Rattle.pi_machine.specs.Initialisation.{Needed, need_of, by_status, after_needed, by_need, main_frame, argument_list, start_move, value_deeds, values_from, clinit_of, calls_clinit, clinit_move, record_move}
use Rattle.pi_machine.specs.Sound.{EachOf}
use Rattle.pi_machine.specs.Step.{instruction_move, move_of, deeds_of}
use Rattle.pi_machine.specs.StepLaws.{EachDeed, IsSeen, HasField, HasItem, IsFieldOf, IsLookTrue, LooksAreTrue}
use Rattle.pi_machine.proofs.FieldNumbers.{field_at}
use Rattle.pi_machine.proofs.RowDeeds.{row_deeds}
use Rattle.pi_machine.proofs.RowDeeds.Words.{Does, RowFact, on_some, stuck, these, before, made_from}

-- The deeds of a row; a frame is left, or a throwable comes to its handler; main is called; the static values of a class are
-- set; its initialiser is called; a class is done, or erroneous with the throwable kept or replaced; a throwable is made; a
-- class is entered; the status of a class was seen before another move.
pub data Move (p : Program) (s : State) : Type 0 where
  OfRow : (f : Frame) (below : List Entry) (l : Line) (deeds : List Deed) (top : s.stack ≡ Call f ∷ below) (at : line_of p f ≡ Some l) (is : row p s f l.units l.insn ≡ Some deeds) → Move p s
  LeavesFrame : Move p s
  Handles : (t : Ref) (h : Catch) (is : s.pending ≡ Some t) → Move p s
  CallsMain : (m : ℕ) (f : Frame) (is : entry_frame m (code_of p m) (argument_list s.args) ≡ Some f) → Move p s
  SetsValues : (c : ℕ) (d : ClassDesc) (is : class_at p c ≡ Some d) → Move p s
  Initialises : (m : ℕ) (f : Frame) (is : entry_frame m (code_of p m) [] ≡ Some f) → Move p s
  Completes : (c : ℕ) (phase : Phase) (below : List Entry) (top : s.stack ≡ Record c phase ∷ below) → Move p s
  Fails : (c : ℕ) (phase : Phase) (below : List Entry) (top : s.stack ≡ Record c phase ∷ below) → Move p s
  Replaces : (c : ℕ) (phase : Phase) (below : List Entry) (top : s.stack ≡ Record c phase ∷ below) (class : ℕ) → Move p s
  Throws : (class : ℕ) → Move p s
  EntersClass : (c : ℕ) (is : slice_get s.statuses c ≡ Some Fresh) → Move p s
  Sees : (c : ℕ) (status : ClassState) (is : slice_get s.statuses c ≡ Some status) (move : Move p s) → Move p s

-- the deeds that set the static values of a class
abbrev pub values_in : Program → ℕ → ClassDesc → List Deed
values_in p c d = values_from (field_number p c 0) d.fields ++ SetPhase ValuesSet ∷ []

abbrev pub deeds_in : {p : Program} {s : State} → Move p s → List Deed
deeds_in (OfRow f below l deeds top at is) = deeds
deeds_in LeavesFrame = Pop ∷ []
deeds_in (Handles t h is) = Unpend ∷ Hold (Thrown t) ∷ Jump h.at ∷ []
deeds_in (CallsMain m f is) = Start ∷ Push (Call f) ∷ []
deeds_in {p} (SetsValues c d is) = values_in p c d
deeds_in (Initialises m f is) = SetPhase Running ∷ Push (Call f) ∷ []
deeds_in (Completes c phase below top) = SetStatus c Done ∷ Pop ∷ []
deeds_in (Fails c phase below top) = SetStatus c Erroneous ∷ Pop ∷ []
deeds_in {p} {s} (Replaces c phase below top class) = SetStatus c Erroneous ∷ Pop ∷ Make (new_instance p class) ∷ Pend (next_made s) ∷ []
deeds_in {p} {s} (Throws class) = Make (new_instance p class) ∷ Pend (next_made s) ∷ []
deeds_in (EntersClass c is) = Saw (OfStatus c Fresh) ∷ SetStatus c InProgress ∷ Push (Record c Entered) ∷ []
deeds_in (Sees c status is move) = Saw (OfStatus c status) ∷ deeds_in move

-- these deeds are those of a move
pub record IsMove (p : Program) (s : State) (deeds : List Deed) : Type 0 where
  pub move : Move p s
  pub is : deeds_in move ≡ deeds

module _ (p : Program) (s : State) where
  abbrev Moves : Deeds → Type 0
  Moves deeds = Does (IsMove p s) deeds

  this : (m : Move p s) → Moves (Some (deeds_in m))
  this m = these (record { move = m; is = refl })

  thrown : (class : Known) → Moves (throws p s class)
  thrown class = made_from (λ c. Make (new_instance p c) ∷ Pend (next_made s) ∷ []) (class_named p (descriptor_of class)) (λ c. record { move = Throws c; is = refl })

  -- a pending throwable
  by_handler : (t : Ref) (h : Option Catch) → s.pending ≡ Some t → Moves (to_handler t h)
  by_handler t None e = this LeavesFrame
  by_handler t (Some h) e = this (Handles t h e)

  by_failure : (c : ℕ) (phase : Phase) (below : List Entry) (b : Bool) → s.stack ≡ Record c phase ∷ below → Moves (fails p s c b)
  by_failure c phase below true e = this (Fails c phase below e)
  by_failure c phase below false e = by_class (class_named p (descriptor_of ExceptionInInitializer))
    where
      by_class : (class : Option ℕ) → Moves (option_map (λ ds. SetStatus c Erroneous ∷ Pop ∷ ds) (option_map (λ k. Make (new_instance p k) ∷ Pend (next_made s) ∷ []) class))
      by_class None = stuck
      by_class (Some class) = this (Replaces c phase below e class)

  by_throwable : (t : Ref) (stack : List Entry) → s.pending ≡ Some t → s.stack ≡ stack → Moves (throwable_move p s t stack)
  by_throwable t [] e top = stuck
  by_throwable t (Call f ∷ below) e top = by_handler t (handler_for p s t f) e
  by_throwable t (Record c phase ∷ below) e top = by_failure c phase below (is_of_type p s t (descriptor_of Error)) top

  -- the start, and instructions
  by_main : (m : ℕ) (f : Option Frame) → entry_frame m (code_of p m) (argument_list s.args) ≡ f → Moves (main_frame f)
  by_main m None e = stuck
  by_main m (Some f) e = this (CallsMain m f e)

  by_start : (started : Bool) (main : Option ℕ) → Moves (start_move p s started main)
  by_start true main = stuck
  by_start false None = stuck
  by_start false (Some m) = by_main m (entry_frame m (code_of p m) (argument_list s.args)) refl

  by_row : (f : Frame) (below : List Entry) (l : Line) (deeds : Deeds) → s.stack ≡ Call f ∷ below → line_of p f ≡ Some l → row p s f l.units l.insn ≡ deeds → Moves deeds
  by_row f below l None top at e = stuck
  by_row f below l (Some deeds) top at e = this (OfRow f below l deeds top at e)

  by_instruction : (f : Frame) (below : List Entry) (l : Option Line) → s.stack ≡ Call f ∷ below → line_of p f ≡ l → Moves (instruction_move p s f l)
  by_instruction f below None top at = stuck
  by_instruction f below (Some l) top at = by_row f below l (row p s f l.units l.insn) top at refl

  -- records
  by_frame : (m : ℕ) (f : Option Frame) → entry_frame m (code_of p m) [] ≡ f → Moves (calls_clinit f)
  by_frame m None e = stuck
  by_frame m (Some f) e = this (Initialises m f e)

  by_clinit : (c : ℕ) (phase : Phase) (below : List Entry) (place : Option ℕ) → s.stack ≡ Record c phase ∷ below → Moves (clinit_move p c place)
  by_clinit c phase below None e = this (Completes c phase below e)
  by_clinit c phase below (Some place) e = by_frame (method_number p c place) (entry_frame (method_number p c place) (code_of p (method_number p c place)) []) refl

  by_record : (c : ℕ) (phase : Phase) (below : List Entry) (d : Option ClassDesc) → s.stack ≡ Record c phase ∷ below → class_at p c ≡ d → Moves (record_move p c phase d)
  by_record c phase below None top e = stuck
  by_record c Entered below (Some d) top e = this (SetsValues c d e)
  by_record c ValuesSet below (Some d) top e = by_clinit c ValuesSet below (clinit_of p d) top
  by_record c Running below (Some d) top e = this (Completes c Running below top)

  by_top : (pending : Option Ref) (stack : List Entry) → s.pending ≡ pending → s.stack ≡ stack → Moves (move_of p s pending stack)
  by_top (Some t) stack e top = by_throwable t stack e top
  by_top None [] e top = by_start s.started s.main
  by_top None (Call f ∷ below) e top = by_instruction f below (line_of p f) top refl
  by_top None (Record c phase ∷ below) e top = by_record c phase below (class_at p c) top refl

  -- needed classes
  seen : (c : ℕ) (status : ClassState) {move : Deeds} → slice_get s.statuses c ≡ Some status → Moves move → Moves (first_do (Saw (OfStatus c status)) move)
  seen c status e a = before (Saw (OfStatus c status)) (λ deeds h. record { move = Sees c status e h.move; is = ap (λ ds. Saw (OfStatus c status) ∷ ds) h.is }) a

  by_state : (c : ℕ) (status : Option ClassState) (move : Deeds) → slice_get s.statuses c ≡ status → Moves move → Moves (by_status p s c status move)
  by_state c None move e a = stuck
  by_state c (Some Fresh) move e a = this (EntersClass c e)
  by_state c (Some InProgress) move e a = seen c InProgress e a
  by_state c (Some Done) move e a = seen c Done e a
  by_state c (Some Erroneous) move e a = seen c Erroneous e (thrown NoClassDefFound)

  by_classes : (classes : List ℕ) (move : Deeds) → Moves move → Moves (after_needed p s classes move)
  by_classes [] move a = a
  by_classes (c ∷ others) move a = by_state c (slice_get s.statuses c) (after_needed p s others move) refl (by_classes others move a)

  by_needed : (needed : Needed) (move : Deeds) → Moves move → Moves (by_need p s needed move)
  by_needed None move a = stuck
  by_needed (Some classes) move a = by_classes classes move a

  step_moves : Moves (deeds_of p s)
  step_moves = by_needed (need_of p s s.pending s.stack) (move_of p s s.pending s.stack) (by_top s.pending s.stack refl refl)

-- what holds of the deeds of each move holds of those of each step
pub by_move : (Q : List Deed → Type 0) (p : Program) (s : State) → ((m : Move p s) → Q (deeds_in m)) → (deeds : List Deed) → deeds_of p s ≡ Some deeds → Q deeds
by_move Q p s law deeds e = let h : IsMove p s deeds = on_some deeds e (step_moves p s) in subst Q h.is (law h.move)

-- a property of the constants of a class's fields
abbrev pub OnInit : (Value → Type 0) → Init → Type 0
OnInit V (init.Word n) = V (Word n)
OnInit V (init.Long n) = V (Long n)
OnInit V _ = Unit {0}

-- a property of lists that the deeds that set the static values of a class keep
pub record ValueLists (p : Program) (c : ℕ) (V : Value → Type 0) (Q : List Deed → Type 0) : Type 0 where
  pub class : (n : ℕ) → V (At (Cls n))
  pub value : (field : ℕ) (v : Value) (deeds : List Deed) → IsFieldOf p c field → V v → Q deeds → Q (SetStatic field v ∷ deeds)
  pub text : (field n : ℕ) (deeds : List Deed) → IsFieldOf p c field → Q deeds → Q (Touch n ∷ SetStatic field (At (Lit n)) ∷ deeds)

module _ {p : Program} {c : ℕ} {V : Value → Type 0} {Q : List Deed → Type 0} (k : ValueLists p c V Q) where
  first_value : (f : ℕ) (i : Init) (others deeds : List Deed) → IsFieldOf p c f → OnInit V i → Q (others ++ deeds) → Q ((value_deeds f i ++ others) ++ deeds)
  first_value f init.Zero others deeds e x h = h
  first_value f (init.Word n) others deeds e x h = k.value f (Word n) _ e x h
  first_value f (init.Long n) others deeds e x h = k.value f (Long n) _ e x h
  first_value f (init.Str n) others deeds e x h = k.text f n.0 _ e h
  first_value f (init.Cls n) others deeds e x h = k.value f (At (Cls n.0)) _ e (k.class n.0) h

  values_behind : (d : ClassDesc) → class_at p c ≡ Some d → (fields : List FieldDesc) → EachOf (λ (f : FieldDesc). OnInit V f.init) fields → (place f : ℕ) (deeds : List Deed)
      → f ≡ field_number p c place → place + length fields ≡ length d.fields → Q deeds → Q (values_from f fields ++ deeds)
  values_behind d e [] x place f deeds is all h = h
  values_behind d e (y ∷ others) x place f deeds is all h =
      first_value f y.init (values_from (f + 1) others) deeds (field_at p c d e place f is (omega (arith, all))) x.0
      (values_behind d e others x.1 (place + 1) (f + 1) deeds (omega (arith, is)) (omega (arith, all)) h)

  pub class_values : (d : ClassDesc) → class_at p c ≡ Some d → EachOf (λ (f : FieldDesc). OnInit V f.init) d.fields → (deeds : List Deed) → Q deeds
      → Q (values_from (field_number p c 0) d.fields ++ deeds)
  class_values d e x deeds h = values_behind d e d.fields x 0 (field_number p c 0) deeds refl (omega arith) h

any_inits : (fields : List FieldDesc) → EachOf (λ (f : FieldDesc). OnInit (λ v. Unit {0}) f.init) fields
any_inits [] = tt
any_inits (f ∷ fields) = (any_init f.init, any_inits fields)
  where
    any_init : (i : Init) → OnInit (λ v. Unit {0}) i
    any_init (init.Word n) = tt
    any_init (init.Long n) = tt
    any_init _ = tt

-- a property of each of these deeds
pub each_value : (P : Deed → Type 0) (p : Program) (c : ℕ) (d : ClassDesc) → class_at p c ≡ Some d → ((field : ℕ) (v : Value) → IsFieldOf p c field → P (SetStatic field v))
    → ((n : ℕ) → P (Touch n)) → P (SetPhase ValuesSet) → EachDeed P (values_in p c d)
each_value P p c d e value touch phase =
    let lists : ValueLists p c (λ v. Unit {0}) (EachDeed P) = record {
      class = λ n. tt;
      value = λ field v deeds is x h. (value field v is, h);
      text = λ field n deeds is h. (touch n, (value field (At (Lit n)) is, h));
    } in
    class_values lists d e (any_inits d.fields) (SetPhase ValuesSet ∷ []) (phase, tt)

each_deed : (P Q : Deed → Type 0) → ((d : Deed) → P d → Q d) → (deeds : List Deed) → EachDeed P deeds → EachDeed Q deeds
each_deed P Q one [] h = tt
each_deed P Q one (d ∷ deeds) h = (one d h.0, each_deed P Q one deeds h.1)

-- what is known of each deed of a step
abbrev pub MoveFact : Program → State → Deed → Type 0
MoveFact p s (Saw look) = IsSeen p s look
MoveFact p s (SetStatic field v) = length s.statics ≡ all_fields p → field < length s.statics
MoveFact p s (SetField n place v) = HasField s n place
MoveFact p s (SetItem n place v) = HasItem s n place
MoveFact p s _ = Unit {0}

module _ (p : Program) (s : State) where
  row_fact : (f : Frame) (d : Deed) → RowFact p s f d → MoveFact p s d
  row_fact f (Saw look) h = h
  row_fact f (SetStatic field v) h = λ full. h
  row_fact f (SetField n place v) h = h
  row_fact f (SetItem n place v) h = h
  row_fact f _ h = tt

  field_there : (c field : ℕ) → IsFieldOf p c field → length s.statics ≡ all_fields p → field < length s.statics
  field_there c field h full = let below : field < all_fields p = h.below in omega (arith, below, full)

  move_facts : (m : Move p s) → EachDeed (MoveFact p s) (deeds_in m)
  move_facts (OfRow f below l deeds top at is) = on_some deeds is (row_deeds p s f (row_fact f) (λ m. tt) l.units l.insn)
  move_facts LeavesFrame = (tt, tt)
  move_facts (Handles t h is) = (tt, (tt, (tt, tt)))
  move_facts (CallsMain m f is) = (tt, (tt, tt))
  move_facts (SetsValues c d is) = each_value (MoveFact p s) p c d is (λ field v h. field_there c field h) (λ n. tt) tt
  move_facts (Initialises m f is) = (tt, (tt, tt))
  move_facts (Completes c phase below top) = (tt, (tt, tt))
  move_facts (Fails c phase below top) = (tt, (tt, tt))
  move_facts (Replaces c phase below top class) = (tt, (tt, (tt, (tt, tt))))
  move_facts (Throws class) = (tt, (tt, tt))
  move_facts (EntersClass c is) = (is, (tt, (tt, tt)))
  move_facts (Sees c status is move) = (is, move_facts move)

-- a property of each deed of a step
pub step_deeds : (P : Deed → Type 0) (p : Program) (s : State) → ((d : Deed) → MoveFact p s d → P d) → (deeds : List Deed) → deeds_of p s ≡ Some deeds → EachDeed P deeds
step_deeds P p s one deeds e = each_deed (MoveFact p s) P one deeds (by_move (EachDeed (MoveFact p s)) p s (move_facts p s) deeds e)

-- all that is told as read is so
look_is_true : (p : Program) (s : State) (d : Deed) → MoveFact p s d → IsLookTrue p s d
look_is_true p s (Saw look) h = h
look_is_true p s _ h = tt

pub looks_are_true : LooksAreTrue
looks_are_true = λ p s deeds e. step_deeds (IsLookTrue p s) p s (look_is_true p s) deeds e
