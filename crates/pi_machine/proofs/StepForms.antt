-- The form of the list of deeds of a step: one target of its writes, one class of the statics that it reads, and one object
-- made at most, before any literal is touched.
use Rattle.std.proofs.Common.{◌≡◌, ℕ, List, [], ◌∷◌, Some, Bool, true, false, not, option_map, refl, ap, length}
use Rattle.std.specs.Prelude.{if◌then◌else◌, ◌||◌}
use Rattle.std.specs.List.{list_any}
use Rattle.pi_model.specs.Program.{Program, all_fields}
use Rattle.pi_model.specs.Search.{Member, class_at}
use Rattle.pi_machine.specs.State.{State, Frame, ValuesSet}
use Rattle.pi_machine.specs.Deeds.{Deed, Make, Touch, SetStatic, SetStatus, SetField, SetItem, CallNative, SetPhase}
use Rattle.pi_machine.specs.Acts.{field_class}
use Rattle.pi_machine.specs.StepLaws.{EachDeed, IsFieldOf}
use Rattle.pi_machine.specs.StepForms.{is_write, reads_static, Target, StaticsOf, ThingAt, WritesTo, WritesHaveOneTarget, ReadsOf, StaticReadsHaveOneClass, makes, makes_first, enters_class, calls_native, at_most_one, StepsEnterAndCallOnce, StepsMakeFirst, IsPlaceThere, StepWritesAreInside}
use Rattle.pi_machine.proofs.RowDeeds.{any_rows, row_deeds}
use Rattle.pi_machine.proofs.RowDeeds.Words.{RowLists, RowCalls, RowFact, AnyValue, AnyObject, of_each, each_fails, on_some}
use Rattle.pi_machine.proofs.Truths.{neither}
use Rattle.pi_machine.proofs.Moves.{Move, OfRow, SetsValues, Sees, values_in, deeds_in, by_move, each_value, MoveFact, step_deeds}
use Rattle.pi_model.specs.declared.describe.ClassDesc.{ClassDesc}
use Rattle.pi_model.specs.Values.{Value}

-- the class that declares a field of a class
pub class_is : (p : Program) (c f : ℕ) → IsFieldOf p c f → field_class p f ≡ Some c
class_is p c f h = ap (option_map (λ (i : Member). i.class)) h.member

-- what holds of a deed that fails a test, where none of a list passes it
none_each : (test : Deed → Bool) (P : Deed → Type 0) → ((d : Deed) → test d ≡ false → P d) → (ds : List Deed) → list_any test ds ≡ false → EachDeed P ds
none_each test P one [] e = tt
none_each test P one (d ∷ ds) e = let k = neither (test d) (list_any test ds) e in (one d k.0, none_each test P one ds k.1)

-- writes
module _ (p : Program) where
  abbrev Writing : Target → List Deed → Type 0
  Writing t ds = EachDeed (WritesTo p t) ds

  abbrev NoWrites : List Deed → Type 0
  NoWrites ds = (t : Target) → Writing t ds

  pub record OneTarget (ds : List Deed) : Type 0 where
    pub target : Target
    pub all : Writing target ds

  row_targets : (s : State) (f : Frame) → RowLists p s f AnyValue AnyObject (λ new. NoWrites) (λ n. Writing (ThingAt n)) OneTarget
  row_targets s f = record {
    none = λ new t. tt;
    push_call = λ new g ds x h t. (λ e. cc, h t);
    pop = λ new ds h t. (λ e. cc, h t);
    set_reg = λ new a v ds e x h t. (λ e. cc, h t);
    jump = λ new to ds h t. (λ e. cc, h t);
    past_call = λ new ds h t. (λ e. cc, h t);
    pend = λ new r ds x h t. (λ e. cc, h t);
    hold = λ new held ds x h t. (λ e. cc, h t);
    rest = λ ds h. record { target = ThingAt 0; all = h (ThingAt 0) };
    make = λ o ds x h. record { target = ThingAt 0; all = (λ e. cc, h (ThingAt 0)) };
    touch = λ n ds h. record { target = ThingAt 0; all = (λ e. cc, h (ThingAt 0)) };
    saw = λ look ds e is h. record { target = h.target; all = (λ e. cc, h.all) };
    saw_static = λ c field v ds e is h. record { target = ThingAt 0; all = (λ e. cc, h (ThingAt 0)) };
    reads = λ n ds h. record { target = h.target; all = (λ e. cc, h.all) };
    print = λ bytes ds h. record { target = h.target; all = (λ e. cc, h.all) };
    set_static = λ c field v ds is e x h. record { target = StaticsOf c; all = (λ e. ap (option_map StaticsOf) (class_is p c field is), h (StaticsOf c)) };
    writes = λ n ds h. record { target = ThingAt n; all = (λ e. refl, h) };
    set_field = λ n place v ds e x h. (λ e. refl, h);
    set_item = λ n place v ds e x h. (λ e. refl, h);
    saw_then = λ n look ds e is h. (λ e. cc, h);
    make_then = λ n o ds x h. (λ e. cc, h (ThingAt n));
    rest_then = λ n ds h. h (ThingAt n);
  }

  move_target : (s : State) (m : Move p s) → OneTarget (deeds_in m)
  move_target s (OfRow f below l deeds top at is) = on_some deeds is (any_rows (row_targets s f) (record { inner = row_targets s f; call_native = λ m ds h. record { target = h.target; all = (λ e. cc, h.all) } }) l.units l.insn)
  move_target s (SetsValues c d is) = record {
    target = StaticsOf c;
    all = each_value (WritesTo p (StaticsOf c)) p c d is (λ field v h e. ap (option_map StaticsOf) (class_is p c field h)) (λ n e. cc) (λ e. cc);
  }
  move_target s (Sees c status is move) = let h = move_target s move in record { target = h.target; all = (λ e. cc, h.all) }
  move_target s m = record { target = ThingAt 0; all = none_each is_write (WritesTo p (ThingAt 0)) (λ d none h. cc (none, h)) (deeds_in m) refl }

pub writes_have_one_target : WritesHaveOneTarget
writes_have_one_target = λ p s deeds e. let x : OneTarget p deeds = by_move (OneTarget p) p s (move_target p s) deeds e in (x.target, x.all)

-- reads of statics
module _ (p : Program) where
  abbrev NoReads : List Deed → Type 0
  NoReads ds = (c : ℕ) → EachDeed (ReadsOf p c) ds

  pub record OneClass (ds : List Deed) : Type 0 where
    pub class : ℕ
    pub all : EachDeed (ReadsOf p class) ds

  row_reads : (s : State) (f : Frame) → RowLists p s f AnyValue AnyObject (λ new. NoReads) (λ n. NoReads) OneClass
  row_reads s f = record {
    none = λ new c. tt;
    push_call = λ new g ds x h c. (λ e. cc, h c);
    pop = λ new ds h c. (λ e. cc, h c);
    set_reg = λ new a v ds e x h c. (λ e. cc, h c);
    jump = λ new to ds h c. (λ e. cc, h c);
    past_call = λ new ds h c. (λ e. cc, h c);
    pend = λ new r ds x h c. (λ e. cc, h c);
    hold = λ new held ds x h c. (λ e. cc, h c);
    rest = λ ds h. record { class = 0; all = h 0 };
    make = λ o ds x h. record { class = 0; all = (λ e. cc, h 0) };
    touch = λ n ds h. record { class = 0; all = (λ e. cc, h 0) };
    saw = λ look ds e is h. record { class = h.class; all = (λ e. cc (is, e), h.all) };
    saw_static = λ c field v ds e is h. record { class = c; all = (λ e. class_is p c field is, h c) };
    reads = λ n ds h. record { class = h.class; all = (λ e. cc, h.all) };
    print = λ bytes ds h. record { class = h.class; all = (λ e. cc, h.all) };
    set_static = λ c field v ds is e x h. record { class = 0; all = (λ e. cc, h 0) };
    writes = λ n ds h. record { class = 0; all = (λ e. cc, h 0) };
    set_field = λ n place v ds e x h c. (λ e. cc, h c);
    set_item = λ n place v ds e x h c. (λ e. cc, h c);
    saw_then = λ n look ds e is h c. (λ e. cc (is, e), h c);
    make_then = λ n o ds x h c. (λ e. cc, h c);
    rest_then = λ n ds h. h;
  }

  move_reads : (s : State) (m : Move p s) → OneClass (deeds_in m)
  move_reads s (OfRow f below l deeds top at is) = on_some deeds is (any_rows (row_reads s f) (record { inner = row_reads s f; call_native = λ m ds h. record { class = h.class; all = (λ e. cc, h.all) } }) l.units l.insn)
  move_reads s (SetsValues c d is) = record { class = c; all = each_value (ReadsOf p c) p c d is (λ field v h e. cc) (λ n e. cc) (λ e. cc) }
  move_reads s (Sees c status is move) = let h = move_reads s move in record { class = h.class; all = (λ e. cc, h.all) }
  move_reads s m = record { class = 0; all = none_each reads_static (ReadsOf p 0) (λ d none h. cc (none, h)) (deeds_in m) refl }

pub static_reads_have_one_class : StaticReadsHaveOneClass
static_reads_have_one_class = λ p s deeds e. let x : OneClass p deeds = by_move (OneClass p) p s (move_reads p s) deeds e in (x.class, x.all)

-- what is made
abbrev MakesNone : List Deed → Type 0
MakesNone ds = list_any makes ds ≡ false

abbrev MakesFirst : List Deed → Type 0
MakesFirst ds = makes_first ds ≡ true

not_true : (b : Bool) → b ≡ false → not b ≡ true
not_true true e = cc
not_true false e = refl

none_first : (ds : List Deed) → MakesNone ds → MakesFirst ds
none_first [] e = refl
none_first (Make o ∷ ds) e = cc
none_first (Touch n ∷ ds) e = not_true (list_any makes ds) e
none_first (d ∷ ds) e = none_first ds e

row_makes : (p : Program) (s : State) (f : Frame) → RowLists p s f AnyValue AnyObject (λ new. MakesNone) (λ n. MakesFirst) MakesFirst
row_makes p s f = record {
  none = λ new. refl;
  push_call = λ new g ds x h. h;
  pop = λ new ds h. h;
  set_reg = λ new a v ds e x h. h;
  jump = λ new to ds h. h;
  past_call = λ new ds h. h;
  pend = λ new r ds x h. h;
  hold = λ new held ds x h. h;
  rest = λ ds h. none_first ds h;
  make = λ o ds x h. not_true (list_any makes ds) h;
  touch = λ n ds h. not_true (list_any makes ds) h;
  saw = λ look ds e is h. h;
  saw_static = λ c field v ds e is h. none_first ds h;
  reads = λ n ds h. h;
  print = λ bytes ds h. h;
  set_static = λ c field v ds is e x h. none_first ds h;
  writes = λ n ds h. h;
  set_field = λ n place v ds e x h. h;
  set_item = λ n place v ds e x h. h;
  saw_then = λ n look ds e is h. h;
  make_then = λ n o ds x h. not_true (list_any makes ds) h;
  rest_then = λ n ds h. none_first ds h;
}

-- a test that neither a setting of a static nor a touch passes fails for the static values of a class
no_value : (test : Deed → Bool) (p : Program) (c : ℕ) (d : ClassDesc) → class_at p c ≡ Some d → ((field : ℕ) (v : Value) → test (SetStatic field v) ≡ false)
    → ((n : ℕ) → test (Touch n) ≡ false) → test (SetPhase ValuesSet) ≡ false → list_any test (values_in p c d) ≡ false
no_value test p c d e value touch phase = each_fails test (values_in p c d) (each_value (λ d. test d ≡ false) p c d e (λ field v h. value field v) touch phase)

move_makes : (p : Program) (s : State) (m : Move p s) → MakesFirst (deeds_in m)
move_makes p s (OfRow f below l deeds top at is) = on_some deeds is (any_rows (row_makes p s f) (record { inner = row_makes p s f; call_native = λ m ds h. h }) l.units l.insn)
move_makes p s (SetsValues c d is) = none_first (values_in p c d) (no_value makes p c d is (λ field v. refl) (λ n. refl) refl)
move_makes p s (Sees c status is move) = move_makes p s move
move_makes p s m = refl

pub steps_make_first : StepsMakeFirst
steps_make_first = λ p s deeds e. by_move MakesFirst p s (move_makes p s) deeds e

-- writes go to what is there
place_there : (p : Program) (s : State) → length s.statics ≡ all_fields p → (d : Deed) → MoveFact p s d → IsPlaceThere s d
place_there p s full (SetStatic field v) h = h full
place_there p s full (SetField n place v) h = h
place_there p s full (SetItem n place v) h = h
place_there p s full _ h = tt

pub step_writes_are_inside : StepWritesAreInside
step_writes_are_inside = λ p s deeds full e. step_deeds (IsPlaceThere s) p s (place_there p s full) deeds e

-- what a step does once at most
none_one : (test : Deed → Bool) (ds : List Deed) → list_any test ds ≡ false → at_most_one test ds ≡ true
none_one test [] e = refl
none_one test (d ∷ ds) e = by_test (test d) e (none_one test ds)
  where
    by_test : (b : Bool) → (b || list_any test ds) ≡ false → (list_any test ds ≡ false → at_most_one test ds ≡ true)
        → (if b then not (list_any test ds) else at_most_one test ds) ≡ true
    by_test true k h = cc
    by_test false k h = h k

row_enters : (p : Program) (s : State) (f : Frame) (d : Deed) → RowFact p s f d → enters_class d ≡ false
row_enters p s f (SetStatus c status) h = absurd h
row_enters p s f _ h = refl

move_enters : (p : Program) (s : State) (m : Move p s) → at_most_one enters_class (deeds_in m) ≡ true
move_enters p s (OfRow f below l deeds top at is) =
    none_one enters_class deeds (each_fails enters_class deeds (on_some deeds is (row_deeds p s f (row_enters p s f) (λ m. refl) l.units l.insn)))
move_enters p s (SetsValues c d is) = none_one enters_class (values_in p c d) (no_value enters_class p c d is (λ field v. refl) (λ n. refl) refl)
move_enters p s (Sees c status is move) = move_enters p s move
move_enters p s m = refl

-- natives: what follows a call calls none
abbrev CallsNone : List Deed → Type 0
CallsNone ds = EachDeed (λ d. calls_native d ≡ false) ds

abbrev CallsOne : List Deed → Type 0
CallsOne ds = at_most_one calls_native ds ≡ true

none_called : (ds : List Deed) → CallsNone ds → CallsOne ds
none_called ds h = none_one calls_native ds (each_fails calls_native ds h)

inner_calls : (p : Program) (s : State) (f : Frame) (d : Deed) → RowFact p s f d → calls_native d ≡ false
inner_calls p s f (CallNative m) h = absurd h
inner_calls p s f _ h = refl

row_calls : (p : Program) (s : State) (f : Frame) → RowLists p s f AnyValue AnyObject (λ new. CallsNone) (λ n. CallsNone) CallsOne
row_calls p s f = record {
  none = λ new. tt;
  push_call = λ new g ds x h. (refl, h);
  pop = λ new ds h. (refl, h);
  set_reg = λ new a v ds e x h. (refl, h);
  jump = λ new to ds h. (refl, h);
  past_call = λ new ds h. (refl, h);
  pend = λ new r ds x h. (refl, h);
  hold = λ new held ds x h. (refl, h);
  rest = λ ds h. none_called ds h;
  make = λ o ds x h. none_called ds h;
  touch = λ n ds h. none_called ds h;
  saw = λ look ds e is h. h;
  saw_static = λ c field v ds e is h. none_called ds h;
  reads = λ n ds h. h;
  print = λ bytes ds h. h;
  set_static = λ c field v ds is e x h. none_called ds h;
  writes = λ n ds h. none_called ds h;
  set_field = λ n place v ds e x h. (refl, h);
  set_item = λ n place v ds e x h. (refl, h);
  saw_then = λ n look ds e is h. (refl, h);
  make_then = λ n o ds x h. (refl, h);
  rest_then = λ n ds h. h;
}

native_calls : (p : Program) (s : State) (f : Frame) → RowCalls p s f AnyValue AnyObject (λ new. CallsNone) (λ n. CallsNone) CallsNone CallsOne
native_calls p s f = record {
  inner = of_each (inner_calls p s f);
  call_native = λ m ds h. not_true (list_any calls_native ds) (each_fails calls_native ds h);
}

move_calls : (p : Program) (s : State) (m : Move p s) → CallsOne (deeds_in m)
move_calls p s (OfRow f below l deeds top at is) =
    on_some deeds is (any_rows (row_calls p s f) (native_calls p s f) l.units l.insn)
move_calls p s (SetsValues c d is) = none_one calls_native (values_in p c d) (no_value calls_native p c d is (λ field v. refl) (λ n. refl) refl)
move_calls p s (Sees c status is move) = move_calls p s move
move_calls p s m = refl

pub steps_enter_and_call_once : StepsEnterAndCallOnce
steps_enter_and_call_once = record {
  enters = λ p s deeds e. by_move (λ ds. at_most_one enters_class ds ≡ true) p s (move_enters p s) deeds e;
  calls = λ p s deeds e. by_move CallsOne p s (move_calls p s) deeds e;
}
