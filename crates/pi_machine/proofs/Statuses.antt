-- Statuses of classes move one way, and the class of each record on the stack is in progress.
use Rattle.std.proofs.Common.{◌≡◌, ℕ, zero, suc, ◌==◌, List, [], ◌∷◌, slice_get, slice_set, Option, Some, None, Bool, true, false, ◌||◌, option_map, refl, sym, ◌∙◌, ap, subst}
use Rattle.std.proofs.lemmas.Bool.{eqb-false, eqb-true}
use Rattle.std.specs.List.{list_any}
use Rattle.pi_model.specs.declared.reason.ClassState.{ClassState}
use Rattle.pi_model.specs.declared.reason.ClassState.TheVariants.{Fresh, InProgress, Done, Erroneous}
use Rattle.pi_model.specs.Program.{Program}
use Rattle.pi_machine.specs.State.{State, Frame, Phase, Running, Entry, Call, Record, Thrown}
use Rattle.pi_machine.specs.Deeds.{Deed, Make, SetStatus, Start, Push, Pop, SetReg, Jump, GoOn, SetPhase, Pend, Unpend, Hold, do_deed, do_all, stack_below, on_frame, on_record, with_register, frame_at, past_call}
use Rattle.pi_machine.specs.Operands.{Deeds}
use Rattle.pi_model.specs.Fields.{new_instance}
use Rattle.pi_machine.specs.Throwing.{next_made}
use Rattle.pi_machine.specs.Step.{deeds_of, step}
use Rattle.pi_machine.specs.StepLaws.{EachDeed, is_record_of, RecordsRunOn, RecordsRun, StatusMoves, Stays, Enters, Finishes, Breaks, StepsKeepStatuses, StartRecordsRun}
use Rattle.pi_machine.proofs.Changes.{get_set_other}
use Rattle.pi_machine.proofs.RowDeeds.{row_deeds}
use Rattle.pi_machine.proofs.RowDeeds.Words.{RowFact, on_some}
use Rattle.pi_machine.proofs.Moves.{Move, OfRow, LeavesFrame, Handles, CallsMain, SetsValues, Initialises, Completes, Fails, Replaces, Throws, EntersClass, Sees, values_in, deeds_in, by_move, each_value}
use Rattle.pi_machine.proofs.Truths.{some_same, neither}

-- what is set at a place is there
get_set_same : {A : Type 0} (xs : List A) (i : ℕ) (x y : A) → slice_get xs i ≡ Some x → slice_get (slice_set xs i y) i ≡ Some y
get_set_same [] i x y e = cc
get_set_same (z ∷ xs) zero x y e = refl
get_set_same (z ∷ xs) (suc i) x y e = get_set_same xs i x y e

-- a calm deed sets no status and pushes no record
is_calm : Deed → Bool
is_calm (SetStatus c status) = false
is_calm (Push (Record c phase)) = false
is_calm _ = true

Calm : Deed → Type 0
Calm d = is_calm d ≡ true

calm_rows : (p : Program) (s : State) (f : Frame) (d : Deed) → RowFact p s f d → Calm d
unfolding is_calm Calm
calm_rows p s f (SetStatus c status) e = absurd e
calm_rows p s f (Push (Record c phase)) e = absurd e
calm_rows p s f _ e = refl

-- the stack's own moves keep that the records run
popped_run : (statuses : List ClassState) (stack : List Entry) → RecordsRunOn statuses stack → RecordsRunOn statuses (stack_below stack)
popped_run statuses [] r = r
popped_run statuses (Call f ∷ below) r = r
popped_run statuses (Record c phase ∷ below) r = r.2

frame_run : (change : Frame → Frame) (statuses : List ClassState) (stack : List Entry) → RecordsRunOn statuses stack
    → RecordsRunOn statuses (on_frame change stack)
frame_run change statuses [] r = r
frame_run change statuses (Call f ∷ below) r = r
frame_run change statuses (Record c phase ∷ below) r = r

phase_run : (phase : Phase) (statuses : List ClassState) (stack : List Entry) → RecordsRunOn statuses stack
    → RecordsRunOn statuses (on_record phase stack)
phase_run phase statuses [] r = r
phase_run phase statuses (Call f ∷ below) r = r
phase_run phase statuses (Record c old ∷ below) r = r

calm_run : (d : Deed) (s : State) → Calm d → RecordsRun s → RecordsRun (do_deed d s)
unfolding is_calm Calm
calm_run (SetStatus c status) s e r = cc
calm_run (Push (Record c phase)) s e r = cc
calm_run (Push (Call f)) s e r = r
calm_run Pop s e r = popped_run s.statuses s.stack r
calm_run (SetReg a v) s e r = frame_run (with_register a v) s.statuses s.stack r
calm_run (Jump to) s e r = frame_run (frame_at to) s.statuses s.stack r
calm_run GoOn s e r = frame_run past_call s.statuses s.stack r
calm_run (SetPhase phase) s e r = phase_run phase s.statuses s.stack r
calm_run _ s e r = r

calm_statuses : (d : Deed) (s : State) → Calm d → (do_deed d s).statuses ≡ s.statuses
unfolding is_calm Calm
calm_statuses (SetStatus c status) s e = cc
calm_statuses _ s e = refl

-- what a step owes: the records run after it, and statuses moved as they may
record Fine (s after : State) : Type 0 where
  run : RecordsRun after
  moves : (c : ℕ) → StatusMoves (slice_get s.statuses c) (slice_get after.statuses c)

calm_fine : (s now : State) (ds : List Deed) → Fine s now → EachDeed Calm ds → Fine s (do_all ds now)
calm_fine s now [] f e = f
calm_fine s now (d ∷ ds) f e = calm_fine s (do_deed d now) ds (record {
  run = calm_run d now e.0 f.run;
  moves = λ c. subst (λ (xs : List ClassState). StatusMoves (slice_get s.statuses c) (slice_get xs c)) (sym (calm_statuses d now e.0)) (f.moves c);
}) e.1

nothing_moved : (s : State) → RecordsRun s → Fine s s
nothing_moved s r = record { run = r; moves = λ c. Stays (slice_get s.statuses c) }

-- a status that is set
set_moves : (statuses : List ClassState) (c : ℕ) (old new : ClassState) → slice_get statuses c ≡ Some old → StatusMoves (Some old) (Some new)
    → (d : ℕ) → StatusMoves (slice_get statuses d) (slice_get (slice_set statuses c new) d)
set_moves statuses c old new e m d = by_test (d == c) refl
  where
    by_test : (b : Bool) → (d == c) ≡ b → StatusMoves (slice_get statuses d) (slice_get (slice_set statuses c new) d)
    by_test true q =
        subst (λ (x : ℕ). StatusMoves (slice_get statuses x) (slice_get (slice_set statuses c new) x)) (sym (eqb-true d c q))
        (subst (λ (x : Option ClassState). StatusMoves x (slice_get (slice_set statuses c new) c)) (sym e)
        (subst (λ (x : Option ClassState). StatusMoves (Some old) x) (sym (get_set_same statuses c old new e)) m))
    by_test false q =
        subst (λ (x : Option ClassState). StatusMoves (slice_get statuses d) x) (sym (get_set_other statuses c new d (eqb-false d c q)))
        (Stays (slice_get statuses d))

-- a class that is not in progress has no record
fresh_none : (statuses : List ClassState) (c : ℕ) → slice_get statuses c ≡ Some Fresh → (stack : List Entry) → RecordsRunOn statuses stack
    → list_any (is_record_of c) stack ≡ false
fresh_none statuses c e [] r = refl
fresh_none statuses c e (Call f ∷ below) r = fresh_none statuses c e below r
fresh_none statuses c e (Record d phase ∷ below) r = by_test (c == d) refl (fresh_none statuses c e below r.2)
  where
    by_test : (b : Bool) → (c == d) ≡ b → list_any (is_record_of c) below ≡ false → (b || list_any (is_record_of c) below) ≡ false
    by_test true q h = let here = ap (slice_get statuses) (eqb-true c d q) in cc (here, e, r.0)
    by_test false q h = h

-- a status set away from all records
apart_run : (statuses : List ClassState) (c : ℕ) (status : ClassState) (stack : List Entry) → RecordsRunOn statuses stack
    → list_any (is_record_of c) stack ≡ false → RecordsRunOn (slice_set statuses c status) stack
apart_run statuses c status [] r e = tt
apart_run statuses c status (Call f ∷ below) r e = apart_run statuses c status below r e
apart_run statuses c status (Record d phase ∷ below) r e = (
  get_set_other statuses c status d (λ q. eqb-false c d (neither (c == d) (list_any (is_record_of c) below) e).0 (sym q)) ∙ r.0,
  r.1,
  apart_run statuses c status below r.2 (neither (c == d) (list_any (is_record_of c) below) e).1,
)

-- the record on top ends: its class gets its last status, the record goes, and calm deeds follow
closed : (statuses : List ClassState) (c : ℕ) (status : ClassState) (phase : Phase) (below stack : List Entry) → stack ≡ Record c phase ∷ below
    → RecordsRunOn statuses stack → RecordsRunOn (slice_set statuses c status) (stack_below stack)
closed statuses c status phase below stack e r =
    let t = subst (RecordsRunOn statuses) e r in
    subst (λ (x : List Entry). RecordsRunOn (slice_set statuses c status) (stack_below x)) (sym e) (apart_run statuses c status below t.2 t.1)

fine_closes : (s : State) (c : ℕ) (status : ClassState) (phase : Phase) (below : List Entry) (ds : List Deed) → s.stack ≡ Record c phase ∷ below
    → RecordsRun s → StatusMoves (Some InProgress) (Some status) → EachDeed Calm ds → Fine s (do_all (SetStatus c status ∷ Pop ∷ ds) s)
fine_closes s c status phase below ds e r m a =
    let t = subst (RecordsRunOn s.statuses) e r in
    calm_fine s (do_all (SetStatus c status ∷ Pop ∷ []) s) ds (record {
      run = closed s.statuses c status phase below s.stack e r;
      moves = set_moves s.statuses c InProgress status t.0 m;
    }) a

-- the moves
move_fine : (p : Program) (s : State) → RecordsRun s → (m : Move p s) → Fine s (do_all (deeds_in m) s)
unfolding is_calm Calm
move_fine p s r (OfRow f below l deeds top at is) = calm_fine s s deeds (nothing_moved s r) (on_some deeds is (row_deeds p s f (calm_rows p s f) (λ m. refl) l.units l.insn))
move_fine p s r (SetsValues c d is) = calm_fine s s (values_in p c d) (nothing_moved s r) (each_value Calm p c d is (λ field v h. refl) (λ n. refl) refl)
move_fine p s r (Completes c phase below top) = fine_closes s c Done phase below [] top r Finishes tt
move_fine p s r (Fails c phase below top) = fine_closes s c Erroneous phase below [] top r Breaks tt
move_fine p s r (Replaces c phase below top class) = fine_closes s c Erroneous phase below (Make (new_instance p class) ∷ Pend (next_made s) ∷ []) top r Breaks (refl, (refl, tt))
move_fine p s r (EntersClass c is) =
    let none = fresh_none s.statuses c is s.stack r in
    record {
      run = (get_set_same s.statuses c Fresh InProgress is, none, apart_run s.statuses c InProgress s.stack r none);
      moves = set_moves s.statuses c Fresh InProgress is Enters;
    }
move_fine p s r (Sees c status is move) = move_fine p s r move
move_fine p s r LeavesFrame = calm_fine s s (Pop ∷ []) (nothing_moved s r) (refl, tt)
move_fine p s r (Handles t h is) = calm_fine s s (Unpend ∷ Hold (Thrown t) ∷ Jump h.at ∷ []) (nothing_moved s r) (refl, (refl, (refl, tt)))
move_fine p s r (CallsMain m f is) = calm_fine s s (Start ∷ Push (Call f) ∷ []) (nothing_moved s r) (refl, (refl, tt))
move_fine p s r (Initialises m f is) = calm_fine s s (SetPhase Running ∷ Push (Call f) ∷ []) (nothing_moved s r) (refl, (refl, tt))
move_fine p s r (Throws class) = calm_fine s s (Make (new_instance p class) ∷ Pend (next_made s) ∷ []) (nothing_moved s r) (refl, (refl, tt))

step_fine_by : (p : Program) (s after : State) (ds : Deeds) → RecordsRun s → deeds_of p s ≡ ds → option_map (λ deeds. do_all deeds s) ds ≡ Some after → Fine s after
step_fine_by p s after None r is e = cc
step_fine_by p s after (Some ds) r is e = subst (Fine s) (some_same (do_all ds s) after e) (by_move (λ deeds. Fine s (do_all deeds s)) p s (move_fine p s r) ds is)

step_fine : (p : Program) (s after : State) → RecordsRun s → step p s ≡ Some after → Fine s after
step_fine p s after r e = step_fine_by p s after (deeds_of p s) r refl e

pub steps_keep_statuses : StepsKeepStatuses
steps_keep_statuses = record {
  records = λ p s after r e. (step_fine p s after r e).run;
  moves = λ p s after r e. (step_fine p s after r e).moves;
}

pub start_records_run : StartRecordsRun
start_records_run = ((λ p. tt), (λ p main args. tt))
