-- A step leads from a sound state to a sound one.
use Rattle.std.proofs.Common.{◌≡◌, inl, inr, ℕ, List, [], ◌∷◌, ◌++◌, length, slice_get, Option, Some, None, is_some, true, refl, subst, sym, ◌∙◌, arith}
use Rattle.std.specs.List.{list_any}
use Rattle.pi_model.specs.declared.reason.ClassState.{ClassState}
use Rattle.pi_model.specs.declared.reason.ClassState.TheVariants.{InProgress, Done, Erroneous}
use Rattle.pi_model.specs.Program.{Program}
use Rattle.pi_model.specs.Values.{Ref, Lit, Value, At, Object}
use Rattle.pi_machine.specs.State.{State, Frame, Thing, Made, Entry, Call, Record, Phase, Entered, ValuesSet, Running, Held, Nothing, Result, Thrown}
use Rattle.pi_machine.specs.Deeds.{Deed, Make, Touch, SetStatic, SetStatus, SetField, SetItem, Print, Start, Push, Pop, SetReg, Jump, GoOn, SetPhase, Pend, Unpend, Hold, is_touched, with_touched, with_field, with_item, in_thing, changed_at, stack_below, on_frame, on_record, with_register, do_deed, do_all}
use Rattle.pi_machine.specs.Objects.{made_of}
use Rattle.pi_machine.specs.Codes.{code_of}
use Rattle.pi_machine.specs.Initialisation.{argument_list}
use Rattle.pi_machine.specs.Throwing.{next_made}
use Rattle.pi_machine.specs.StepLaws.{EachDeed}
use Rattle.pi_machine.specs.Sound.{EachOf, IsThere, IsSoundValue, IsSoundText, IsSoundObject, IsSoundEntry, IsSoundHeld, IsThereIfAny, IsSound, HasWordConstants, MakesShort, StepsKeepSound}
use Rattle.pi_machine.proofs.Changes.{length_set, length_changed}
use Rattle.pi_machine.proofs.SoundValues.{OrNew, IsSoundIfShort, facts}
use Rattle.pi_machine.proofs.Each.{each_set}
use Rattle.pi_machine.proofs.RowDeeds.{row_lists}
use Rattle.pi_machine.proofs.RowDeeds.Words.{RowFacts, RowLists, RowCalls, OnHeld, on_some, pends_new}
use Rattle.pi_machine.proofs.Moves.{Move, OfRow, LeavesFrame, Handles, CallsMain, SetsValues, Initialises, Completes, Fails, Replaces, Throws, EntersClass, Sees, deeds_in, by_move, ValueLists, class_values}
use Rattle.pi_machine.proofs.RowDeeds.Calls.{entry_values}
use Rattle.pi_machine.specs.Rows.Calls.{entry_frame}
use Rattle.pi_model.specs.Fields.{new_instance}
use Rattle.pi_machine.proofs.SoundThings.{Grows, value_grows, values_grow, object_grows, sound_of, with_things, grows_more, last_there, more_sound, TouchLeaves, grows_same, touch_leaves, grows_changed, field_sound, item_sound, change_sound}
use Rattle.pi_machine.proofs.SoundConstants.{insn_words, constants_of, class_inits}

-- the stack
popped_sound : (P : Entry → Type 0) (stack : List Entry) → EachOf P stack → EachOf P (stack_below stack)
popped_sound P [] h = h
popped_sound P (e ∷ below) h = h.1

on_frame_sound : (things : List Thing) (change : Frame → Frame) (stack : List Entry)
    → ((f : Frame) → EachOf (IsSoundValue things) f.registers → EachOf (IsSoundValue things) (change f).registers)
    → EachOf (IsSoundEntry things) stack → EachOf (IsSoundEntry things) (on_frame change stack)
on_frame_sound things change [] k h = h
on_frame_sound things change (Call f ∷ below) k h = (k f h.0, h.1)
on_frame_sound things change (Record c phase ∷ below) k h = h

on_record_sound : (things : List Thing) (phase : Phase) (stack : List Entry) → EachOf (IsSoundEntry things) stack → EachOf (IsSoundEntry things) (on_record phase stack)
on_record_sound things phase [] h = h
on_record_sound things phase (Call f ∷ below) h = h
on_record_sound things phase (Record c old ∷ below) h = (tt, h.1)

-- a reference that has come up in the step is there now
NewThere : Option Ref → List Thing → Type 0
NewThere None things = Unit {0}
NewThere (Some r) things = IsThere things r

module _ (p : Program) (s : State) where
  -- sound after deeds that are done in a state that is sound and names what the first state names
  abbrev Ends : Option Ref → List Deed → Type 0
  Ends new ds = (now : State) → IsSound p now → Grows s.things now.things → NewThere new now.things → IsSound p (do_all ds now)

  abbrev Values : List Deed → Type 0
  Values ds = (now : State) → IsSound p now → Grows s.things now.things → IsSound p (do_all ds now)

  abbrev All : List Deed → Type 0
  All ds = (now : State) → IsSound p now → Grows s.things now.things → length now.things ≡ length s.things → EachDeed MakesShort ds → IsSound p (do_all ds now)

  now_sound : (new : Option Ref) (v : Value) (now : State) → OrNew s.things new v → Grows s.things now.things → NewThere new now.things → IsSoundValue now.things v
  unfolding NewThere
  now_sound None v now x g n = value_grows g v x
  now_sound (Some r) v now (inl x) g n = value_grows g v x
  now_sound (Some r) v now (inr e) g n = subst (IsSoundValue now.things) (sym e) n

  held_sound : (new : Option Ref) (held : Held) (now : State) → OnHeld (OrNew s.things new) held → Grows s.things now.things → NewThere new now.things → IsSoundHeld now.things held
  held_sound new Nothing now x g n = tt
  held_sound new (Result v) now x g n = now_sound new v now x g n
  held_sound new (Thrown r) now x g n = now_sound new (At r) now x g n

  -- an object is made
  grows_on : (a b c : List Thing) → Grows a b → Grows b c → Grows a c
  grows_on a b c x y = record { there = λ r h. y.there r (x.there r h) }

  make_sound : (o : Object) (now : State) → IsSoundObject p s.things o → IsSound p now → Grows s.things now.things
      → IsSound p (record now { things = now.things ++ Made now.file o ∷ [] })
  make_sound o now x h g =
      with_things p now (now.things ++ Made now.file o ∷ []) h (grows_more now.things (Made now.file o ∷ []))
      (more_sound p now.things (Made now.file o) h.things (object_grows g p o x))

  makes : (o : Object) (ds : List Deed) → IsSoundIfShort p s.things o → Ends (Some (next_made s)) ds → All (Make o ∷ ds)
  unfolding NewThere
  makes o ds x k now h g same short =
      let last : is_some (made_of (slice_get (now.things ++ Made now.file o ∷ []) (length now.things))) ≡ true = last_there now.things now.file o in
      let there : is_some (made_of (slice_get (now.things ++ Made now.file o ∷ []) (length s.things))) ≡ true =
      subst (λ n. is_some (made_of (slice_get (now.things ++ Made now.file o ∷ []) n)) ≡ true) same last in
      k (do_deed (Make o) now) (make_sound o now (x short.0) h g)
      (grows_on s.things now.things (now.things ++ Made now.file o ∷ []) g (grows_more now.things (Made now.file o ∷ []))) there

  -- a literal is touched
  touch_after : (n : ℕ) (now : State) → IsSound p now → TouchLeaves p n now.things (with_touched now.file n now.things)
  touch_after n now h = touch_leaves p n now.file now.things (list_any (is_touched n) now.things) refl h.things

  touch_sound : (n : ℕ) (now : State) → IsSound p now → IsSound p (do_deed (Touch n) now)
  touch_sound n now h = let t : TouchLeaves p n now.things (with_touched now.file n now.things) = touch_after n now h in
      with_things p now (with_touched now.file n now.things) h t.grows t.sound

  touches : (n : ℕ) (ds : List Deed) → Ends (Some (Lit n)) ds → (now : State) → IsSound p now → Grows s.things now.things → IsSound p (do_all (Touch n ∷ ds) now)
  unfolding NewThere
  touches n ds k now h g =
      let t : TouchLeaves p n now.things (with_touched now.file n now.things) = touch_after n now h in
      k (do_deed (Touch n) now) (touch_sound n now h) (grows_on s.things now.things (with_touched now.file n now.things) g t.grows) t.there

  -- a static is set
  static_sound : (field : ℕ) (v : Value) (now : State) → IsSound p now → IsSoundValue now.things v → IsSound p (do_deed (SetStatic field v) now)
  static_sound field v now h x =
      sound_of p (do_deed (SetStatic field v) now) h.things (each_set (IsSoundValue now.things) now.statics field v h.statics x) h.stack h.held h.pending h.args
      (length_set now.statics field v ∙ h.all_statics) h.all_statuses

  -- other parts of a state
  stack_sound : (now : State) (stack : List Entry) → IsSound p now → EachOf (IsSoundEntry now.things) stack → IsSound p (record now { stack = stack })
  stack_sound now stack h x = sound_of p (record now { stack = stack }) h.things h.statics x h.held h.pending h.args h.all_statics h.all_statuses

  status_sound : (c : ℕ) (status : ClassState) (now : State) → IsSound p now → IsSound p (do_deed (SetStatus c status) now)
  status_sound c status now h =
      sound_of p (do_deed (SetStatus c status) now) h.things h.statics h.stack h.held h.pending h.args h.all_statics
      (length_set now.statuses c status ∙ h.all_statuses)

  held_is : (held : Held) (now : State) → IsSound p now → IsSoundHeld now.things held → IsSound p (do_deed (Hold held) now)
  held_is held now h x = sound_of p (do_deed (Hold held) now) h.things h.statics h.stack x h.pending h.args h.all_statics h.all_statuses

  pending_is : (r : Option Ref) (now : State) → IsSound p now → IsThereIfAny now.things r → IsSound p (record now { pending = r })
  pending_is r now h x = sound_of p (record now { pending = r }) h.things h.statics h.stack h.held x h.args h.all_statics h.all_statuses

  print_sound : (now : State) (bytes : List ℕ) → IsSound p now → IsSound p (do_deed (Print bytes) now)
  print_sound now bytes h = sound_of p (do_deed (Print bytes) now) h.things h.statics h.stack h.held h.pending h.args h.all_statics h.all_statuses

  start_sound : (now : State) → IsSound p now → IsSound p (do_deed Start now)
  start_sound now h = sound_of p (do_deed Start now) h.things h.statics h.stack h.held h.pending h.args h.all_statics h.all_statuses

  -- a field or an element is set
  set_field_sound : (n place : ℕ) (v : Value) (now : State) → IsSound p now → IsSoundValue now.things v → IsSound p (do_deed (SetField n place v) now)
  set_field_sound n place v now h x = change_sound p now (with_field place v) n h (field_sound p now.things place v x)

  set_item_sound : (n place : ℕ) (v : Value) (now : State) → IsSound p now → IsSoundValue now.things v → IsSound p (do_deed (SetItem n place v) now)
  set_item_sound n place v now h x = change_sound p now (with_item place v) n h (item_sound p now.things place v x)

  changes_field : (n place : ℕ) (v : Value) (ds : List Deed) → IsSoundValue s.things v → All ds → All (SetField n place v ∷ ds)
  changes_field n place v ds x k now h g same short =
      let count : length (changed_at (in_thing (with_field place v)) n now.things) ≡ length now.things = length_changed (in_thing (with_field place v)) n now.things (slice_get now.things n) in
      k (do_deed (SetField n place v) now) (set_field_sound n place v now h (value_grows g v x))
      (grows_on s.things now.things (changed_at (in_thing (with_field place v)) n now.things) g (grows_changed (with_field place v) now.things n)) (count ∙ same) short.1

  changes_item : (n place : ℕ) (v : Value) (ds : List Deed) → IsSoundValue s.things v → All ds → All (SetItem n place v ∷ ds)
  changes_item n place v ds x k now h g same short =
      let count : length (changed_at (in_thing (with_item place v)) n now.things) ≡ length now.things = length_changed (in_thing (with_item place v)) n now.things (slice_get now.things n) in
      k (do_deed (SetItem n place v) now) (set_item_sound n place v now h (value_grows g v x))
      (grows_on s.things now.things (changed_at (in_thing (with_item place v)) n now.things) g (grows_changed (with_item place v) now.things n)) (count ∙ same) short.1

  sound_rows : (f : Frame) → RowLists p s f (OrNew s.things) (IsSoundIfShort p s.things) Ends (λ n. All) All
  unfolding NewThere
  sound_rows f = record {
    none = λ new now h g n. h;
    push_call = λ new c ds x k now h g n. k (do_deed (Push (Call c)) now) (stack_sound now (Call c ∷ now.stack) h (values_grow g c.registers x, h.stack)) g n;
    pop = λ new ds k now h g n. k (do_deed Pop now) (stack_sound now (stack_below now.stack) h (popped_sound (IsSoundEntry now.things) now.stack h.stack)) g n;
    set_reg = λ new a v ds below x k now h g n. k (do_deed (SetReg a v) now) (stack_sound now (on_frame (with_register a v) now.stack) h
        (on_frame_sound now.things (with_register a v) now.stack
        (λ c y. each_set (IsSoundValue now.things) c.registers a v y (now_sound new v now x g n)) h.stack)) g n;
    jump = λ new to ds k now h g n. k (do_deed (Jump to) now) (stack_sound now _ h (on_frame_sound now.things _ now.stack (λ c y. y) h.stack)) g n;
    past_call = λ new ds k now h g n. k (do_deed GoOn now) (stack_sound now _ h (on_frame_sound now.things _ now.stack (λ c y. y) h.stack)) g n;
    pend = λ new r ds x k now h g n. k (do_deed (Pend r) now) (pending_is (Some r) now h (now_sound new (At r) now x g n)) g n;
    hold = λ new held ds x k now h g n. k (do_deed (Hold held) now) (held_is held now h (held_sound new held now x g n)) g n;
    rest = λ ds k now h g same short. k now h g tt;
    make = λ o ds x k. makes o ds x k;
    touch = λ n ds k now h g same short. touches n ds k now h g;
    saw = λ look ds e is k now h g same short. k now h g same short.1;
    saw_static = λ c field v ds e is k now h g same short. k now h g tt;
    reads = λ n ds k now h g same short. k now h g same short.1;
    print = λ bytes ds k now h g same short. k (do_deed (Print bytes) now) (print_sound now bytes h) g same short.1;
    set_static = λ c field v ds is below x k now h g same short. k (do_deed (SetStatic field v) now) (static_sound field v now h (value_grows g v x)) g tt;
    writes = λ n ds k now h g same short. k now h g same short.1;
    set_field = λ n place v ds e x k. changes_field n place v ds x k;
    set_item = λ n place v ds e x k. changes_item n place v ds x k;
    saw_then = λ n look ds e is k now h g same short. k now h g same short.1;
    make_then = λ n o ds x k. makes o ds x k;
    rest_then = λ n ds k now h g same short. k now h g tt;
  }

  phase_sound : (phase : Phase) (now : State) → IsSound p now → IsSound p (do_deed (SetPhase phase) now)
  phase_sound phase now h = stack_sound now (on_record phase now.stack) h (on_record_sound now.things phase now.stack h.stack)

  value_lists : (c : ℕ) → ValueLists p c (IsSoundValue s.things) Values
  unfolding NewThere
  value_lists c = record {
    class = λ n. tt;
    value = λ field v ds is x k now h g. k (do_deed (SetStatic field v) now) (static_sound field v now h (value_grows g v x)) g;
    text = λ field n ds is k now h g. touches n (SetStatic field (At (Lit n)) ∷ ds)
        (λ later h2 g2 there. k (do_deed (SetStatic field (At (Lit n))) later) (static_sound field (At (Lit n)) later h2 there) g2) now h g;
  }

-- each move
module _ (p : Program) (s : State) (w : HasWordConstants p) (h : IsSound p s) where
  top_sound : (f : Frame) (below stack : List Entry) → stack ≡ Call f ∷ below → EachOf (IsSoundEntry s.things) stack → EachOf (IsSoundValue s.things) f.registers
  top_sound f below stack e x = let y : EachOf (IsSoundEntry s.things) (Call f ∷ below) = subst (EachOf (IsSoundEntry s.things)) e x in y.0

  args_sound : (r : Option Ref) → IsThereIfAny s.things r → EachOf (IsSoundValue s.things) (argument_list r)
  args_sound None x = (omega arith, tt)
  args_sound (Some r) x = (x, tt)

  frame_sound : (m : ℕ) (args : List Value) (f : Frame) → EachOf (IsSoundValue s.things) args → entry_frame m (code_of p m) args ≡ Some f → EachOf (IsSoundValue s.things) f.registers
  frame_sound m args f x e = entry_values (IsSoundValue s.things) (omega arith) m (code_of p m) args f x e

  -- for what needs no register
  abbrev no_frame : Frame
  no_frame = record { method = 0; at = 0; registers = [] }

  abbrev g0 : RowFacts p s no_frame (OrNew s.things) (IsSoundIfShort p s.things) IsSoundText
  g0 = facts p s h w.names no_frame tt

  abbrev r : RowLists p s no_frame (OrNew s.things) (IsSoundIfShort p s.things) (Ends p s) (λ n. All p s) (All p s)
  r = sound_rows p s no_frame

  leaves : Ends p s None (Pop ∷ [])
  leaves = r.pop None [] (r.none None)

  calls : (f : Frame) → EachOf (IsSoundValue s.things) f.registers → Ends p s None (Push (Call f) ∷ [])
  calls f x = r.push_call None f [] x (r.none None)

  throws : (class : ℕ) → All p s (Make (new_instance p class) ∷ Pend (next_made s) ∷ [])
  throws class = r.make (new_instance p class) (Pend (next_made s) ∷ []) (g0.instance class) (pends_new g0 r)

  move_sound : (m : Move p s) → All p s (deeds_in m)
  unfolding NewThere
  move_sound (OfRow f below l deeds top at is) =
      let inner : RowCalls p s f (OrNew s.things) (IsSoundIfShort p s.things) (Ends p s) (λ n. All p s) (All p s) (All p s) =
      record { inner = sound_rows p s f; call_native = λ m ds k now x g same short. k now x g same short.1 } in
      on_some deeds is (row_lists (facts p s h w.names f (top_sound f below s.stack top h.stack)) (sound_rows p s f) inner l.units l.insn
      (constants_of p w s.things l.insn (insn_words p w s.things f l at)))
  move_sound LeavesFrame = r.rest (Pop ∷ []) leaves
  move_sound (Handles t c is) = λ now x g same short.
      let there : IsThereIfAny s.things (Some t) = subst (IsThereIfAny s.things) is h.pending in
      let goes : Ends p s None (Hold (Thrown t) ∷ Jump c.at ∷ []) = r.hold None (Thrown t) (Jump c.at ∷ []) there (r.jump None c.at [] (r.none None)) in
      goes (do_deed Unpend now) (pending_is p s None now x tt) g tt
  move_sound (CallsMain m f is) = λ now x g same short.
      calls f (frame_sound m (argument_list s.args) f (args_sound s.args h.args) is) (do_deed Start now) (start_sound p s now x) g tt
  move_sound (SetsValues c d is) = λ now x g same short.
      class_values (value_lists p s c) d is (class_inits p w s.things c d is) (SetPhase ValuesSet ∷ []) (λ later y g2. phase_sound p s ValuesSet later y) now x g
  move_sound (Initialises m f is) = λ now x g same short. calls f (frame_sound m [] f tt is) (do_deed (SetPhase Running) now) (phase_sound p s Running now x) g tt
  move_sound (Completes c phase below top) = λ now x g same short. leaves (do_deed (SetStatus c Done) now) (status_sound p s c Done now x) g tt
  move_sound (Fails c phase below top) = λ now x g same short. leaves (do_deed (SetStatus c Erroneous) now) (status_sound p s c Erroneous now x) g tt
  move_sound (Replaces c phase below top class) = λ now x g same short.
      let after : State = do_deed (SetStatus c Erroneous) now in
      throws class (do_deed Pop after) (stack_sound p s after (stack_below now.stack) (status_sound p s c Erroneous now x) (popped_sound (IsSoundEntry now.things) now.stack x.stack)) g same short.1.1
  move_sound (Throws class) = throws class
  move_sound (EntersClass c is) = λ now x g same short.
      stack_sound p s (do_deed (SetStatus c InProgress) now) (Record c Entered ∷ now.stack) (status_sound p s c InProgress now x) (tt, x.stack)
  move_sound (Sees c status is move) = λ now x g same short. move_sound move now x g same short.1

pub steps_keep_sound : StepsKeepSound
steps_keep_sound = λ p s deeds w h e short. by_move (All p s) p s (move_sound p s w h) deeds e s h (grows_same s.things) refl short
