-- What is sound over some things is sound over more of them, and where one of them is changed.
use Rattle.std.proofs.Common.{◌≡◌, ℕ, zero, suc, ◌^◌, ◌<◌, List, [], ◌∷◌, ◌++◌, length, slice_get, slice_set, Option, Some, None, is_some, Bool, true, false, ◌||◌, if◌then◌else◌, refl, sym, ◌∙◌, ap, arith}
use Rattle.std.specs.List.{list_any}
use Rattle.pi_model.specs.Program.{Program, all_fields}
use Rattle.pi_model.specs.Values.{Ref, Num, Lit, Cls, Value, Word, Low, High, Long, At, Object, Instance, Array, Text}
use Rattle.pi_machine.specs.State.{State, Thing, Made, Touched, Entry, Call, Record, Held, Nothing, Result, Thrown}
use Rattle.pi_machine.specs.Deeds.{is_touched, with_field, with_item, in_thing, put_changed, changed_at}
use Rattle.pi_machine.specs.Objects.{made_of}
use Rattle.pi_machine.specs.Sound.{EachOf, IsThere, IsSoundValue, IsSoundObject, IsSoundThing, IsSoundEntry, IsSoundHeld, IsThereIfAny, IsSound}
use Rattle.pi_machine.proofs.Changes.{length_set, map_changed}
use Rattle.pi_machine.proofs.Truths.{same_self, some_same}
use Rattle.pi_machine.proofs.Each.{each_get, each_mono, each_joined, each_set}

-- what is named stays named
pub record Grows (old new : List Thing) : Type 0 where
  pub there : (r : Ref) → IsThere old r → IsThere new r

module _ {old new : List Thing} (g : Grows old new) where
  pub value_grows : (v : Value) → IsSoundValue old v → IsSoundValue new v
  value_grows (Word n) x = x
  value_grows (Low n) x = x
  value_grows (High n) x = x
  value_grows (Long n) x = x
  value_grows (At r) x = g.there r x

  pub values_grow : (vs : List Value) → EachOf (IsSoundValue old) vs → EachOf (IsSoundValue new) vs
  values_grow vs x = each_mono (IsSoundValue old) (IsSoundValue new) value_grows vs x

  pub object_grows : (p : Program) (o : Object) → IsSoundObject p old o → IsSoundObject p new o
  object_grows p (Instance c fields) x = (x.0, values_grow fields x.1)
  object_grows p (Array ty items) x = (x.0, values_grow items x.1)
  object_grows p (Text units) x = x

  pub thing_grows : (p : Program) (x : Thing) → IsSoundThing p old x → IsSoundThing p new x
  thing_grows p (Made file o) x = object_grows p o x
  thing_grows p (Touched file n) x = x

  entry_grows : (e : Entry) → IsSoundEntry old e → IsSoundEntry new e
  entry_grows (Call f) x = values_grow f.registers x
  entry_grows (Record c phase) x = x

  held_grows : (h : Held) → IsSoundHeld old h → IsSoundHeld new h
  held_grows Nothing x = x
  held_grows (Result v) x = value_grows v x
  held_grows (Thrown r) x = g.there r x

  any_grows : (r : Option Ref) → IsThereIfAny old r → IsThereIfAny new r
  any_grows None x = x
  any_grows (Some r) x = g.there r x

-- a state of sound parts
pub sound_of : (p : Program) (s : State) → EachOf (IsSoundThing p s.things) s.things → EachOf (IsSoundValue s.things) s.statics
    → EachOf (IsSoundEntry s.things) s.stack → IsSoundHeld s.things s.held → IsThereIfAny s.things s.pending → IsThereIfAny s.things s.args
    → length s.statics ≡ all_fields p → length s.statuses ≡ length p.classes → IsSound p s
sound_of p s things statics stack held pending args all_statics all_statuses = record {
  things = things;
  statics = statics;
  stack = stack;
  held = held;
  pending = pending;
  args = args;
  all_statics = all_statics;
  all_statuses = all_statuses;
}

-- a sound state with other things, which are sound and name what was named
pub with_things : (p : Program) (s : State) (things : List Thing) → IsSound p s → Grows s.things things → EachOf (IsSoundThing p things) things
    → IsSound p (record s { things = things })
with_things p s things h g x =
    sound_of p (record s { things = things }) x (values_grow g s.statics h.statics) (each_mono (IsSoundEntry s.things) (IsSoundEntry things) (entry_grows g) s.stack h.stack)
    (held_grows g s.held h.held) (any_grows g s.pending h.pending) (any_grows g s.args h.args) h.all_statics h.all_statuses

-- one more thing
there_before : (things others : List Thing) (place : ℕ) → is_some (made_of (slice_get things place)) ≡ true → is_some (made_of (slice_get (things ++ others) place)) ≡ true
there_before [] others place e = cc
there_before (x ∷ things) others zero e = e
there_before (x ∷ things) others (suc place) e = there_before things others place e

any_before : (test : Thing → Bool) (things others : List Thing) → list_any test things ≡ true → list_any test (things ++ others) ≡ true
any_before test [] others e = cc
any_before test (x ∷ things) others e = by_first (test x) e (any_before test things others)
  where
    by_first : (b : Bool) → (b || list_any test things) ≡ true → (list_any test things ≡ true → list_any test (things ++ others) ≡ true)
        → (b || list_any test (things ++ others)) ≡ true
    by_first true k h = refl
    by_first false k h = h k

pub grows_more : (things others : List Thing) → Grows things (things ++ others)
grows_more things others = record { there = by_ref }
  where
    by_ref : (r : Ref) → IsThere things r → IsThere (things ++ others) r
    by_ref (Num place) x = there_before things others place x
    by_ref (Lit n) x = any_before (is_touched n) things others x
    by_ref (Cls n) x = x

pub last_there : (things : List Thing) (file : Option ℕ) (o : Object) → is_some (made_of (slice_get (things ++ Made file o ∷ []) (length things))) ≡ true
last_there [] file o = refl
last_there (x ∷ things) file o = last_there things file o

pub more_sound : (p : Program) (things : List Thing) (x : Thing) → EachOf (IsSoundThing p things) things → IsSoundThing p things x
    → EachOf (IsSoundThing p (things ++ x ∷ [])) (things ++ x ∷ [])
more_sound p things x h k =
    let g : Grows things (things ++ x ∷ []) = grows_more things (x ∷ []) in
    each_joined (IsSoundThing p (things ++ x ∷ [])) things (x ∷ [])
    (each_mono (IsSoundThing p things) (IsSoundThing p (things ++ x ∷ [])) (thing_grows g p) things h) (thing_grows g p x k, tt)

-- a touch
touched_last : (n : ℕ) (file : Option ℕ) (things : List Thing) → list_any (is_touched n) (things ++ Touched file n ∷ []) ≡ true
touched_last n file [] = rw (same_self n) refl
touched_last n file (x ∷ things) = by_first (is_touched n x) (touched_last n file things)
  where
    by_first : (b : Bool) → list_any (is_touched n) (things ++ Touched file n ∷ []) ≡ true → (b || list_any (is_touched n) (things ++ Touched file n ∷ [])) ≡ true
    by_first true h = refl
    by_first false h = h

-- what a touch leaves
pub record TouchLeaves (p : Program) (n : ℕ) (things new : List Thing) : Type 0 where
  pub grows : Grows things new
  pub there : IsThere new (Lit n)
  pub sound : EachOf (IsSoundThing p new) new

pub grows_same : (things : List Thing) → Grows things things
grows_same things = record { there = λ r x. x }

pub touch_leaves : (p : Program) (n : ℕ) (file : Option ℕ) (things : List Thing) (b : Bool) → list_any (is_touched n) things ≡ b → EachOf (IsSoundThing p things) things
    → TouchLeaves p n things (if b then things else things ++ Touched file n ∷ [])
touch_leaves p n file things true e h = record { grows = grows_same things; there = e; sound = h }
touch_leaves p n file things false e h = record {
  grows = grows_more things (Touched file n ∷ []);
  there = touched_last n file things;
  sound = more_sound p things (Touched file n) h tt;
}

-- a change of a thing
any_set : (test : Thing → Bool) (xs : List Thing) (i : ℕ) (x y : Thing) → slice_get xs i ≡ Some x → test y ≡ test x → list_any test (slice_set xs i y) ≡ list_any test xs
any_set test [] i x y e k = refl
any_set test (z ∷ xs) zero x y e k =
    let same : z ≡ x = some_same z x e in rw (k, ap test (sym same)) refl
any_set test (z ∷ xs) (suc i) x y e k = rw (any_set test xs i x y e k) refl

any_changed : (test : Thing → Bool) (change : Thing → Thing) → ((x : Thing) → test (change x) ≡ test x) → (i : ℕ) (xs : List Thing) (o : Option Thing) → slice_get xs i ≡ o
    → list_any test (put_changed change i xs o) ≡ list_any test xs
any_changed test change keeps i xs None e = refl
any_changed test change keeps i xs (Some x) e = any_set test xs i x (change x) e (keeps x)

module _ (change : Object → Object) where
  made_kept : (x : Thing) → is_some (made_of (Some (in_thing change x))) ≡ is_some (made_of (Some x))
  made_kept (Made file o) = refl
  made_kept (Touched file n) = refl

  touched_kept : (n : ℕ) (x : Thing) → is_touched n (in_thing change x) ≡ is_touched n x
  touched_kept n (Made file o) = refl
  touched_kept n (Touched file m) = refl

  pub grows_changed : (things : List Thing) (i : ℕ) → Grows things (changed_at (in_thing change) i things)
  grows_changed things i = record { there = by_ref }
    where
      by_ref : (r : Ref) → IsThere things r → IsThere (changed_at (in_thing change) i things) r
      by_ref (Num place) x = map_changed (λ o. is_some (made_of o)) (in_thing change) made_kept i things place (slice_get things i) refl ∙ x
      by_ref (Lit n) x = any_changed (is_touched n) (in_thing change) (touched_kept n) i things (slice_get things i) refl ∙ x
      by_ref (Cls n) x = x

  changed_sound : (P : Thing → Type 0) → ((x : Thing) → P x → P (in_thing change x)) → (things : List Thing) (i : ℕ) (o : Option Thing) → slice_get things i ≡ o
      → EachOf P things → EachOf P (put_changed (in_thing change) i things o)
  changed_sound P k things i None e h = h
  changed_sound P k things i (Some x) e h = each_set P things i (in_thing change x) h (k x (each_get P things i x h e))

pub field_sound : (p : Program) (things : List Thing) (i : ℕ) (v : Value) → IsSoundValue things v → (o : Object) → IsSoundObject p things o → IsSoundObject p things (with_field i v o)
field_sound p things i v x (Instance c fields) h = (length_set fields i v ∙ h.0, each_set (IsSoundValue things) fields i v h.1 x)
field_sound p things i v x (Array ty items) h = h
field_sound p things i v x (Text units) h = h

pub item_sound : (p : Program) (things : List Thing) (i : ℕ) (v : Value) → IsSoundValue things v → (o : Object) → IsSoundObject p things o → IsSoundObject p things (with_item i v o)
item_sound p things i v x (Instance c fields) h = h
item_sound p things i v x (Array ty items) h =
    let few : length items < 2 ^ 31 = h.0 in
    let same : length (slice_set items i v) ≡ length items = length_set items i v in
    (omega (arith, few, same), each_set (IsSoundValue things) items i v h.1 x)
item_sound p things i v x (Text units) h = h

in_thing_sound : (p : Program) (things : List Thing) (change : Object → Object) → ((o : Object) → IsSoundObject p things o → IsSoundObject p things (change o))
    → (x : Thing) → IsSoundThing p things x → IsSoundThing p things (in_thing change x)
in_thing_sound p things change k (Made file o) h = k o h
in_thing_sound p things change k (Touched file n) h = h

-- a sound state in which a thing is changed
pub change_sound : (p : Program) (s : State) (change : Object → Object) (i : ℕ) → IsSound p s
    → ((o : Object) → IsSoundObject p s.things o → IsSoundObject p s.things (change o))
    → IsSound p (record s { things = changed_at (in_thing change) i s.things })
change_sound p s change i h k =
    let g : Grows s.things (changed_at (in_thing change) i s.things) = grows_changed change s.things i in
    with_things p s (changed_at (in_thing change) i s.things) h g
    (each_mono (IsSoundThing p s.things) (IsSoundThing p (changed_at (in_thing change) i s.things)) (thing_grows g p) (changed_at (in_thing change) i s.things)
    (changed_sound change (IsSoundThing p s.things) (in_thing_sound p s.things change k) s.things i (slice_get s.things i) refl h.things))
