-- A step changes only what its deeds name.
use Rattle.std.proofs.Common.{◌≡◌, ◌≢◌, ℕ, zero, suc, ◌<◌, ◌≤◌, ◌==◌, List, [], ◌∷◌, ◌++◌, length, slice_get, slice_set, Option, Some, None, Bool, true, false, if◌then◌else◌, option_map, refl, sym, ◌∙◌, ap, arith, length-append}
use Rattle.std.proofs.lemmas.Bool.{eqb-false}
use Rattle.std.proofs.lemmas.Option.{slice_get_within}
use Rattle.std.specs.List.{list_any}
use Rattle.pi_model.specs.Values.{Value, Object, Instance, Array, Text}
use Rattle.pi_machine.specs.State.{State, Thing, Made, Touched}
use Rattle.pi_machine.specs.Deeds.{Deed, Make, Touch, SetStatic, SetStatus, SetField, SetItem, Print, Start, Push, Pop, SetReg, Jump, GoOn, SetPhase, Pend, Unpend, Hold, do_deed, do_all, is_touched, with_field, with_item, in_thing, put_changed}
use Rattle.pi_machine.specs.Objects.{made_of, Shape, OfInstance, OfArray, shape_of}
use Rattle.pi_machine.specs.StepLaws.{sets_static, sets_status, changes_thing, adds_thing, prints, moves_stack, pends, holds, starts, NoneOf, file_of, DeedsChangeOnly}
use Rattle.pi_machine.proofs.Truths.{neither}

-- lists

pub get_set_other : {A : Type 0} (xs : List A) (i : ℕ) (y : A) (j : ℕ) → j ≢ i → slice_get (slice_set xs i y) j ≡ slice_get xs j
get_set_other [] i y j e = refl
get_set_other (x ∷ xs) zero y zero e = absurd (e refl)
get_set_other (x ∷ xs) zero y (suc j) e = refl
get_set_other (x ∷ xs) (suc i) y zero e = refl
get_set_other (x ∷ xs) (suc i) y (suc j) e = get_set_other xs i y j (λ q. e (ap (λ n. suc n) q))

pub get_set_apart : {A : Type 0} (xs : List A) (i : ℕ) (y : A) (j : ℕ) → (j == i) ≡ false → slice_get (slice_set xs i y) j ≡ slice_get xs j
get_set_apart xs i y j e = get_set_other xs i y j (eqb-false j i e)

pub length_set : {A : Type 0} (xs : List A) (i : ℕ) (y : A) → length (slice_set xs i y) ≡ length xs
length_set [] i y = refl
length_set (x ∷ xs) zero y = refl
length_set (x ∷ xs) (suc i) y = ap (λ n. suc n) (length_set xs i y)

get_append : {A : Type 0} (xs ys : List A) (n : ℕ) → n < length xs → slice_get (xs ++ ys) n ≡ slice_get xs n
get_append [] ys n h = absurd (omega arith)
get_append (x ∷ xs) ys zero h = refl
get_append (x ∷ xs) ys (suc n) h = get_append xs ys n (omega arith)

-- a change at a place changes what stands at that place alone
get_changed : {A : Type 0} (change : A → A) (i : ℕ) (xs : List A) (n : ℕ) (x : Option A) → (n == i) ≡ false
    → slice_get (put_changed change i xs x) n ≡ slice_get xs n
get_changed change i xs n None e = refl
get_changed change i xs n (Some x) e = get_set_apart xs i (change x) n e

pub length_changed : {A : Type 0} (change : A → A) (i : ℕ) (xs : List A) (x : Option A) → length (put_changed change i xs x) ≡ length xs
length_changed change i xs None = refl
length_changed change i xs (Some x) = length_set xs i (change x)

-- what a change leaves of an element, the list keeps at each place
pub map_set : {A B : Type 0} (look : Option A → B) (xs : List A) (i : ℕ) (y x : A) (n : ℕ) → slice_get xs i ≡ Some x
    → look (Some y) ≡ look (Some x) → look (slice_get (slice_set xs i y) n) ≡ look (slice_get xs n)
map_set look [] i y x n e k = refl
map_set look (z ∷ xs) zero y x zero e k = k ∙ sym (ap look e)
map_set look (z ∷ xs) zero y x (suc n) e k = refl
map_set look (z ∷ xs) (suc i) y x zero e k = refl
map_set look (z ∷ xs) (suc i) y x (suc n) e k = map_set look xs i y x n e k

pub map_changed : {A B : Type 0} (look : Option A → B) (change : A → A) → ((x : A) → look (Some (change x)) ≡ look (Some x))
    → (i : ℕ) (xs : List A) (n : ℕ) (x : Option A) → slice_get xs i ≡ x
    → look (slice_get (put_changed change i xs x) n) ≡ look (slice_get xs n)
map_changed look change keeps i xs n None e = refl
map_changed look change keeps i xs n (Some x) e = map_set look xs i (change x) x n e (keeps x)

-- what no deed changes of a thing: its shape, its file, and all of a touched literal
abbrev shape_in : Option Thing → Option Shape
shape_in o = option_map shape_of (made_of o)

abbrev literal_in : Option Thing → Option Thing
literal_in None = None
literal_in (Some (Made file o)) = None
literal_in (Some (Touched file n)) = Some (Touched file n)

literal_back : (o : Option Thing) (file : Option ℕ) (n : ℕ) → literal_in o ≡ Some (Touched file n) → o ≡ Some (Touched file n)
literal_back None file n e = cc
literal_back (Some (Made other o)) file n e = cc
literal_back (Some (Touched other m)) file n e = e

field_shape : (i : ℕ) (v : Value) (o : Object) → shape_of (with_field i v o) ≡ shape_of o
field_shape i v (Instance c fields) = ap (OfInstance c) (length_set fields i v)
field_shape i v (Array ty items) = refl
field_shape i v (Text units) = refl

item_shape : (i : ℕ) (v : Value) (o : Object) → shape_of (with_item i v o) ≡ shape_of o
item_shape i v (Instance c fields) = refl
item_shape i v (Array ty items) = ap (OfArray ty) (length_set items i v)
item_shape i v (Text units) = refl

-- a look at a thing that sees no change of fields and elements
record Unseen {B : Type 0} (look : Option Thing → B) : Type 0 where
  field : (i : ℕ) (v : Value) (x : Thing) → look (Some (in_thing (with_field i v) x)) ≡ look (Some x)
  item : (i : ℕ) (v : Value) (x : Thing) → look (Some (in_thing (with_item i v) x)) ≡ look (Some x)

shape_unseen : Unseen shape_in
shape_unseen = record {
  field = by_field;
  item = by_item;
}
  where
    by_field : (i : ℕ) (v : Value) (x : Thing) → shape_in (Some (in_thing (with_field i v) x)) ≡ shape_in (Some x)
    by_field i v (Made file o) = ap Some (field_shape i v o)
    by_field i v (Touched file n) = refl

    by_item : (i : ℕ) (v : Value) (x : Thing) → shape_in (Some (in_thing (with_item i v) x)) ≡ shape_in (Some x)
    by_item i v (Made file o) = ap Some (item_shape i v o)
    by_item i v (Touched file n) = refl

-- where no change of the object is seen at all
unseen_by : {B : Type 0} (look : Option Thing → B) → ((change : Object → Object) (x : Thing) → look (Some (in_thing change x)) ≡ look (Some x)) → Unseen look
unseen_by look same = record { field = λ i v. same (with_field i v); item = λ i v. same (with_item i v) }

file_unseen : Unseen (option_map file_of)
file_unseen = unseen_by (option_map file_of) by_thing
  where
    by_thing : (change : Object → Object) (x : Thing) → option_map file_of (Some (in_thing change x)) ≡ option_map file_of (Some x)
    by_thing change (Made file o) = refl
    by_thing change (Touched file n) = refl

literal_unseen : Unseen literal_in
literal_unseen = unseen_by literal_in by_thing
  where
    by_thing : (change : Object → Object) (x : Thing) → literal_in (Some (in_thing change x)) ≡ literal_in (Some x)
    by_thing change (Made file o) = refl
    by_thing change (Touched file n) = refl

-- a touch leaves what there was, and no list of things gets shorter
touch_get : (file : Option ℕ) (m : ℕ) (things : List Thing) (n : ℕ) (b : Bool) → n < length things
    → slice_get (if b then things else things ++ Touched file m ∷ []) n ≡ slice_get things n
touch_get file m things n true h = refl
touch_get file m things n false h = get_append things (Touched file m ∷ []) n h

touch_length : (file : Option ℕ) (m : ℕ) (things : List Thing) (b : Bool)
    → length things ≤ length (if b then things else things ++ Touched file m ∷ [])
touch_length file m things true = omega arith
touch_length file m things false = omega (arith, length-append things (Touched file m ∷ []))

deed_grows : (d : Deed) (s : State) → length s.things ≤ length (do_deed d s).things
deed_grows (Make o) s = omega (arith, length-append s.things (Made s.file o ∷ []))
deed_grows (Touch m) s = touch_length s.file m s.things (list_any (is_touched m) s.things)
deed_grows (SetField place i v) s = omega (arith, length_changed (in_thing (with_field i v)) place s.things (slice_get s.things place))
deed_grows (SetItem place i v) s = omega (arith, length_changed (in_thing (with_item i v)) place s.things (slice_get s.things place))
deed_grows _ s = omega arith

-- one deed, and each part
deed_unseen : {B : Type 0} (look : Option Thing → B) → Unseen look → (n : ℕ) (d : Deed) (s : State) → n < length s.things
    → look (slice_get (do_deed d s).things n) ≡ look (slice_get s.things n)
deed_unseen look u n (Make o) s h = ap look (get_append s.things (Made s.file o ∷ []) n h)
deed_unseen look u n (Touch m) s h = ap look (touch_get s.file m s.things n (list_any (is_touched m) s.things) h)
deed_unseen look u n (SetField place i v) s h = map_changed look (in_thing (with_field i v)) (u.field i v) place s.things n (slice_get s.things place) refl
deed_unseen look u n (SetItem place i v) s h = map_changed look (in_thing (with_item i v)) (u.item i v) place s.things n (slice_get s.things place) refl
deed_unseen look u n _ s h = refl

deed_things : (n : ℕ) (d : Deed) (s : State) → n < length s.things → changes_thing n d ≡ false
    → slice_get (do_deed d s).things n ≡ slice_get s.things n
deed_things n (Make o) s h e = get_append s.things (Made s.file o ∷ []) n h
deed_things n (Touch m) s h e = touch_get s.file m s.things n (list_any (is_touched m) s.things) h
deed_things n (SetField place i v) s h e = get_changed (in_thing (with_field i v)) place s.things n (slice_get s.things place) e
deed_things n (SetItem place i v) s h e = get_changed (in_thing (with_item i v)) place s.things n (slice_get s.things place) e
deed_things n _ s h e = refl

deed_statics : (f : ℕ) (d : Deed) (s : State) → sets_static f d ≡ false → slice_get (do_deed d s).statics f ≡ slice_get s.statics f
deed_statics f (SetStatic g v) s e = get_set_apart s.statics g v f e
deed_statics f _ s e = refl

deed_statuses : (c : ℕ) (d : Deed) (s : State) → sets_status c d ≡ false → slice_get (do_deed d s).statuses c ≡ slice_get s.statuses c
deed_statuses c (SetStatus g status) s e = get_set_apart s.statuses g status c e
deed_statuses c _ s e = refl

deed_static_count : (d : Deed) (s : State) → length (do_deed d s).statics ≡ length s.statics
deed_static_count (SetStatic f v) s = length_set s.statics f v
deed_static_count _ s = refl

deed_status_count : (d : Deed) (s : State) → length (do_deed d s).statuses ≡ length s.statuses
deed_status_count (SetStatus c status) s = length_set s.statuses c status
deed_status_count _ s = refl

deed_count : (d : Deed) (s : State) → adds_thing d ≡ false → length (do_deed d s).things ≡ length s.things
deed_count (Make o) s e = cc
deed_count (Touch m) s e = cc
deed_count (SetField place i v) s e = length_changed (in_thing (with_field i v)) place s.things (slice_get s.things place)
deed_count (SetItem place i v) s e = length_changed (in_thing (with_item i v)) place s.things (slice_get s.things place)
deed_count _ s e = refl

deed_output : (d : Deed) (s : State) → prints d ≡ false → (do_deed d s).output ≡ s.output
deed_output (Print bytes) s e = cc
deed_output _ s e = refl

deed_stack : (d : Deed) (s : State) → moves_stack d ≡ false → (do_deed d s).stack ≡ s.stack
deed_stack (Push x) s e = cc
deed_stack Pop s e = cc
deed_stack (SetReg a v) s e = cc
deed_stack (Jump to) s e = cc
deed_stack GoOn s e = cc
deed_stack (SetPhase phase) s e = cc
deed_stack _ s e = refl

deed_pending : (d : Deed) (s : State) → pends d ≡ false → (do_deed d s).pending ≡ s.pending
deed_pending (Pend r) s e = cc
deed_pending Unpend s e = cc
deed_pending _ s e = refl

deed_held : (d : Deed) (s : State) → holds d ≡ false → (do_deed d s).held ≡ s.held
deed_held (Hold h) s e = cc
deed_held _ s e = refl

deed_started : (d : Deed) (s : State) → starts d ≡ false → (do_deed d s).started ≡ s.started
deed_started Start s e = cc
deed_started _ s e = refl

deed_main : (d : Deed) (s : State) → (do_deed d s).main ≡ s.main
deed_main (Make o) s = refl
deed_main _ s = refl

deed_args : (d : Deed) (s : State) → (do_deed d s).args ≡ s.args
deed_args (Make o) s = refl
deed_args _ s = refl

deed_file : (d : Deed) (s : State) → (do_deed d s).file ≡ s.file
deed_file (Make o) s = refl
deed_file _ s = refl

-- all deeds of a list
kept_by : {B : Type 0} (part : State → B) (test : Deed → Bool) → ((d : Deed) (s : State) → test d ≡ false → part (do_deed d s) ≡ part s)
    → (ds : List Deed) (s : State) → NoneOf test ds → part (do_all ds s) ≡ part s
kept_by part test one [] s e = refl
kept_by part test one (d ∷ ds) s e =
    let k = neither (test d) (list_any test ds) e in kept_by part test one ds (do_deed d s) k.1 ∙ one d s k.0

kept_always : {B : Type 0} (part : State → B) → ((d : Deed) (s : State) → part (do_deed d s) ≡ part s)
    → (ds : List Deed) (s : State) → part (do_all ds s) ≡ part s
kept_always part one [] s = refl
kept_always part one (d ∷ ds) s = kept_always part one ds (do_deed d s) ∙ one d s

pub all_grow : (ds : List Deed) (s : State) → length s.things ≤ length (do_all ds s).things
all_grow [] s = omega arith
all_grow (d ∷ ds) s = let more = deed_grows d s in let most = all_grow ds (do_deed d s) in omega arith

kept_thing : (n : ℕ) (ds : List Deed) (s : State) → n < length s.things → NoneOf (changes_thing n) ds
    → slice_get (do_all ds s).things n ≡ slice_get s.things n
kept_thing n [] s h e = refl
kept_thing n (d ∷ ds) s h e =
    let more = deed_grows d s in
    let k = neither (changes_thing n d) (list_any (changes_thing n) ds) e in
    kept_thing n ds (do_deed d s) (omega arith) k.1 ∙ deed_things n d s h k.0

kept_unseen : {B : Type 0} (look : Option Thing → B) → Unseen look → (n : ℕ) (ds : List Deed) (s : State) → n < length s.things
    → look (slice_get (do_all ds s).things n) ≡ look (slice_get s.things n)
kept_unseen look u n [] s h = refl
kept_unseen look u n (d ∷ ds) s h =
    let more = deed_grows d s in kept_unseen look u n ds (do_deed d s) (omega arith) ∙ deed_unseen look u n d s h

kept_literal : (n : ℕ) (file : Option ℕ) (name : ℕ) (ds : List Deed) (s : State) → slice_get s.things n ≡ Some (Touched file name)
    → slice_get (do_all ds s).things n ≡ Some (Touched file name)
kept_literal n file name ds s e =
    literal_back (slice_get (do_all ds s).things n) file name
    (kept_unseen literal_in literal_unseen n ds s (slice_get_within s.things n (Touched file name) e) ∙ ap literal_in e)

pub deeds_change_only : DeedsChangeOnly
deeds_change_only = λ ds s. record {
  statics = λ f e. kept_by (λ t. slice_get t.statics f) (sets_static f) (deed_statics f) ds s e;
  statuses = λ c e. kept_by (λ t. slice_get t.statuses c) (sets_status c) (deed_statuses c) ds s e;
  things = λ n h e. kept_thing n ds s h e;
  shapes = λ n h. kept_unseen shape_in shape_unseen n ds s h;
  files = λ n h. kept_unseen (option_map file_of) file_unseen n ds s h;
  literals = λ n file name e. kept_literal n file name ds s e;
  static_count = kept_always (λ t. length t.statics) deed_static_count ds s;
  status_count = kept_always (λ t. length t.statuses) deed_status_count ds s;
  count = λ e. kept_by (λ t. length t.things) adds_thing deed_count ds s e;
  grows = all_grow ds s;
  output = λ e. kept_by (λ t. t.output) prints deed_output ds s e;
  stack = λ e. kept_by (λ t. t.stack) moves_stack deed_stack ds s e;
  pending = λ e. kept_by (λ t. t.pending) pends deed_pending ds s e;
  held = λ e. kept_by (λ t. t.held) holds deed_held ds s e;
  started = λ e. kept_by (λ t. t.started) starts deed_started ds s e;
  main = kept_always (λ t. t.main) deed_main ds s;
  args = kept_always (λ t. t.args) deed_args ds s;
  file = kept_always (λ t. t.file) deed_file ds s;
}
