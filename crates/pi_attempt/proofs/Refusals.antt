-- The reason of a step is the first act of it that is refused.
use Rattle.std.proofs.Common.{◌≡◌, ◌⊎◌, inl, inr, ℕ, ◌+◌, List, [], ◌∷◌, Option, Some, None, Bool, true, false, option_map, refl, ◌∙◌, ap, subst, zero-add}
use Rattle.std.specs.Prelude.{option_and_then, nat_lt, slice_get, if◌then◌else◌}
use Rattle.pi_model.specs.declared.describe.ClassDesc.{ClassDesc}
use Rattle.pi_model.specs.Program.{Program, field_count}
use Rattle.pi_model.specs.Search.{Member, class_at, field_of, or_else}
use Rattle.pi_model.specs.Values.{Num}
use Rattle.pi_machine.specs.State.{State, Thing, Made, Touched}
use Rattle.pi_machine.specs.Objects.{shape_at}
use Rattle.pi_machine.specs.Natives.{type_name_of}
use Rattle.pi_machine.specs.Deeds.{Deed, Saw, OfStatic, Writes, SetStatic}
use Rattle.pi_machine.specs.StepLaws.{EachDeed}
use Rattle.pi_machine.specs.StepForms.{Target, StaticsOf, ThingAt, WritesTo, ReadsOf}
use Rattle.pi_machine.specs.Acts.{Act, EnterClass, WriteStatic, WriteObject, ReadStatic, CallImpure, Turn, first_of, entered_by, field_class, static_write, object_write, write_by, read_by, impure_call, those_of}
use Rattle.pi_machine.proofs.FieldNumbers.{member_class}
use Rattle.pi_machine.proofs.StepForms.{writes_have_one_target, static_reads_have_one_class}
use Rattle.pi_machine.proofs.Truths.{some_same}
use Rattle.pi_attempt.specs.Watch.{Why, NeedsInit, EarlierImage, OtherStatics, NativeCall, Steps, if_other, earlier_class, is_earlier, earlier_write, other_write, other_read, reason_if}
use Rattle.pi_attempt.specs.Laws.{refusal, first_refusal, reason_beyond, ReasonIsFirstRefusal}

-- where every deed that answers gives the same answer, the first answer of what follows is what follows of the first
module _ {A B : Type 0} (ask : Deed → Option A) (g : A → Option B) (a : A) where
  abbrev OneAnswer : Deed → Type 0
  OneAnswer d = (ask d ≡ None) ⊎ (ask d ≡ Some a)

  first_one : (ds : List Deed) → EachDeed OneAnswer ds → (first_of ask ds ≡ None) ⊎ (first_of ask ds ≡ Some a)
  first_one [] e = inl refl
  first_one (d ∷ ds) e = by_answer e.0 (first_one ds e.1)
    where
      by_answer : (ask d ≡ None) ⊎ (ask d ≡ Some a) → (first_of ask ds ≡ None) ⊎ (first_of ask ds ≡ Some a)
          → (or_else (ask d) (first_of ask ds) ≡ None) ⊎ (or_else (ask d) (first_of ask ds) ≡ Some a)
      by_answer (inl n) h = rw n h
      by_answer (inr s) h = inr (rw s refl)

  first_then : (ds : List Deed) → EachDeed OneAnswer ds → first_of (λ d. option_and_then g (ask d)) ds ≡ option_and_then g (first_of ask ds)
  first_then [] e = refl
  first_then (d ∷ ds) e = by_answer e.0 (first_one ds e.1) (first_then ds e.1)
    where
      or_none : (b : Option B) → or_else b b ≡ b
      or_none None = refl
      or_none (Some x) = refl

      or_nothing : (b : Option B) → or_else b None ≡ b
      or_nothing None = refl
      or_nothing (Some x) = refl

      by_answer : (ask d ≡ None) ⊎ (ask d ≡ Some a) → (first_of ask ds ≡ None) ⊎ (first_of ask ds ≡ Some a)
          → first_of (λ d. option_and_then g (ask d)) ds ≡ option_and_then g (first_of ask ds)
          → or_else (option_and_then g (ask d)) (first_of (λ d. option_and_then g (ask d)) ds) ≡ option_and_then g (or_else (ask d) (first_of ask ds))
      by_answer (inl n) h ih = rw n ih
      by_answer (inr s) (inl none) ih = rw (s, ih, none) (or_nothing (g a))
      by_answer (inr s) (inr same) ih = rw (s, ih, same) (or_none (g a))

-- the same answers of every deed give the same first answer
first_same : {B : Type 0} (f g : Deed → Option B) → ((d : Deed) → f d ≡ g d) → (ds : List Deed) → first_of f ds ≡ first_of g ds
first_same f g h [] = refl
first_same f g h (d ∷ ds) = rw (h d, first_same f g h ds) refl

-- what holds of each answer holds of the first
first_has : {A : Type 0} (test : A → Bool) (ask : Deed → Option A) → ((d : Deed) (a : A) → ask d ≡ Some a → test a ≡ true) → (ds : List Deed) (a : A)
    → first_of ask ds ≡ Some a → test a ≡ true
first_has test ask h [] a e = cc
first_has {A} test ask h (d ∷ ds) a e = by_answer (ask d) refl e (first_has test ask h ds a)
  where
    by_answer : (o : Option A) → ask d ≡ o → or_else o (first_of ask ds) ≡ Some a → (first_of ask ds ≡ Some a → test a ≡ true) → test a ≡ true
    by_answer None is k rest = rest k
    by_answer (Some x) is k rest = subst (λ y. test y ≡ true) (some_same x a k) (h d x is)

-- the act is a write
is_write_act : Act → Bool
is_write_act (WriteStatic d ty other) = true
is_write_act (WriteObject other ty) = true
is_write_act _ = false

module _ (p : Program) (c file : ℕ) (s : State) where
  -- the type of an earlier file, and the other class, that a write meets
  abbrev earlier_of : Act → Option ℕ
  earlier_of (WriteStatic d ty other) = if nat_lt other file then Some ty else None
  earlier_of (WriteObject (Some other) ty) = if nat_lt other file then Some ty else None
  earlier_of (WriteObject None ty) = None
  earlier_of _ = None

  abbrev other_of : Act → Option ℕ
  other_of (WriteStatic d ty other) = if_other c (Some d)
  other_of _ = None

  abbrev other_class : ℕ → Option ℕ
  other_class d = if_other c (Some d)

  earlier_static : (o : Option ℕ) → option_and_then (λ d. earlier_class file (class_at p d)) o ≡ option_and_then earlier_of (option_and_then (static_write p) o)
  earlier_static None = refl
  earlier_static (Some d) = by_class (class_at p d)
    where
      by_class : (k : Option ClassDesc) → earlier_class file k ≡ option_and_then earlier_of (option_map (λ (x : ClassDesc). WriteStatic d x.name.0 x.file.0) k)
      by_class None = refl
      by_class (Some x) = refl

  abbrev no_name : Option ℕ
  no_name = None

  no_type : (b : Bool) → (if b then no_name else no_name) ≡ no_name
  no_type true = refl
  no_type false = refl

  earlier_type : (other : ℕ) (ty : Option ℕ)
      → (if nat_lt other file then ty else None) ≡ option_and_then earlier_of (option_map (WriteObject (Some other)) ty)
  earlier_type other None = no_type (nat_lt other file)
  earlier_type other (Some k) = refl

  untyped : (ty : Option ℕ) → None ≡ option_and_then earlier_of (option_map (WriteObject None) ty)
  untyped None = refl
  untyped (Some k) = refl

  earlier_thing : (n : ℕ) (x : Option Thing)
      → (if is_earlier file x then type_name_of p (shape_at p s (Num n)) else None) ≡ option_and_then earlier_of (object_write p s n x)
  earlier_thing n (Some (Made (Some other) o)) = earlier_type other (type_name_of p (shape_at p s (Num n)))
  earlier_thing n (Some (Made None o)) = untyped (type_name_of p (shape_at p s (Num n)))
  earlier_thing n (Some (Touched other m)) = refl
  earlier_thing n None = refl

  earlier_is : (d : Deed) → earlier_write p file s d ≡ option_and_then earlier_of (write_by p s d)
  earlier_is (SetStatic f v) = earlier_static (field_class p f)
  earlier_is (Writes n) = earlier_thing n (slice_get s.things n)
  earlier_is _ = refl

  other_static : (f : ℕ) (o : Option Member) → field_of p f ≡ o
      → if_other c (option_map (λ (i : Member). i.class) o) ≡ option_and_then other_of (option_and_then (static_write p) (option_map (λ (i : Member). i.class) o))
  other_static f None e = refl
  other_static f (Some i) e =
      let h : (k : ℕ) × (d : ClassDesc) × (i.class ≡ 0 + k) × (slice_get p.classes k ≡ Some d) = member_class field_count p.classes 0 f i e in
      let at : i.class ≡ h.0 = h.2 ∙ zero-add h.0 in
      let there : class_at p i.class ≡ Some h.1 = ap (slice_get p.classes) at ∙ h.3 in
      rw there refl

  other_thing : (n : ℕ) (x : Option Thing) → None ≡ option_and_then other_of (object_write p s n x)
  other_thing n (Some (Made other o)) = by_type (type_name_of p (shape_at p s (Num n)))
    where
      by_type : (ty : Option ℕ) → None ≡ option_and_then other_of (option_map (WriteObject other) ty)
      by_type None = refl
      by_type (Some k) = refl
  other_thing n (Some (Touched other m)) = refl
  other_thing n None = refl

  other_is : (d : Deed) → other_write p c d ≡ option_and_then other_of (write_by p s d)
  other_is (SetStatic f v) = other_static f (field_of p f) refl
  other_is (Writes n) = other_thing n (slice_get s.things n)
  other_is _ = refl

  read_class : (o : Option ℕ) → if_other c o ≡ option_and_then other_class o
  read_class None = refl
  read_class (Some d) = refl

  read_is : (d : Deed) → other_read p c d ≡ option_and_then other_class (read_by p d)
  read_is (Saw (OfStatic f v)) = read_class (field_class p f)
  read_is _ = refl

  -- writes are acts of writing
  write_is : (d : Deed) (a : Act) → write_by p s d ≡ Some a → is_write_act a ≡ true
  unfolding is_write_act
  write_is (SetStatic f v) a e = by_field (field_class p f) e
    where
      by_class : (k : Option ClassDesc) (d : ℕ) → option_map (λ (x : ClassDesc). WriteStatic d x.name.0 x.file.0) k ≡ Some a → is_write_act a ≡ true
      by_class None d h = cc
      by_class (Some x) d h = subst (λ y. is_write_act y ≡ true) (some_same (WriteStatic d x.name.0 x.file.0) a h) refl

      by_field : (o : Option ℕ) → option_and_then (static_write p) o ≡ Some a → is_write_act a ≡ true
      by_field None h = cc
      by_field (Some d) h = by_class (class_at p d) d h
  write_is (Writes n) a e = by_thing (slice_get s.things n) e
    where
      by_type : (other : Option ℕ) (ty : Option ℕ) → option_map (WriteObject other) ty ≡ Some a → is_write_act a ≡ true
      by_type other None h = cc
      by_type other (Some k) h = subst (λ y. is_write_act y ≡ true) (some_same (WriteObject other k) a h) refl

      by_thing : (x : Option Thing) → object_write p s n x ≡ Some a → is_write_act a ≡ true
      by_thing (Some (Made other o)) h = by_type other (type_name_of p (shape_at p s (Num n))) h
      by_thing (Some (Touched other m)) h = cc
      by_thing None h = cc
  write_is _ a e = cc

  -- the one act of a target
  abbrev act_of : Target → Option Act
  act_of (StaticsOf d) = static_write p d
  act_of (ThingAt n) = object_write p s n (slice_get s.things n)

  static_act : (t : Target) (o : Option ℕ) → option_map StaticsOf o ≡ Some t → option_and_then (static_write p) o ≡ act_of t
  static_act t None e = cc
  static_act t (Some d) e = ap act_of (some_same (StaticsOf d) t e)

  write_one : (t : Target) (d : Deed) → WritesTo p t d → (write_by p s d ≡ None) ⊎ (write_by p s d ≡ act_of t)
  write_one t (SetStatic f v) h = inr (static_act t (field_class p f) (h refl))
  write_one t (Writes n) h = inr (ap act_of (some_same (ThingAt n) t (h refl)))
  write_one t _ h = inl refl

  read_one : (d : ℕ) (x : Deed) → ReadsOf p d x → (read_by p x ≡ None) ⊎ (read_by p x ≡ Some d)
  read_one d (Saw (OfStatic f v)) h = inr (h refl)
  read_one d _ h = inl refl

  reads_one : (d : ℕ) (ds : List Deed) → EachDeed (ReadsOf p d) ds → EachDeed (OneAnswer (read_by p) other_class d) ds
  reads_one d [] e = tt
  reads_one d (x ∷ ds) e = (read_one d x e.0, reads_one d ds e.1)

  -- an act in the place of none
  abbrev or_turn : Option Act → Act
  or_turn None = Turn
  or_turn (Some a) = a

  or_the_turn : (o : Option Act) (b : Option Act) → (o ≡ None) ⊎ (o ≡ b) → (o ≡ None) ⊎ (o ≡ Some (or_turn b))
  or_the_turn o b (inl n) = inl n
  or_the_turn o None (inr same) = inl same
  or_the_turn o (Some a) (inr same) = inr same

  writes_one : {B : Type 0} (g : Act → Option B) (t : Target) (ds : List Deed) → EachDeed (WritesTo p t) ds → EachDeed (OneAnswer (write_by p s) g (or_turn (act_of t))) ds
  writes_one g t [] e = tt
  writes_one g t (x ∷ ds) e = (or_the_turn (write_by p s x) (act_of t) (write_one t x e.0), writes_one g t ds e.1)

-- from the reads on the reasons are the refusals of the acts
module _ (c file : ℕ) (spent : Bool) (b : Option Why) where
  abbrev from_turn : Option Why
  from_turn = or_else (reason_if spent Steps) b

  abbrev refused : List (Option Act) → Option Why
  refused os = first_refusal (refusal c file spent) (those_of os)

  turn_refused : (x : Bool) → or_else (reason_if x Steps) b ≡ or_else (or_else (reason_if x Steps) None) b
  turn_refused true = refl
  turn_refused false = refl

  native_refused : (i : Option ℕ) → or_else (option_map NativeCall i) from_turn ≡ or_else (refused (option_map CallImpure i ∷ Some Turn ∷ [])) b
  native_refused None = turn_refused spent
  native_refused (Some m) = refl

  read_refused : (i r : Option ℕ)
      → or_else (option_map OtherStatics (option_and_then (λ d. if_other c (Some d)) r)) (or_else (option_map NativeCall i) from_turn)
      ≡ or_else (refused (option_map ReadStatic r ∷ option_map CallImpure i ∷ Some Turn ∷ [])) b
  read_refused i None = native_refused i
  read_refused i (Some d) = by_other (if_other c (Some d)) _ _ (native_refused i)
    where
      by_other : (o : Option ℕ) (x y : Option Why) → x ≡ or_else y b → or_else (option_map OtherStatics o) x ≡ or_else (or_else (option_map OtherStatics o) y) b
      by_other None x y h = h
      by_other (Some k) x y h = refl

  by_static : (earlier : Bool) (o r : Option ℕ) (ty : ℕ) (x y : Option Why) → or_else (option_map OtherStatics r) x ≡ or_else y b
      → or_else (option_map EarlierImage (if earlier then Some ty else None)) (or_else (option_map OtherStatics (or_else o r)) x)
      ≡ or_else (or_else (or_else (reason_if earlier (EarlierImage ty)) (option_map OtherStatics o)) y) b
  by_static true o r ty x y h = refl
  by_static false None r ty x y h = h
  by_static false (Some k) r ty x y h = refl

  by_object : (earlier : Bool) (r : Option ℕ) (ty : ℕ) (x y : Option Why) → or_else (option_map OtherStatics r) x ≡ or_else y b
      → or_else (option_map EarlierImage (if earlier then Some ty else None)) (or_else (option_map OtherStatics (or_else None r)) x)
      ≡ or_else (or_else (reason_if earlier (EarlierImage ty)) y) b
  by_object true r ty x y h = refl
  by_object false r ty x y h = h

  write_refused : (p : Program) (s : State) (i r : Option ℕ) (w : Option Act) → ((a : Act) → w ≡ Some a → is_write_act a ≡ true)
      → or_else (option_map EarlierImage (option_and_then (earlier_of p c file s) w))
      (or_else (option_map OtherStatics (or_else (option_and_then (other_of p c file s) w) (option_and_then (λ d. if_other c (Some d)) r)))
      (or_else (option_map NativeCall i) from_turn))
      ≡ or_else (refused (w ∷ option_map ReadStatic r ∷ option_map CallImpure i ∷ Some Turn ∷ [])) b
  unfolding is_write_act
  write_refused p s i r None h = read_refused i r
  write_refused p s i r (Some (WriteStatic d ty other)) h =
      by_static (nat_lt other file) (if_other c (Some d)) (option_and_then (λ d. if_other c (Some d)) r) ty _ _ (read_refused i r)
  write_refused p s i r (Some (WriteObject (Some other) ty)) h =
      by_object (nat_lt other file) (option_and_then (λ d. if_other c (Some d)) r) ty _ _ (read_refused i r)
  write_refused p s i r (Some (WriteObject None ty)) h = read_refused i r
  write_refused p s i r (Some (EnterClass d)) h = let k : is_write_act (EnterClass d) ≡ true = h (EnterClass d) refl in cc
  write_refused p s i r (Some (ReadStatic d)) h = let k : is_write_act (ReadStatic d) ≡ true = h (ReadStatic d) refl in cc
  write_refused p s i r (Some (CallImpure m)) h = let k : is_write_act (CallImpure m) ≡ true = h (CallImpure m) refl in cc
  write_refused p s i r (Some Turn) h = let k : is_write_act Turn ≡ true = h Turn refl in cc

  enter_refused : (e : Option ℕ) (os : List (Option Act)) (x : Option Why) → x ≡ or_else (refused os) b
      → or_else (option_map NeedsInit e) x ≡ or_else (refused (option_map EnterClass e ∷ os)) b
  enter_refused None os x h = h
  enter_refused (Some d) os x h = refl

pub reason_is_first_refusal : ReasonIsFirstRefusal
reason_is_first_refusal = λ p c file spent s deeds e.
    let t : (t : Target) × EachDeed (WritesTo p t) deeds = writes_have_one_target p s deeds e in
    let r : (d : ℕ) × EachDeed (ReadsOf p d) deeds = static_reads_have_one_class p s deeds e in
    let w : Option Act = first_of (write_by p s) deeds in
    let earlier : first_of (earlier_write p file s) deeds ≡ option_and_then (earlier_of p c file s) w =
    first_same (earlier_write p file s) (λ d. option_and_then (earlier_of p c file s) (write_by p s d)) (earlier_is p c file s) deeds
    ∙ first_then (write_by p s) (earlier_of p c file s) (or_turn p c file s (act_of p c file s t.0)) deeds (writes_one p c file s (earlier_of p c file s) t.0 deeds t.1) in
    let other : first_of (other_write p c) deeds ≡ option_and_then (other_of p c file s) w =
    first_same (other_write p c) (λ d. option_and_then (other_of p c file s) (write_by p s d)) (other_is p c file s) deeds
    ∙ first_then (write_by p s) (other_of p c file s) (or_turn p c file s (act_of p c file s t.0)) deeds (writes_one p c file s (other_of p c file s) t.0 deeds t.1) in
    let read : first_of (other_read p c) deeds ≡ option_and_then (other_class p c file s) (first_of (read_by p) deeds) =
    first_same (other_read p c) (λ d. option_and_then (other_class p c file s) (read_by p d)) (read_is p c file s) deeds
    ∙ first_then (read_by p) (other_class p c file s) r.0 deeds (reads_one p c file s r.0 deeds r.1) in
    let b : Option Why = reason_beyond p c file s deeds in
    rw (earlier, other, read)
    (enter_refused c file spent b (first_of entered_by deeds)
    (w ∷ option_map ReadStatic (first_of (read_by p) deeds) ∷ option_map CallImpure (first_of (impure_call p) deeds) ∷ Some Turn ∷ []) _
    (write_refused c file spent b p s (first_of (impure_call p) deeds) (first_of (read_by p) deeds) w
    (first_has is_write_act (write_by p s) (write_is p c file s) deeds)))
