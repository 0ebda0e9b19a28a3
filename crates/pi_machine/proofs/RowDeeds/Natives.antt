-- The deeds of natives.
use Rattle.std.proofs.Common.{◌≡◌, ℕ, zero, suc, ◌+◌, ◌≤◌, ◌*◌, ◌==◌, List, [], ◌∷◌, ◌++◌, length, take, drop, Option, Some, None, Bool, true, false, if◌then◌else◌, option_map, slice_get, refl, sym, subst, arith, append_assoc}
use Rattle.std.specs.Prelude.{not, slice_index, ◌&&◌, ◌^◌, nat_lt, nat_le, option_and_then}
use Rattle.std.proofs.lemmas.Bool.{leb-true}
use Rattle.pi_model.specs.Program.{Program}
use Rattle.pi_model.specs.Known.{Known, NullPointer, CloneNotSupported, StringIndexOutOfBounds, ArrayIndexOutOfBounds, ArrayStore}
use Rattle.pi_model.specs.Values.{Ref, Num, Lit, Cls, Value, Word, Low, High, At, Object, Instance, Array, Text}
use Rattle.pi_machine.specs.State.{State, Frame, Held, Nothing, Result}
use Rattle.pi_machine.specs.Deeds.{Deed, Make, Print, OfItem, OfObject, Reads, Writes, Hold, Pend}
use Rattle.pi_machine.specs.Operands.{go_on}
use Rattle.pi_machine.specs.Throwing.{next_made}
use Rattle.pi_machine.specs.Sound.{EachOf}
use Rattle.pi_model.specs.Fields.{new_instance}
use Rattle.pi_machine.specs.Objects.{Shape, OfArray, shape_at, object_at, item_in, items_in}
use Rattle.pi_machine.specs.Natives.{Native, PrintInt, PrintLong, PrintText, Clone, GetClass, StringLength, CharAt, StringEquals, Concat, ArrayCopy, OfLong, OfChars, Outcome, Gives, Fails, gives_word, gives_text, is_index, is_range, units_in, component, sees_items, sets_items, may_clone, copies, clone_does, type_name_of, char_at_does, same_units, equals_does, concat_does, fits_component, fitting_front, ends_copy, copies_items, same_components, copies_between, array_copy_does, words_in, of_chars_does, print_text_does, native_does}
use Rattle.pi_machine.proofs.RowDeeds.Words.{RowFacts, RowLists, OnHeld, goes_on, pends_new}
use Rattle.pi_machine.proofs.RowDeeds.Objects.{sets_items_deeds, truth_small}

-- the deeds of a native as the end of its step: what it gives is held and the run goes on, or a throwable is made and pending
abbrev pub OnOutcome : Program → State → Frame → (All : List Deed → Type 0) → Option Outcome → Type 0
OnOutcome p s f All None = Unit {0}
OnOutcome p s f All (Some (Gives deeds held)) = (units : ℕ) → All (deeds ++ Hold held ∷ go_on f units)
OnOutcome p s f All (Some (Fails deeds class)) = (c : ℕ) → All (deeds ++ Make (new_instance p c) ∷ Pend (next_made s) ∷ [])

pub record AllBefore (p : Program) (s : State) (f : Frame) (All : List Deed → Type 0) (o : Option Outcome) : Type 0 where
  pub each : OnOutcome p s f All o

module _ {p : Program} {s : State} {f : Frame} {All : List Deed → Type 0} where
  no_outcome : AllBefore p s f All None
  no_outcome = record { each = tt }

  one_of : (b : Bool) {x y : Option Outcome} → AllBefore p s f All x → AllBefore p s f All y → AllBefore p s f All (if b then x else y)
  one_of true x y = x
  one_of false x y = y

  some_of : (b : Bool) {x y : Outcome} → AllBefore p s f All (Some x) → AllBefore p s f All (Some y) → AllBefore p s f All (Some (if b then x else y))
  some_of true x y = x
  some_of false x y = y

  some_is : (b : Bool) {x y : Outcome} → (b ≡ true → AllBefore p s f All (Some x)) → (b ≡ false → AllBefore p s f All (Some y)) → AllBefore p s f All (Some (if b then x else y))
  some_is true x y = x refl
  some_is false x y = y refl

  on_found : {A : Type 0} {go : A → Outcome} (o : Option A) → ((x : A) → AllBefore p s f All (Some (go x))) → AllBefore p s f All (option_map go o)
  on_found None h = no_outcome
  on_found (Some x) h = h x

  on_found_as : {A : Type 0} {go : A → Outcome} (o : Option A) → ((x : A) → o ≡ Some x → AllBefore p s f All (Some (go x))) → AllBefore p s f All (option_map go o)
  on_found_as None h = no_outcome
  on_found_as (Some x) h = h x refl

  then_found_as : {A : Type 0} {go : A → Option Outcome} (o : Option A) → ((x : A) → o ≡ Some x → AllBefore p s f All (go x)) → AllBefore p s f All (option_and_then go o)
  then_found_as None h = no_outcome
  then_found_as (Some x) h = h x refl

  then_found : {A : Type 0} {go : A → Option Outcome} (o : Option A) → ((x : A) → AllBefore p s f All (go x)) → AllBefore p s f All (option_and_then go o)
  then_found None h = no_outcome
  then_found (Some x) h = h x

-- what stands in a part of a list stands in the list
drop_get : {A : Type 0} (at : ℕ) (xs : List A) (i : ℕ) (x : A) → slice_get (drop at xs) i ≡ Some x → slice_get xs (at + i) ≡ Some x
drop_get zero xs i x e = let same : 0 + i ≡ i = omega arith in subst (λ (j : ℕ). slice_get xs j ≡ Some x) (sym same) e
drop_get (suc at) [] i x e = cc
drop_get (suc at) (z ∷ xs) i x e =
    let more : suc at + i ≡ suc (at + i) = omega arith in subst (λ (j : ℕ). slice_get (z ∷ xs) j ≡ Some x) (sym more) (drop_get at xs i x e)

take_get : {A : Type 0} (n : ℕ) (xs : List A) (i : ℕ) (x : A) → slice_get (take n xs) i ≡ Some x → slice_get xs i ≡ Some x
take_get zero xs i x e = cc
take_get (suc n) [] i x e = cc
take_get (suc n) (z ∷ xs) zero x e = e
take_get (suc n) (z ∷ xs) (suc i) x e = take_get n xs i x e

take_few : {A : Type 0} (n : ℕ) (xs : List A) → length (take n xs) ≤ n
take_few zero xs = omega arith
take_few (suc n) [] = omega arith
take_few (suc n) (x ∷ xs) = let few = take_few n xs in omega arith

item_of : (o : Option Object) (i : ℕ) (v : Value) → slice_get (items_in o) i ≡ Some v → item_in o i ≡ Some v
item_of (Some (Array ty items)) i v e = e
item_of (Some (Instance c fields)) i v e = cc
item_of (Some (Text units)) i v e = cc
item_of None i v e = cc

-- elements are what an array holds from a place on
record StandAt (p : Program) (s : State) (n at : ℕ) (values : List Value) : Type 0 where
  stand : (j : ℕ) (v : Value) → slice_get values j ≡ Some v → item_in (object_at p s (Num n)) (at + j) ≡ Some v

range_stands : (p : Program) (s : State) (n at count : ℕ) → StandAt p s n at (take count (drop at (items_in (object_at p s (Num n)))))
range_stands p s n at count = record {
  stand = λ j v e.
      item_of (object_at p s (Num n)) (at + j) v
      (drop_get at (items_in (object_at p s (Num n))) j v (take_get count (drop at (items_in (object_at p s (Num n)))) j v e));
}

stands_on : (p : Program) (s : State) (n at : ℕ) (v : Value) (vs : List Value) → StandAt p s n at (v ∷ vs) → StandAt p s n (at + 1) vs
stands_on p s n at v vs a = record {
  stand = λ j w e.
      let more : at + suc j ≡ (at + 1) + j = omega arith in
      subst (λ (i : ℕ). item_in (object_at p s (Num n)) i ≡ Some w) more (a.stand (suc j) w e);
}

stands_first : (p : Program) (s : State) (n at : ℕ) (v : Value) (vs : List Value) → StandAt p s n at (v ∷ vs)
    → item_in (object_at p s (Num n)) at ≡ Some v
stands_first p s n at v vs a =
    let same : at + 0 ≡ at = omega arith in
    subst (λ (i : ℕ). item_in (object_at p s (Num n)) i ≡ Some v) same (a.stand 0 v refl)

-- those that fit are no more than there are, and a range that is inside ends inside
fitting_length : (p : Program) (s : State) (ty : List ℕ) (vs : List Value) → length (fitting_front p s ty vs) ≤ length vs
fitting_length p s ty [] = omega arith
fitting_length p s ty (v ∷ vs) = by_fit (fits_component p s ty v) (fitting_length p s ty vs)
  where
    by_fit : (b : Bool) → length (fitting_front p s ty vs) ≤ length vs
        → length (if b then v ∷ fitting_front p s ty vs else []) ≤ length (v ∷ vs)
    by_fit true h = omega arith
    by_fit false h = omega arith

second_inside : (from to count n m : ℕ) → not (is_range from count n && is_range to count m) ≡ false → to + count ≤ m
second_inside from to count n m e =
    leb-true (to + count) m (last (is_range from count n) (nat_lt to (2 ^ 31)) (nat_lt count (2 ^ 31)) (nat_le (to + count) m) e)
  where
    last : (a b c d : Bool) → not (a && (b && (c && d))) ≡ false → d ≡ true
    last true true true true e = refl
    last true true true false e = cc
    last true true false d e = cc
    last true false c d e = cc
    last false b c d e = cc

-- the values of a range, and those of them that fit
module _ {p : Program} {s : State} {f : Frame} {V : Option Ref → Value → Type 0} {O : Object → Type 0} {U : List ℕ → Type 0} (g : RowFacts p s f V O U) where
  stands_values : (n at : ℕ) (values : List Value) → StandAt p s n at values → EachOf (V None) values
  stands_values n at [] a = tt
  stands_values n at (v ∷ vs) a = (g.item (Num n) at v (stands_first p s n at v vs a), stands_values n (at + 1) vs (stands_on p s n at v vs a))

  fitting_values : (ty : List ℕ) (vs : List Value) → EachOf (V None) vs → EachOf (V None) (fitting_front p s ty vs)
  fitting_values ty [] x = tt
  fitting_values ty (v ∷ vs) x = by_fit (fits_component p s ty v) (fitting_values ty vs x.1)
    where
      by_fit : (b : Bool) → EachOf (V None) (fitting_front p s ty vs) → EachOf (V None) (if b then v ∷ fitting_front p s ty vs else [])
      by_fit true h = (x.0, h)
      by_fit false h = tt

module _ {p : Program} {s : State} {f : Frame} {V : Option Ref → Value → Type 0} {O : Object → Type 0} {U : List ℕ → Type 0}
    {Ends : Option Ref → List Deed → Type 0} {After : ℕ → List Deed → Type 0} {All : List Deed → Type 0}
    (g : RowFacts p s f V O U) (k : RowLists p s f V O Ends After All) where
  -- the ends of a native
  holds_and_goes : (new : Option Ref) (held : Held) (units : ℕ) → OnHeld (V new) held → Ends new (Hold held ∷ go_on f units)
  holds_and_goes new held units x = k.hold new held (go_on f units) x (goes_on g k new units)

  holds_new : (units : ℕ) → Ends (Some (next_made s)) (Hold (Result (At (next_made s))) ∷ go_on f units)
  holds_new units = holds_and_goes (Some (next_made s)) (Result (At (next_made s))) units (g.new (next_made s))

  fails : (class : Known) → AllBefore p s f All (Some (Fails [] class))
  fails class = record { each = λ c. k.make (new_instance p c) _ (g.instance c) (pends_new g k) }

  word_given : (n : ℕ) → V None (Word n) → AllBefore p s f All (Some (gives_word n))
  word_given n x = record { each = λ units. k.rest _ (holds_and_goes None (Result (Word n)) units x) }

  text_given : (units : List ℕ) → O (Text units) → AllBefore p s f All (Some (gives_text s [] units))
  text_given units x = record { each = λ u. k.make (Text units) _ x (holds_new u) }

  printed : (bytes : List ℕ) → AllBefore p s f All (Some (Gives (Print bytes ∷ []) Nothing))
  printed bytes = record { each = λ units. k.print bytes _ (k.rest _ (holds_and_goes None Nothing units tt)) }

  -- elements that are looked at before what follows
  sees_items_deeds : (n : ℕ) (values : List Value) (at : ℕ) (ds : List Deed) → StandAt p s n at values → All ds → All (sees_items n at values ++ ds)
  sees_items_deeds n [] at ds a h = h
  sees_items_deeds n (v ∷ vs) at ds a h = k.saw (OfItem (Num n) at v) (sees_items n (at + 1) vs ++ ds) (stands_first p s n at v vs a) refl
      (sees_items_deeds n vs (at + 1) ds (stands_on p s n at v vs a) h)

  sees_items_then : (w n : ℕ) (values : List Value) (at : ℕ) (ds : List Deed) → StandAt p s n at values → After w ds → After w (sees_items n at values ++ ds)
  sees_items_then w n [] at ds a h = h
  sees_items_then w n (v ∷ vs) at ds a h = k.saw_then w (OfItem (Num n) at v) (sees_items n (at + 1) vs ++ ds) (stands_first p s n at v vs a) refl
      (sees_items_then w n vs (at + 1) ds (stands_on p s n at v vs a) h)

  copies_deeds : (r : Ref) (o : Option Object) → object_at p s r ≡ o → AllBefore p s f All (copies s r o)
  copies_deeds (Num n) (Some o) e =
      record { each = λ units. k.reads n _ (k.saw (OfObject (Num n) o) _ e refl (k.make o _ (g.object (Num n) o e) (holds_new units))) }
  copies_deeds (Num n) None e = no_outcome
  copies_deeds (Lit n) o e = no_outcome
  copies_deeds (Cls n) o e = no_outcome

  clone_deeds : (r : Ref) (shape : Option Shape) → AllBefore p s f All (clone_does p s r shape)
  clone_deeds r None = no_outcome
  clone_deeds r (Some shape) = one_of (may_clone p shape) (copies_deeds r (object_at p s r) refl) (fails CloneNotSupported)

  char_at_deeds : (i : ℕ) (units : List ℕ) → U units → AllBefore p s f All (Some (char_at_does i units))
  char_at_deeds i units x = some_of (is_index i (length units)) (word_given (slice_index units i) (g.unit units i x)) (fails StringIndexOutOfBounds)

  equals_deeds : (units : List ℕ) (v : Value) → AllBefore p s f All (equals_does p s units v)
  equals_deeds units (Word zero) = word_given 0 (g.small 0 (omega arith))
  equals_deeds units (At r) = word_given _ (g.small _ (truth_small (same_units units (units_in (shape_at p s r)))))
  equals_deeds units _ = no_outcome

  concat_deeds : (units : List ℕ) (v : Value) → U units → AllBefore p s f All (concat_does p s units v)
  concat_deeds units (Word zero) x = fails NullPointer
  concat_deeds units (At r) x = on_found_as (units_in (shape_at p s r)) (λ others e. text_given (units ++ others) (g.joined_text units others x (g.units r others e)))
  concat_deeds units _ x = no_outcome

  ends_copy_deeds : (n : ℕ) (whole : Bool) (from : ℕ) (ds : List Deed) → ((others : List Deed) → After n others → After n (ds ++ others))
      → AllBefore p s f All (Some (ends_copy whole (Reads from ∷ Writes n ∷ ds)))
  ends_copy_deeds n true from ds e = record { each = λ units. k.reads from _ (k.writes n _ (e _ (k.rest_then n _ (holds_and_goes None Nothing units tt)))) }
  ends_copy_deeds n false from ds e = record { each = λ c. k.reads from _ (k.writes n _ (e _ (k.make_then n (new_instance p c) _ (g.instance c) (pends_new g k)))) }

  copies_items_deeds : (from from_at to to_at count uy m : ℕ) (ty : List ℕ) (items : List Value)
      → StandAt p s from from_at items → shape_at p s (Num to) ≡ Some (OfArray uy m) → length items ≤ count → to_at + count ≤ m
      → AllBefore p s f All (Some (copies_items p s from from_at to to_at ty items))
  copies_items_deeds from from_at to to_at count uy m ty items a e few inside =
      let fewer : length (fitting_front p s ty items) ≤ length items = fitting_length p s ty items in
      let sets : List Deed = sets_items to to_at (fitting_front p s ty items) in
      ends_copy_deeds to (length (fitting_front p s ty items) == length items) from (sees_items from from_at items ++ sets) (λ others h.
      subst (After to) (sym (append_assoc (sees_items from from_at items) sets others))
      (sees_items_then to from items from_at (sets ++ others) a
      (sets_items_deeds g k to uy m e (fitting_front p s ty items) to_at others (omega arith) (fitting_values g ty items (stands_values g from from_at items a)) h)))

  copies_between_deeds : (r : Ref) (from : ℕ) (q : Ref) (to count : ℕ) (a b : Option Shape) → shape_at p s q ≡ b
      → AllBefore p s f All (copies_between p s r from q to count a b)
  copies_between_deeds (Num a) from (Num b) to count (Some (OfArray ty n)) (Some (OfArray uy m)) e =
      let items : List Value = take count (drop from (items_in (object_at p s (Num a)))) in
      some_of (not (same_components (component p ty) (component p uy))) (fails ArrayStore)
      (some_is (not (is_range from count n && is_range to count m)) (λ past. fails ArrayIndexOutOfBounds)
      (λ inside. copies_items_deeds a from b to count uy m (component p uy) items (range_stands p s a from count) e
      (take_few count (drop from (items_in (object_at p s (Num a))))) (second_inside from to count n m inside)))
  copies_between_deeds r from q to count (Some x) (Some y) e = fails ArrayStore
  copies_between_deeds r from q to count _ _ e = no_outcome

  array_copy_deeds : (a : Value) (from : ℕ) (b : Value) (to count : ℕ) → AllBefore p s f All (array_copy_does p s a from b to count)
  array_copy_deeds (At r) from (At q) to count = copies_between_deeds r from q to count (shape_at p s r) (shape_at p s q) refl
  array_copy_deeds (At r) from (Word zero) to count = fails NullPointer
  array_copy_deeds (Word zero) from (At q) to count = fails NullPointer
  array_copy_deeds (Word zero) from (Word zero) to count = fails NullPointer
  array_copy_deeds _ from _ to count = no_outcome

  of_chars_deeds : (r : Ref) (at count : ℕ) (shape : Option Shape) → AllBefore p s f All (of_chars_does p s r at count shape)
  of_chars_deeds (Num a) at count (Some (OfArray ty n)) =
      let items : List Value = take count (drop at (items_in (object_at p s (Num a)))) in
      one_of (not (slice_index (component p ty) 0 == 67)) no_outcome (one_of (is_range at count n)
      (on_found_as (words_in items) (λ units e.
      record {
        each = λ u. k.reads a _ (subst All (sym (append_assoc (sees_items a at items) (Make (Text units) ∷ []) (Hold (Result (At (next_made s))) ∷ go_on f u)))
            (sees_items_deeds a items at (Make (Text units) ∷ Hold (Result (At (next_made s))) ∷ go_on f u) (range_stands p s a at count)
            (k.make (Text units) _ (g.text_of items units e (stands_values g a at items (range_stands p s a at count))) (holds_new u))));
      }))
      (fails ArrayIndexOutOfBounds))
  of_chars_deeds _ at count _ = no_outcome

  print_text_deeds : (units : Option (List ℕ)) → AllBefore p s f All (print_text_does units)
  print_text_deeds units = on_found units (λ u. printed _)

  pub native_deeds : (native : Native) (args : List Value) → AllBefore p s f All (native_does p s native args)
  native_deeds PrintInt (Word n ∷ []) = printed _
  native_deeds PrintLong (Low low ∷ High high ∷ []) = printed _
  native_deeds PrintText (Word zero ∷ []) = fails NullPointer
  native_deeds PrintText (At r ∷ []) = print_text_deeds (units_in (shape_at p s r))
  native_deeds Clone (At r ∷ []) = clone_deeds r (shape_at p s r)
  native_deeds GetClass (At r ∷ []) =
      on_found (type_name_of p (shape_at p s r)) (λ n. record { each = λ units. k.rest _ (holds_and_goes None (Result (At (Cls n))) units (g.class n)) })
  native_deeds StringLength (At r ∷ []) = on_found_as (units_in (shape_at p s r)) (λ units e. word_given (length units) (g.text_length units (g.units r units e)))
  native_deeds CharAt (At r ∷ Word i ∷ []) = on_found_as (units_in (shape_at p s r)) (λ units e. char_at_deeds i units (g.units r units e))
  native_deeds StringEquals (At r ∷ v ∷ []) = then_found (units_in (shape_at p s r)) (λ units. equals_deeds units v)
  native_deeds Concat (At r ∷ v ∷ []) = then_found_as (units_in (shape_at p s r)) (λ units e. concat_deeds units v (g.units r units e))
  native_deeds ArrayCopy (a ∷ Word from ∷ b ∷ Word to ∷ Word count ∷ []) = array_copy_deeds a from b to count
  native_deeds OfLong (Low low ∷ High high ∷ []) = text_given _ (g.number_text (low + 2 ^ 32 * high))
  native_deeds OfChars (Word zero ∷ Word at ∷ Word count ∷ []) = fails NullPointer
  native_deeds OfChars (At r ∷ Word at ∷ Word count ∷ []) = of_chars_deeds r at count (shape_at p s r)
  native_deeds _ args = no_outcome
