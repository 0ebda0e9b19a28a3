-- What holds of all deeds of a row: the kinds of deeds that rows do, and the words in which rows are written.
use Rattle.std.proofs.Common.{◌≡◌, ℕ, zero, ◌+◌, ◌<◌, List, [], ◌∷◌, ◌++◌, Option, Some, None, Bool, true, false, if◌then◌else◌, ◌||◌, option_map, refl, arith, length, suc, subst, sym, ap, ◌∙◌, ◌%◌, ◌/◌, ◌^◌, ◌*◌, replicate, slice_get}
use Rattle.std.specs.List.{list_any}
use Rattle.std.specs.Prelude.{option_and_then, nat_lt, slice_index}
use Rattle.std.proofs.lemmas.Bool.{ltb-true}
use Rattle.pi_model.specs.declared.insn.Kind.{Kind}
use Rattle.pi_model.specs.declared.insn.Kind.TheVariants as kind
use Rattle.pi_model.specs.Program.{Program}
use Rattle.pi_model.specs.Known.{Known, descriptor_of}
use Rattle.pi_model.specs.Search.{class_named}
use Rattle.pi_model.specs.Fields.{new_instance}
use Rattle.pi_model.specs.Values.{Ref, Lit, Cls, Value, Word, Low, High, Long, At, Object, Array, Text}
use Rattle.pi_model.specs.declared.insn.Access.{Access}
use Rattle.pi_model.specs.declared.insn.BinOp.{BinOp}
use Rattle.pi_model.specs.declared.insn.UnOp.{UnOp}
use Rattle.pi_model.specs.Arithmetic.{int_result, long_result}
use Rattle.pi_machine.specs.State.{State, Frame, Call, Record, Held, Nothing, Result, Thrown}
use Rattle.pi_machine.specs.Deeds.{Look, OfStatic, Deed, Make, Touch, Saw, Reads, Writes, SetStatic, SetStatus, SetField, SetItem, CallNative, Print, Start, Push, Pop, SetReg, Jump, GoOn, SetPhase, Pend, Unpend, Hold}
use Rattle.pi_machine.specs.Objects.{OfArray, shape_at, object_at, field_in, item_in, names_thing}
use Rattle.pi_machine.specs.Operands.{Deeds, first_do, with_word, with_long, with_ref, with_operand, of_kind, register_of, registers_of, value_list, stored_value, set_word, set_long, set_value, set_and_go, go_on}
use Rattle.pi_machine.specs.Printed.{long_text}
use Rattle.pi_machine.specs.Natives.{units_in, words_in}
use Rattle.pi_machine.specs.Rows.Numbers.{takes_long, unary_value}
use Rattle.pi_machine.specs.Rows.Arrays.{first_item}
use Rattle.pi_machine.specs.Sound.{EachOf}
use Rattle.pi_machine.specs.Throwing.{throws, next_made}
use Rattle.pi_machine.proofs.Truths.{some_same}
use Rattle.pi_machine.specs.StepLaws.{EachDeed, IsSeen, HasField, HasItem, IsFieldOf}
use Rattle.pi_machine.specs.StepForms.{reads_static}

-- a property of the deeds of a row, which does none where it is stuck
abbrev pub OnDeeds : (List Deed → Type 0) → Deeds → Type 0
OnDeeds Q None = Unit {0}
OnDeeds Q (Some ds) = Q ds

pub record Does (Q : List Deed → Type 0) (ds : Deeds) : Type 0 where
  pub each : OnDeeds Q ds

-- a word, or a long
abbrev pub number : Bool → ℕ → Value
number true n = Long n
number false n = Word n

-- a property of what is held
abbrev pub OnHeld : (Value → Type 0) → Held → Type 0
OnHeld V Nothing = Unit {0}
OnHeld V (Result v) = V v
OnHeld V (Thrown r) = V (At r)

-- A property of values, of objects and of texts, as rows make new ones of old ones. `V new` is of the values of which a
-- reference may be one that has come up in this step.
pub record RowFacts (p : Program) (s : State) (f : Frame) (V : Option Ref → Value → Type 0) (O : Object → Type 0) (U : List ℕ → Type 0) : Type 0 where
  pub register : (a : ℕ) (v : Value) → register_of f a ≡ Some v → V None v
  pub static : (n : ℕ) (v : Value) → slice_get s.statics n ≡ Some v → V None v
  pub field : (r : Ref) (i : ℕ) (v : Value) → field_in (object_at p s r) i ≡ Some v → V None v
  pub item : (r : Ref) (i : ℕ) (v : Value) → item_in (object_at p s r) i ≡ Some v → V None v
  pub result : (v : Value) → s.held ≡ Result v → V None v
  pub thrown : (r : Ref) → s.held ≡ Thrown r → V None (At r)
  pub object : (r : Ref) (o : Object) → object_at p s r ≡ Some o → O o
  pub new : (r : Ref) → V (Some r) (At r)
  pub class : (n : ℕ) → V None (At (Cls n))
  pub small : (n : ℕ) → n < 2 ^ 32 → V None (Word n)
  pub wide : (m n : ℕ) → V None (Low m) → V None (High n) → V None (Long (m + 2 ^ 32 * n))
  pub low : (new : Option Ref) (n : ℕ) → V new (Long n) → V new (Low (n % 2 ^ 32))
  pub high : (new : Option Ref) (n : ℕ) → V new (Long n) → V new (High (n / 2 ^ 32))
  pub stored_value : (k : Access) (v : Value) → V None v → V None (stored_value k v)
  pub int : (op : BinOp) (m n r : ℕ) → V None (Word m) → V None (Word n) → int_result op m n ≡ Some r → V None (Word r)
  pub long : (op : BinOp) (of_long : Bool) (m n r : ℕ) → V None (Long m) → V None (number of_long n) → long_result op m n ≡ Some r → V None (Long r)
  pub unary : (op : UnOp) (n : ℕ) → V None (number (takes_long op) n) → V None (unary_value op n)
  pub array_length : (r : Ref) (ty items : ℕ) → shape_at p s r ≡ Some (OfArray ty items) → V None (Word items)
  pub units : (r : Ref) (units : List ℕ) → units_in (shape_at p s r) ≡ Some units → U units
  pub unit : (units : List ℕ) (i : ℕ) → U units → V None (Word (slice_index units i))
  pub text_length : (units : List ℕ) → U units → V None (Word (length units))
  pub joined_text : (units others : List ℕ) → U units → U others → O (Text (units ++ others))
  pub text_of : (vs : List Value) (units : List ℕ) → words_in vs ≡ Some units → EachOf (V None) vs → O (Text units)
  pub number_text : (n : ℕ) → O (Text (long_text n))
  pub instance : (c : ℕ) → O (new_instance p c)
  pub zeros : (ty n letter : ℕ) → n < 2 ^ 31 → O (Array ty (replicate n (first_item letter)))

-- Properties of the lists of deeds that the row of a frame's instruction does, by what comes first. `All` is of whole lists,
-- `After n` of what follows the mark that thing n is written, and `Ends` of what ends a step: it makes, touches and writes
-- nothing. What is told as read stands so in the state, and what is written is there. Values that are set have the property
-- `V`, and objects that are made have `O`.
pub record RowLists (p : Program) (s : State) (f : Frame) (V : Option Ref → Value → Type 0) (O : Object → Type 0)
    (Ends : Option Ref → List Deed → Type 0) (After : ℕ → List Deed → Type 0) (All : List Deed → Type 0) : Type 0 where
  pub none : (new : Option Ref) → Ends new []
  pub push_call : (new : Option Ref) (g : Frame) (ds : List Deed) → EachOf (V None) g.registers → Ends new ds → Ends new (Push (Call g) ∷ ds)
  pub pop : (new : Option Ref) (ds : List Deed) → Ends new ds → Ends new (Pop ∷ ds)
  pub set_reg : (new : Option Ref) (a : ℕ) (v : Value) (ds : List Deed) → a < length f.registers → V new v → Ends new ds → Ends new (SetReg a v ∷ ds)
  pub jump : (new : Option Ref) (to : ℕ) (ds : List Deed) → Ends new ds → Ends new (Jump to ∷ ds)
  pub past_call : (new : Option Ref) (ds : List Deed) → Ends new ds → Ends new (GoOn ∷ ds)
  pub pend : (new : Option Ref) (r : Ref) (ds : List Deed) → V new (At r) → Ends new ds → Ends new (Pend r ∷ ds)
  pub hold : (new : Option Ref) (h : Held) (ds : List Deed) → OnHeld (V new) h → Ends new ds → Ends new (Hold h ∷ ds)
  pub rest : (ds : List Deed) → Ends None ds → All ds
  pub make : (o : Object) (ds : List Deed) → O o → Ends (Some (next_made s)) ds → All (Make o ∷ ds)
  pub touch : (n : ℕ) (ds : List Deed) → Ends (Some (Lit n)) ds → All (Touch n ∷ ds)
  pub saw : (look : Look) (ds : List Deed) → IsSeen p s look → reads_static (Saw look) ≡ false → All ds → All (Saw look ∷ ds)
  pub saw_static : (c field : ℕ) (v : Value) (ds : List Deed) → IsSeen p s (OfStatic field v) → IsFieldOf p c field → Ends None ds → All (Saw (OfStatic field v) ∷ ds)
  pub reads : (n : ℕ) (ds : List Deed) → All ds → All (Reads n ∷ ds)
  pub print : (bytes : List ℕ) (ds : List Deed) → All ds → All (Print bytes ∷ ds)
  pub set_static : (c field : ℕ) (v : Value) (ds : List Deed) → IsFieldOf p c field → field < length s.statics → V None v → Ends None ds → All (SetStatic field v ∷ ds)
  pub writes : (n : ℕ) (ds : List Deed) → After n ds → All (Writes n ∷ ds)
  pub set_field : (n place : ℕ) (v : Value) (ds : List Deed) → HasField s n place → V None v → After n ds → After n (SetField n place v ∷ ds)
  pub set_item : (n place : ℕ) (v : Value) (ds : List Deed) → HasItem s n place → V None v → After n ds → After n (SetItem n place v ∷ ds)
  pub saw_then : (n : ℕ) (look : Look) (ds : List Deed) → IsSeen p s look → reads_static (Saw look) ≡ false → After n ds → After n (Saw look ∷ ds)
  pub make_then : (n : ℕ) (o : Object) (ds : List Deed) → O o → Ends (Some (next_made s)) ds → After n (Make o ∷ ds)
  pub rest_then : (n : ℕ) (ds : List Deed) → Ends None ds → After n ds

-- what follows the call of a native has a property of its own, `Inner`
pub record RowCalls (p : Program) (s : State) (f : Frame) (V : Option Ref → Value → Type 0) (O : Object → Type 0)
    (Ends : Option Ref → List Deed → Type 0) (After : ℕ → List Deed → Type 0) (Inner All : List Deed → Type 0) : Type 0 where
  pub inner : RowLists p s f V O Ends After Inner
  pub call_native : (m : ℕ) (ds : List Deed) → Inner ds → All (CallNative m ∷ ds)

-- where nothing is asked of values
abbrev pub AnyValue : Option Ref → Value → Type 0
AnyValue new v = Unit {0}

abbrev pub AnyObject : Object → Type 0
AnyObject o = Unit {0}

abbrev pub AnyText : List ℕ → Type 0
AnyText units = Unit {0}

pub any_facts : (p : Program) (s : State) (f : Frame) → RowFacts p s f AnyValue AnyObject AnyText
any_facts p s f = record {
  register = λ a v e. tt;
  static = λ n v e. tt;
  field = λ r i v e. tt;
  item = λ r i v e. tt;
  result = λ v e. tt;
  thrown = λ r e. tt;
  object = λ r o e. tt;
  new = λ r. tt;
  class = λ n. tt;
  small = λ n e. tt;
  wide = λ m n x y. tt;
  low = λ new n x. tt;
  high = λ new n x. tt;
  stored_value = λ k v x. tt;
  int = λ op m n r x y e. tt;
  long = λ op b m n r x y e. tt;
  unary = λ op n x. tt;
  array_length = λ r ty items e. tt;
  units = λ r us e. tt;
  unit = λ us i x. tt;
  text_length = λ us x. tt;
  joined_text = λ us others x y. tt;
  text_of = λ vs us e x. tt;
  number_text = λ n. tt;
  instance = λ c. tt;
  zeros = λ ty n letter e. tt;
}

-- what is known of a deed that a row does, but for the call of a native: what is told as read stands so, and what is written
-- is there
abbrev pub RowFact : Program → State → Frame → Deed → Type 0
RowFact p s f (Saw look) = IsSeen p s look
RowFact p s f (SetStatic field v) = field < length s.statics
RowFact p s f (SetField n place v) = HasField s n place
RowFact p s f (SetItem n place v) = HasItem s n place
RowFact p s f (SetReg a v) = a < length f.registers
RowFact p s f (SetStatus c status) = ⊥
RowFact p s f (CallNative m) = ⊥
RowFact p s f Start = ⊥
RowFact p s f (Push (Record c phase)) = ⊥
RowFact p s f (SetPhase phase) = ⊥
RowFact p s f Unpend = ⊥
RowFact p s f _ = Unit {0}

-- where each deed of a list fails a test, no deed passes it
pub each_fails : (test : Deed → Bool) (ds : List Deed) → EachDeed (λ d. test d ≡ false) ds → list_any test ds ≡ false
each_fails test [] e = refl
each_fails test (d ∷ ds) e = neither (test d) (list_any test ds) e.0 (each_fails test ds e.1)
  where
    neither : (a b : Bool) → a ≡ false → b ≡ false → (a || b) ≡ false
    neither true b x y = x
    neither false b x y = y

-- a property of each such deed, as one of lists
abbrev pub of_each : {p : Program} {s : State} {f : Frame} {P : Deed → Type 0} → ((d : Deed) → RowFact p s f d → P d)
    → RowLists p s f AnyValue AnyObject (λ new. EachDeed P) (λ n. EachDeed P) (EachDeed P)
of_each one = record {
  none = λ new. tt;
  push_call = λ new g ds x h. (one (Push (Call g)) tt, h);
  pop = λ new ds h. (one Pop tt, h);
  set_reg = λ new a v ds e x h. (one (SetReg a v) e, h);
  jump = λ new to ds h. (one (Jump to) tt, h);
  past_call = λ new ds h. (one GoOn tt, h);
  pend = λ new r ds x h. (one (Pend r) tt, h);
  hold = λ new held ds x h. (one (Hold held) tt, h);
  rest = λ ds h. h;
  make = λ o ds x h. (one (Make o) tt, h);
  touch = λ n ds h. (one (Touch n) tt, h);
  saw = λ look ds e is h. (one (Saw look) e, h);
  saw_static = λ c field v ds e is h. (one (Saw (OfStatic field v)) e, h);
  reads = λ n ds h. (one (Reads n) tt, h);
  print = λ bytes ds h. (one (Print bytes) tt, h);
  set_static = λ c field v ds is e x h. (one (SetStatic field v) e, h);
  writes = λ n ds h. (one (Writes n) tt, h);
  set_field = λ n place v ds e x h. (one (SetField n place v) e, h);
  set_item = λ n place v ds e x h. (one (SetItem n place v) e, h);
  saw_then = λ n look ds e is h. (one (Saw look) e, h);
  make_then = λ n o ds x h. (one (Make o) tt, h);
  rest_then = λ n ds h. h;
}

-- what a list of deeds that is there has
pub on_some : {Q : List Deed → Type 0} {x : Deeds} (ds : List Deed) → x ≡ Some ds → Does Q x → Q ds
on_some {Q} ds e a = subst (OnDeeds Q) e a.each

-- one deed before others
pub before : {R Q : List Deed → Type 0} (d : Deed) {x : Deeds} → ((ds : List Deed) → R ds → Q (d ∷ ds)) → Does R x → Does Q (first_do d x)
before d {x = None} h a = record { each = tt }
before d {x = Some ds} h a = record { each = h ds a.each }

pub widened : {R Q : List Deed → Type 0} {x : Deeds} → ((ds : List Deed) → R ds → Q ds) → Does R x → Does Q x
widened {x = None} h a = record { each = tt }
widened {x = Some ds} h a = record { each = h ds a.each }

module _ {Q : List Deed → Type 0} where
  -- no deeds, and some deeds
  pub stuck : Does Q None
  stuck = record { each = tt }

  pub these : {ds : List Deed} → Q ds → Does Q (Some ds)
  these a = record { each = a }

  -- choices
  pub either : (b : Bool) {x y : Deeds} → Does Q x → Does Q y → Does Q (if b then x else y)
  either true x y = x
  either false x y = y

  pub either_is : (b : Bool) {x y : Deeds} → (b ≡ true → Does Q x) → (b ≡ false → Does Q y) → Does Q (if b then x else y)
  either_is true x y = x refl
  either_is false x y = y refl

  pub if_found : {A : Type 0} {go : A → Deeds} (o : Option A) → ((x : A) → Does Q (go x)) → Does Q (option_and_then go o)
  if_found None h = stuck
  if_found (Some x) h = h x

  pub if_found_as : {A : Type 0} {go : A → Deeds} (o : Option A) → ((x : A) → o ≡ Some x → Does Q (go x)) → Does Q (option_and_then go o)
  if_found_as None h = stuck
  if_found_as (Some x) h = h x refl

  pub made_from : {A : Type 0} (go : A → List Deed) (o : Option A) → ((x : A) → Q (go x)) → Does Q (option_map go o)
  made_from go None h = stuck
  made_from go (Some x) h = these (h x)

  -- operands
  pub by_word : (v : Option Value) {go : ℕ → Deeds} → ((n : ℕ) → v ≡ Some (Word n) → Does Q (go n)) → Does Q (with_word v go)
  by_word (Some (Word n)) h = h n refl
  by_word _ h = stuck

  pub by_long : (low high : Option Value) (go : ℕ → Deeds) → ((m n : ℕ) → low ≡ Some (Low m) → high ≡ Some (High n) → Does Q (go (m + 2 ^ 32 * n)))
      → Does Q (with_long low high go)
  by_long (Some (Low m)) (Some (High n)) go h = h m n refl refl
  by_long _ _ go h = stuck

  pub by_ref : (s : State) (v : Option Value) {null : Deeds} {go : Ref → Deeds} → Does Q null → ((r : Ref) → v ≡ Some (At r) → Does Q (go r))
      → Does Q (with_ref s v null go)
  by_ref s (Some (Word zero)) n h = n
  by_ref s (Some (At r)) n h = either (names_thing s r) (h r refl) stuck
  by_ref s _ n h = stuck

  pub by_kind : (k : Kind) (v : Option Value) {go : Value → Deeds} → ((w : Value) → v ≡ Some w → Does Q (go w)) → Does Q (of_kind k v go)
  by_kind kind.Word (Some (Word n)) h = h (Word n) refl
  by_kind kind.Word _ h = stuck
  by_kind kind.Wide (Some (Long n)) h = h (Long n) refl
  by_kind kind.Wide _ h = stuck
  by_kind kind.Ref (Some (Word zero)) h = h (Word 0) refl
  by_kind kind.Ref (Some (At r)) h = h (At r) refl
  by_kind kind.Ref _ h = stuck

-- operands with their values, results and throws
module _ {p : Program} {s : State} {f : Frame} {V : Option Ref → Value → Type 0} {O : Object → Type 0} {U : List ℕ → Type 0} (g : RowFacts p s f V O U) where
  pub by_operand : {Q : List Deed → Type 0} (k : Kind) (a : ℕ) {go : Value → Deeds} → ((v : Value) → V None v → Does Q (go v)) → Does Q (with_operand s f k a go)
  by_operand kind.Word a h = by_word (register_of f a) (λ n e. h (Word n) (g.register a (Word n) e))
  by_operand kind.Wide a h = by_long (register_of f a) (register_of f (a + 1)) _ (λ m n x y.
      h (Long (m + 2 ^ 32 * n)) (g.wide m n (g.register a (Low m) x) (g.register (a + 1) (High n) y)))
  by_operand kind.Ref a h = by_ref s (register_of f a) (h (Word 0) (g.small 0 (omega arith))) (λ r e. h (At r) (g.register a (At r) e))

  pub registers_values : (regs : List ℕ) (vs : List Value) → registers_of f regs ≡ Some vs → EachOf (V None) vs
  registers_values [] vs e = subst (EachOf (V None)) (some_same [] vs e) tt
  registers_values (a ∷ regs) vs e = by_joined (register_of f a) (registers_of f regs) refl (registers_values regs) e
    where
      by_joined : (o : Option Value) (rest : Option (List Value)) → register_of f a ≡ o → ((xs : List Value) → rest ≡ Some xs → EachOf (V None) xs)
          → value_list o rest ≡ Some vs → EachOf (V None) vs
      by_joined None rest is h j = cc
      by_joined (Some v) None is h j = cc
      by_joined (Some v) (Some xs) is h j = subst (EachOf (V None)) (some_same (v ∷ xs) vs j) (g.register a v is, h xs refl)

-- as many values as registers
pub registers_count : (f : Frame) (regs : List ℕ) (vs : List Value) → registers_of f regs ≡ Some vs → length vs ≡ length regs
registers_count f [] vs e = sym (ap (λ xs. length xs) (some_same [] vs e))
registers_count f (a ∷ regs) vs e = by_joined (register_of f a) (registers_of f regs) (registers_count f regs) e
  where
    by_joined : (o : Option Value) (rest : Option (List Value)) → ((xs : List Value) → rest ≡ Some xs → length xs ≡ length regs)
        → value_list o rest ≡ Some vs → length vs ≡ length (a ∷ regs)
    by_joined None rest h j = cc
    by_joined (Some v) None h j = cc
    by_joined (Some v) (Some xs) h j = sym (ap (λ ys. length ys) (some_same (v ∷ xs) vs j)) ∙ ap (λ n. suc n) (h xs refl)

module _ {p : Program} {s : State} {f : Frame} {V : Option Ref → Value → Type 0} {O : Object → Type 0} {U : List ℕ → Type 0}
    {Ends : Option Ref → List Deed → Type 0} {After : ℕ → List Deed → Type 0} {All : List Deed → Type 0}
    (g : RowFacts p s f V O U) (k : RowLists p s f V O Ends After All) where
  pub goes_on : (new : Option Ref) (units : ℕ) → Ends new (go_on f units)
  goes_on new units = k.jump new (f.at + units) [] (k.none new)

  pub goes : (units : ℕ) → Does All (Some (go_on f units))
  goes units = these (k.rest (go_on f units) (goes_on None units))

  sets_word : (new : Option Ref) (a : ℕ) (v : Value) (ds : List Deed) → V new v → Ends new ds → Does (Ends new) (set_word f a v ds)
  sets_word new a v ds x e = either_is (nat_lt a (length f.registers)) (λ h. these (k.set_reg new a v ds (ltb-true a (length f.registers) h) x e)) (λ h. stuck)

  sets_long : (new : Option Ref) (a n : ℕ) (ds : List Deed) → V new (Long n) → Ends new ds → Does (Ends new) (set_long f a n ds)
  sets_long new a n ds x e = either_is (nat_lt (a + 1) (length f.registers)) (λ h.
      let within : a + 1 < length f.registers = ltb-true (a + 1) (length f.registers) h in
      these (k.set_reg new a (Low (n % 2 ^ 32)) _ (omega arith) (g.low new n x) (k.set_reg new (a + 1) (High (n / 2 ^ 32)) ds within (g.high new n x) e))) (λ h. stuck)

  sets_value : (new : Option Ref) (a : ℕ) (v : Value) (ds : List Deed) → V new v → Ends new ds → Does (Ends new) (set_value f a v ds)
  sets_value new a (Long n) ds x e = sets_long new a n ds x e
  sets_value new a (Word n) ds x e = sets_word new a (Word n) ds x e
  sets_value new a (Low n) ds x e = sets_word new a (Low n) ds x e
  sets_value new a (High n) ds x e = sets_word new a (High n) ds x e
  sets_value new a (At r) ds x e = sets_word new a (At r) ds x e

  -- a register is set as the end of a step, and as a whole step
  pub sets_last : (new : Option Ref) (units a : ℕ) (v : Value) → V new v → Does (Ends new) (set_and_go f units a v)
  sets_last new units a v x = sets_value new a v (go_on f units) x (goes_on new units)

  pub sets : (units a : ℕ) (v : Value) → V None v → Does All (set_and_go f units a v)
  sets units a v x = widened k.rest (sets_last None units a v x)

  pub pends_new : Ends (Some (next_made s)) (Pend (next_made s) ∷ [])
  pends_new = k.pend (Some (next_made s)) (next_made s) [] (g.new (next_made s)) (k.none (Some (next_made s)))

  pub thrown : (class : Known) → Does All (throws p s class)
  thrown class = made_from (λ c. Make (new_instance p c) ∷ Pend (next_made s) ∷ []) (class_named p (descriptor_of class)) (λ c.
      k.make (new_instance p c) (Pend (next_made s) ∷ []) (g.instance c) pends_new)

  pub sets_new : (units a : ℕ) → Does (Ends (Some (next_made s))) (set_and_go f units a (At (next_made s)))
  sets_new units a = sets_last (Some (next_made s)) units a (At (next_made s)) (g.new (next_made s))
