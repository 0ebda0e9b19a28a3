-- Values of a sound state are sound, and so are those that rows make of them.
use Rattle.std.proofs.Common.{◌≡◌, ◌⊎◌, inl, inr, ℕ, zero, suc, ◌+◌, ◌*◌, ◌/◌, ◌%◌, ◌^◌, ◌<◌, List, [], ◌∷◌, length, slice_get, Option, Some, None, Bool, true, false, if◌then◌else◌, option_map, ℤ, pos, negsuc, refl, subst, arith, nat_lt, replicate}
use Rattle.std.specs.Prelude.{unwrap_or, ◌==◌, ◌↔◌}
use Rattle.std.proofs.lemmas.List.{length-replicate}
use Rattle.std.specs.Fmt.{digits, digits_onto, digit_glyph, signed_decimal}
use Rattle.std.specs.Int.{w64, cast_signed}
use Rattle.std.proofs.Math.Nat.{mod-lt, div-lt_iff_lt-mul}
use Rattle.pi_model.specs.declared.insn.Access.{Access}
use Rattle.pi_model.specs.declared.describe.FieldDesc.{FieldDesc}
use Rattle.pi_model.specs.Program.{Program}
use Rattle.pi_model.specs.Texts.{units_of}
use Rattle.pi_model.specs.Fields.{first_value}
use Rattle.pi_model.specs.Sizes.{letter_of}
use Rattle.pi_model.specs.Values.{Ref, Num, Lit, Cls, Value, Word, Low, High, Long, At, Object, Instance, Array, Text}
use Rattle.pi_machine.specs.State.{State, Frame, Thing, Made, Touched}
use Rattle.pi_machine.specs.Objects.{made_of, object_at, OfArray, shape_of, shape_at, field_in, item_in}
use Rattle.pi_machine.specs.Operands.{stored_value}
use Rattle.pi_machine.specs.Natives.{units_in, words_in}
use Rattle.pi_machine.specs.Rows.Numbers.{takes_long}
use Rattle.pi_machine.specs.Rows.Arrays.{first_item}
use Rattle.pi_machine.specs.Sound.{EachOf, IsSoundValue, IsSoundText, IsSoundObject, IsSoundThing, IsSoundHeld, IsSound, IsShort}
use Rattle.pi_machine.proofs.WordResults.{int_half, long_half, result_small, unary_small, narrowed_small, wrapped}
use Rattle.pi_machine.proofs.Each.{each_get, each_index, each_joined, each_map, each_replicate}
use Rattle.pi_machine.proofs.Truths.{some_same}
use Rattle.pi_machine.proofs.RowDeeds.Words.{RowFacts, number}

-- numbers as text
glyph_small : (d : ℕ) → d < 10 → digit_glyph false d < 2 ^ 32
glyph_small d h = by_test (nat_lt d 10)
  where
    by_test : (b : Bool) → (if b then 48 + d else 87 + d) < 2 ^ 32
    by_test true = omega (arith, h)
    by_test false = omega (arith, h)

abbrev IsWord : ℕ → Type 0
IsWord u = u < 2 ^ 32

digits_small : (k n : ℕ) (acc : List ℕ) → EachOf IsWord acc → EachOf IsWord (digits_onto k 10 false n acc)
digits_small zero n acc h = h
digits_small (suc k) n acc h =
    by_last (n / 10 == 0) (digits_small k (n / 10) (digit_glyph false (n % 10) ∷ acc) (glyph_small (n % 10) (mod-lt n (omega arith)), h))
  where
    by_last : (b : Bool) → EachOf IsWord (digits_onto k 10 false (n / 10) (digit_glyph false (n % 10) ∷ acc))
        → EachOf IsWord (if b then digit_glyph false (n % 10) ∷ acc else digits_onto k 10 false (n / 10) (digit_glyph false (n % 10) ∷ acc))
    by_last true r = (glyph_small (n % 10) (mod-lt n (omega arith)), h)
    by_last false r = r

decimal_small : (z : ℤ) → EachOf IsWord (signed_decimal z)
unfolding digits
decimal_small (pos n) = digits_small 64 n [] tt
decimal_small (negsuc n) = (omega arith, digits_small 64 (suc n) [] tt)

-- a value that is sound, or the reference that is new
abbrev pub OrNew : List Thing → Option Ref → Value → Type 0
OrNew things None v = IsSoundValue things v
OrNew things (Some r) v = IsSoundValue things v ⊎ (v ≡ At r)

-- an object that is sound, if it is short
abbrev pub IsSoundIfShort : Program → List Thing → Object → Type 0
IsSoundIfShort p things o = IsShort o → IsSoundObject p things o

-- what a sound state has
module _ (p : Program) (s : State) (h : IsSound p s) (names : EachOf IsSoundText p.names) where
  abbrev Sound : Value → Type 0
  Sound v = IsSoundValue s.things v

  some_object : (x y : Object) → Some x ≡ Some y → IsSoundObject p s.things x → IsSoundObject p s.things y
  some_object x y e k = subst (IsSoundObject p s.things) (some_same x y e) k

  made_sound : (x : Option Thing) → ((t : Thing) → x ≡ Some t → IsSoundThing p s.things t) → (o : Object) → made_of x ≡ Some o → IsSoundObject p s.things o
  made_sound None k o e = cc
  made_sound (Some (Made file q)) k o e = some_object q o e (k (Made file q) refl)
  made_sound (Some (Touched file n)) k o e = cc

  name_sound : (n : ℕ) → IsSoundText (units_of p n)
  name_sound n = by_name (slice_get p.names n) (λ t e. each_get IsSoundText p.names n t names e)
    where
      by_name : (o : Option (List ℕ)) → ((t : List ℕ) → o ≡ Some t → IsSoundText t) → IsSoundText (unwrap_or o [])
      by_name None k = (omega arith, tt)
      by_name (Some t) k = k t refl

  pub object_sound : (r : Ref) (o : Object) → object_at p s r ≡ Some o → IsSoundObject p s.things o
  object_sound (Num n) o e = made_sound (slice_get s.things n) (λ t k. each_get (IsSoundThing p s.things) s.things n t h.things k) o e
  object_sound (Lit n) o e = some_object (Text (units_of p n)) o e (name_sound n)
  object_sound (Cls n) o e = cc

  in_field : (o : Option Object) → ((x : Object) → o ≡ Some x → IsSoundObject p s.things x) → (i : ℕ) (v : Value) → field_in o i ≡ Some v → Sound v
  in_field (Some (Instance c fields)) k i v e = each_get Sound fields i v ((k (Instance c fields) refl).1) e
  in_field (Some (Array ty items)) k i v e = cc
  in_field (Some (Text units)) k i v e = cc
  in_field None k i v e = cc

  in_item : (o : Option Object) → ((x : Object) → o ≡ Some x → IsSoundObject p s.things x) → (i : ℕ) (v : Value) → item_in o i ≡ Some v → Sound v
  in_item (Some (Array ty items)) k i v e = each_get Sound items i v ((k (Array ty items) refl).1) e
  in_item (Some (Instance c fields)) k i v e = cc
  in_item (Some (Text units)) k i v e = cc
  in_item None k i v e = cc

  -- lengths and texts, read off shapes
  short_array : (o : Option Object) → ((x : Object) → o ≡ Some x → IsSoundObject p s.things x) → (ty items : ℕ) → option_map shape_of o ≡ Some (OfArray ty items) → items < 2 ^ 32
  short_array (Some (Array uy vs)) k ty items e =
      let short : length vs < 2 ^ 31 = (k (Array uy vs) refl).0 in
      let same : length vs ≡ items = same_items uy ty (length vs) items e in
      omega (arith, short, same)
    where
      same_items : (a b m n : ℕ) → Some (OfArray a m) ≡ Some (OfArray b n) → m ≡ n
      same_items a b m n q = cc
  short_array (Some (Instance c fields)) k ty items e = cc
  short_array (Some (Text units)) k ty items e = cc
  short_array None k ty items e = cc

  array_short : (r : Ref) (ty items : ℕ) → shape_at p s r ≡ Some (OfArray ty items) → items < 2 ^ 32
  array_short (Num n) ty items e = short_array (made_of (slice_get s.things n)) (λ x k. object_sound (Num n) x k) ty items e
  array_short (Lit n) ty items e = cc
  array_short (Cls n) ty items e = cc

  some_text : (x y : List ℕ) → Some x ≡ Some y → IsSoundText x → IsSoundText y
  some_text x y e k = subst IsSoundText (some_same x y e) k

  text_in_shape : (o : Option Object) → ((x : Object) → o ≡ Some x → IsSoundObject p s.things x) → (us : List ℕ) → units_in (option_map shape_of o) ≡ Some us → IsSoundText us
  text_in_shape (Some (Text units)) k us e = some_text units us e (k (Text units) refl)
  text_in_shape (Some (Array ty items)) k us e = cc
  text_in_shape (Some (Instance c fields)) k us e = cc
  text_in_shape None k us e = cc

  text_sound : (r : Ref) (us : List ℕ) → units_in (shape_at p s r) ≡ Some us → IsSoundText us
  text_sound (Num n) us e = text_in_shape (made_of (slice_get s.things n)) (λ x k. object_sound (Num n) x k) us e
  text_sound (Lit n) us e = some_text (units_of p n) us e (name_sound n)
  text_sound (Cls n) us e = cc

  words_each : (vs : List Value) (us : List ℕ) → words_in vs ≡ Some us → EachOf Sound vs → EachOf IsWord us
  words_each [] us e x = subst (EachOf IsWord) (some_same [] us e) tt
  words_each (Word n ∷ vs) us e x = by_rest (words_in vs) (λ ns k. words_each vs ns k x.1) e
    where
      by_rest : (o : Option (List ℕ)) → ((ns : List ℕ) → o ≡ Some ns → EachOf IsWord ns) → option_map (λ ns. n ∷ ns) o ≡ Some us → EachOf IsWord us
      by_rest None k q = cc
      by_rest (Some ns) k q = subst (EachOf IsWord) (some_same (n ∷ ns) us q) (x.0, k ns refl)
  words_each (Low n ∷ vs) us e x = cc
  words_each (High n ∷ vs) us e x = cc
  words_each (Long n ∷ vs) us e x = cc
  words_each (At r ∷ vs) us e x = cc

  -- long halves
  half_low : (new : Option Ref) (n : ℕ) → OrNew s.things new (Long n) → OrNew s.things new (Low (n % 2 ^ 32))
  half_low None n x = wrapped 32 n
  half_low (Some r) n x = inl (wrapped 32 n)

  upper : (n : ℕ) → n < 2 ^ 64 → n / 2 ^ 32 < 2 ^ 32
  upper n x = let k : (n / 2 ^ 32 < 2 ^ 32) ↔ (n < 2 ^ 32 * 2 ^ 32) = div-lt_iff_lt-mul (omega arith) in k.1 x

  half_high : (new : Option Ref) (n : ℕ) → OrNew s.things new (Long n) → OrNew s.things new (High (n / 2 ^ 32))
  half_high None n x = upper n x
  half_high (Some r) n (inl x) = inl (upper n x)
  half_high (Some r) n (inr x) = cc

  kept_sound : (k : Access) (v : Value) → Sound v → Sound (stored_value k v)
  kept_sound k (Word n) x = narrowed_small k n x
  kept_sound k (Low n) x = x
  kept_sound k (High n) x = x
  kept_sound k (Long n) x = x
  kept_sound k (At r) x = x

  number_small : (b : Bool) (n : ℕ) → Sound (number b n) → n < 2 ^ 64
  number_small true n x = x
  number_small false n x = let y : n < 2 ^ 32 = x in omega (arith, y)

  first_sound : (b : Bool) → Sound (if b then Long 0 else Word 0)
  first_sound true = omega arith
  first_sound false = omega arith

  pub facts : (f : Frame) → EachOf Sound f.registers → RowFacts p s f (OrNew s.things) (IsSoundIfShort p s.things) IsSoundText
  facts f regs = record {
    register = λ a v e. each_get Sound f.registers a v regs e;
    static = λ n v e. each_get Sound s.statics n v h.statics e;
    field = λ r i v e. in_field (object_at p s r) (λ x k. object_sound r x k) i v e;
    item = λ r i v e. in_item (object_at p s r) (λ x k. object_sound r x k) i v e;
    result = λ v e. subst (IsSoundHeld s.things) e h.held;
    thrown = λ r e. subst (IsSoundHeld s.things) e h.held;
    object = λ r o e short. object_sound r o e;
    new = λ r. inr refl;
    class = λ n. tt;
    small = λ n e. e;
    wide = λ m n x y. omega (arith, x, y);
    low = half_low;
    high = half_high;
    stored_value = kept_sound;
    int = λ op m n r x y e. result_small int_half op m n r x y e;
    long = λ op b m n r x y e. result_small long_half op m n r x (number_small b n y) e;
    unary = λ op n x. unary_small s.things op n (number_small (takes_long op) n x);
    array_length = array_short;
    units = text_sound;
    unit = λ us i x. each_index IsWord us i x.1 (omega arith);
    text_length = λ us x. let short : length us < 2 ^ 31 = x.0 in omega (arith, short);
    joined_text = λ us others x y short. (short, each_joined IsWord us others x.1 y.1);
    text_of = λ vs us e x short. (short, words_each vs us e x);
    number_text = λ n short. (short, decimal_small (cast_signed w64 n));
    instance = λ c short. (refl, each_map Sound (first_value p) (λ (d : FieldDesc). first_sound (letter_of p d == 74)) _);
    zeros = λ ty n letter few short. (
      let many : length (replicate n (first_item letter)) ≡ n = length-replicate n (first_item letter) in omega (arith, few, many),
      each_replicate Sound n (first_item letter) (first_sound (letter == 74)),
    );
  }
