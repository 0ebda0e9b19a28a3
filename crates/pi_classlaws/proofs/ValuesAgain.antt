-- The values of static fields say what the fields are set to again, whatever their types.
use Rattle.std.proofs.Common.{◌≡◌, ℕ, ◌-◌, ◌*◌, ◌%◌, ◌^◌, ◌<◌, ◌≤◌, Bool, true, false, List, [], ◌∷◌, map, refl, ap, ◌∙◌, arith}
use Rattle.std.specs.Prelude.{◌==◌, ◌||◌, not, nat_lt, is_some, All, if◌then◌else◌}
use Rattle.std.specs.List.{list_all, list_any}
use Rattle.std.proofs.lemmas.Bool.{and_parts, or_parts}
use Rattle.std.proofs.lemmas.Bool.Decides.{nat_tests}
use Rattle.std.proofs.lemmas.List.Elements.{All-head, All-tail}
use Rattle.pi_model.specs.Flags.{is_static}
use Rattle.pi_insn.specs.Numbers.{signed_extension, short_bits}
use Rattle.pi_dextables.specs.declared.tables.Class.{Class}
use Rattle.pi_dextables.specs.declared.tables.Tables.{Tables}
use Rattle.pi_dextables.specs.declared.tables.Value.{Value}
use Rattle.pi_contents.specs.Contents.{InitContent, NoInit, WordInit, LongInit, TextInit, TypeInit, FieldContent}
use Rattle.pi_contents.specs.Asked.{has_init}
use Rattle.pi_tablesaid.specs.Content.{word_said, long_said, init_said, field_said, statics_said}
use Rattle.pi_classtables.specs.Numbers.{Pools}
use Rattle.pi_classtables.specs.Spelled.{init_spelled, field_spelled}
use Rattle.pi_classtables.specs.Values.{value, empty_value, word_value, value_of, set_fields, values_of}
use Rattle.pi_classtables.specs.Whole.{field_row, tables_with}
use Rattle.pi_classlaws.proofs.Known.{text_again, type_again, field_again}
use Rattle.pi_classlaws.proofs.HeldMembers.{InitHeld, FieldHeld}
use Rattle.pi_classlaws.proofs.InitValues.{empty_by, word_by}

-- the low bytes of a number that is extended from these
extended_again : (half range low w : ℕ) → 0 < half → 2 * half ≤ range → is_some (short_bits half range w) ≡ true
    → (w < half → low ≡ w) → (range - half ≤ w → w < range → low ≡ w - (range - 2 * half)) → signed_extension half range low ≡ w
extended_again half range low w some fits is small large = grind (arith, nat_tests)

byte_again : (w : ℕ) → is_some (short_bits 128 (2 ^ 32) w) ≡ true → signed_extension 128 (2 ^ 32) (w % 256) ≡ w
byte_again w is = extended_again 128 (2 ^ 32) (w % 256) w (omega arith) (omega arith) is (λ lt. omega (arith, lt)) (λ le lt. omega (arith, le, lt))

short_again : (w : ℕ) → is_some (short_bits 32768 (2 ^ 32) w) ≡ true → signed_extension 32768 (2 ^ 32) (w % 65536) ≡ w
short_again w is = extended_again 32768 (2 ^ 32) (w % 65536) w (omega arith) (omega arith) is (λ lt. omega (arith, lt)) (λ le lt. omega (arith, le, lt))

-- nothing is left to extend
whole_again : (half n : ℕ) → signed_extension half (2 * half) n ≡ n
whole_again half n = grind (arith, nat_tests)

-- a field is set to something other than 0
positive : (n : ℕ) → nat_lt 0 n ≡ true → (n == 0) ≡ false
positive n e = grind (arith, nat_tests)

word_some : (w : ℕ) → nat_lt 0 w ≡ true → word_said w ≡ WordInit w
word_some w e = rw (positive w e) refl

long_some : (l : ℕ) → nat_lt 0 l ≡ true → long_said l ≡ LongInit l
long_some l e = rw (positive l e) refl

-- each form of a value
empty_again : (t : Tables) (ty : List ℕ) → init_said t (empty_value ty) ≡ NoInit
unfolding init_said
empty_again t ty = empty_by (λ (v : Value). init_said t v ≡ NoInit) ty (λ _. refl) (λ _. refl) (λ _. refl) (λ _. refl) (λ _. refl) (λ _. refl) (λ _. refl)

word_again : (t : Tables) (ty : List ℕ) (w : ℕ) → nat_lt 0 w ≡ true → init_said t (word_value ty w) ≡ WordInit w
unfolding init_said
word_again t ty w some =
    let is : word_said w ≡ WordInit w = word_some w some in
    word_by (λ (v : Value). init_said t v ≡ WordInit w) ty w
    (λ _ fits. ap word_said (byte_again w fits) ∙ is)
    (λ _ fits. ap word_said (short_again w fits) ∙ is)
    (λ _ lt. is)
    (λ _ lt. is)
    (λ _. ap word_said (whole_again (2 ^ 31) w) ∙ is)

long_again : (t : Tables) (l : ℕ) → nat_lt 0 l ≡ true → init_said t (value 0x06 7 l) ≡ LongInit l
unfolding init_said
long_again t l some = ap long_said (whole_again (2 ^ 63) l) ∙ long_some l some

module _ (p : Pools) (classes : List Class) where
  pub init_again : (ty : List ℕ) (init : InitContent) → init_spelled init ≡ true → InitHeld p init
      → init_said (tables_with p classes) (value_of p ty init) ≡ init
  unfolding value_of init_said
  init_again ty NoInit spelled held = empty_again (tables_with p classes) ty
  init_again ty (WordInit w) spelled held = word_again (tables_with p classes) ty w spelled
  init_again ty (LongInit l) spelled held = long_again (tables_with p classes) l spelled
  init_again ty (TextInit s) spelled held = ap TextInit (text_again p classes s held)
  init_again ty (TypeInit u) spelled held = ap TypeInit (type_again p classes u held)

  -- a field with what its value says, and one without a value
  pub row_again : (class : List ℕ) (f : FieldContent) (init : InitContent) → FieldHeld p class f → init ≡ f.init
      → field_said (tables_with p classes) init (field_row p class f) ≡ f
  row_again class f init held is =
      let name = field_again p classes _ held.field in
      λ i. record { name = (name i).name; ty = (name i).ty; flags = f.flags; init = is i }

  pub unset : (f : FieldContent) → has_init f.init ≡ false → NoInit ≡ f.init
  unset f e = by_init f.init e
    where
      by_init : (init : InitContent) → has_init init ≡ false → NoInit ≡ init
      by_init NoInit e = refl
      by_init (WordInit w) e = cc
      by_init (LongInit l) e = cc
      by_init (TextInit s) e = cc
      by_init (TypeInit u) e = cc

  unset_again : (class : List ℕ) (fs : List FieldContent) → All (FieldHeld p class) fs → list_any (λ (g : FieldContent). has_init g.init) fs ≡ false
      → statics_said (tables_with p classes) (map (field_row p class) fs) [] ≡ fs
  unset_again class [] held e = refl
  unset_again class (f ∷ fs) held e =
      let parts = or_parts (has_init f.init) (list_any (λ (g : FieldContent). has_init g.init) fs) e in
      let first = row_again class f NoInit (All-head (FieldHeld p class) f fs held) (unset f parts.0) in
      let rest = unset_again class fs (All-tail (FieldHeld p class) f fs held) parts.1 in
      λ i. first i ∷ rest i

  -- the static fields of a class: those behind the last that is set have no value
  pub statics_again : (class : List ℕ) (fs : List FieldContent) → All (FieldHeld p class) fs → list_all field_spelled fs ≡ true
      → statics_said (tables_with p classes) (map (field_row p class) fs) (values_of p fs) ≡ fs
  statics_again class [] held spelled = refl
  statics_again class (f ∷ fs) held spelled =
      let parts = and_parts (field_spelled f) (list_all field_spelled fs) spelled in
      by_set (list_any (λ (g : FieldContent). has_init g.init) (f ∷ fs)) refl
      (and_parts (init_spelled f.init) (is_static f.flags || not (has_init f.init)) parts.0).0
      (statics_again class fs (All-tail (FieldHeld p class) f fs held) parts.1)
    where
      by_set : (b : Bool) → list_any (λ (g : FieldContent). has_init g.init) (f ∷ fs) ≡ b → init_spelled f.init ≡ true
          → statics_said (tables_with p classes) (map (field_row p class) fs) (values_of p fs) ≡ fs
          → statics_said (tables_with p classes) (map (field_row p class) (f ∷ fs))
          (map (λ (g : FieldContent). value_of p g.ty g.init) (if b then f ∷ set_fields fs else [])) ≡ f ∷ fs
      by_set true e set rest =
          let here = All-head (FieldHeld p class) f fs held in
          let first = row_again class f (init_said (tables_with p classes) (value_of p f.ty f.init)) here (init_again f.ty f.init set here.init) in
          λ i. first i ∷ rest i
      by_set false e set rest = unset_again class (f ∷ fs) held e
