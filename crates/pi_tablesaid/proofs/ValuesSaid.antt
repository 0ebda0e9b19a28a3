-- The fields of a class by texts, the first static ones with the values that they are set to.
use Rattle.std.proofs.Common.{◌≡◌, ℕ, ◌^◌, ◌<◌, List, [], ◌∷◌, length, map, Bool, true, false, refl, ap, subst}
use Rattle.std.specs.Prelude.{◌==◌, ◌&&◌, ◌||◌, nat_lt, codes, All, if◌then◌else◌}
use Rattle.std.proofs.lemmas.Bool.{eqb-true}
use Rattle.pi_model.specs.declared.numbers.NameNo.{NameNo}
use Rattle.pi_model.specs.declared.describe.Init.{Init}
use Rattle.pi_model.specs.declared.describe.Init.TheVariants.{Zero, Word, Long}
use Rattle.pi_model.specs.Texts.{same_text}
use Rattle.pi_format.specs.Tables.{count_at, string_ids, type_ids}
use Rattle.pi_format.specs.Rules.Strings.{type_units}
use Rattle.pi_format.specs.Rules.Values.{is_reference, names_reference, value_fits, field_type}
use Rattle.pi_format.specs.Says.Names.{Named}
use Rattle.pi_format.specs.Says.Classes.{word_init, long_init, init_of, field_desc, static_fields}
use Rattle.pi_format.proofs.Every.{all_first, all_rest}
use Rattle.pi_format.proofs.Held.{both, below}
use Rattle.pi_dextables.specs.declared.tables.FieldRow.{FieldRow}
use Rattle.pi_dextables.specs.declared.tables.Tables.{Tables}
use Rattle.pi_dextables.specs.declared.tables.Value.{Value}
use Rattle.pi_dextables.specs.Items.{read_value}
use Rattle.pi_dextables.specs.Rows.{field_row}
use Rattle.pi_dextables.specs.Said.{values_fit}
use Rattle.pi_contents.specs.Contents.{FieldName, InitContent, NoInit, WordInit, LongInit, TextInit, TypeInit}
use Rattle.pi_contents.specs.Named.{init_content, field_content}
use Rattle.pi_tablesaid.specs.Content.{word_said, long_said, signed_said, init_said, field_said, statics_said}
use Rattle.pi_tablesaid.proofs.TextsSaid.{Speaks, type_text, field_text}

-- a string and a type that a fitting value names are there
string_named : (file ty : List ℕ) (kind arg number : ℕ) → value_fits file ty (record { kind = kind; arg = arg; number = number }) ≡ true → (kind == 0x17) ≡ true
    → number < count_at file string_ids
unfolding value_fits
string_named file ty kind arg number holds is =
    let fits = subst (λ (k : ℕ). value_fits file ty (record { kind = k; arg = arg; number = number }) ≡ true) (eqb-true kind 0x17 is) holds in
    let parts = both (same_text (codes "Ljava/lang/String;") ty) (nat_lt arg 4 && nat_lt number (count_at file string_ids)) fits in
    below number (count_at file string_ids) (both (nat_lt arg 4) (nat_lt number (count_at file string_ids)) parts.1).1

type_named : (file ty : List ℕ) (kind arg number : ℕ) → value_fits file ty (record { kind = kind; arg = arg; number = number }) ≡ true → (kind == 0x18) ≡ true
    → number < count_at file type_ids
unfolding value_fits
type_named file ty kind arg number holds is =
    let fits = subst (λ (k : ℕ). value_fits file ty (record { kind = k; arg = arg; number = number }) ≡ true) (eqb-true kind 0x18 is) holds in
    let parts = both (same_text (codes "Ljava/lang/Class;") ty) (nat_lt arg 4 && names_reference file number) fits in
    let named = both (nat_lt arg 4) (names_reference file number) parts.1 in
    below number (count_at file type_ids) (both (nat_lt number (count_at file type_ids)) (is_reference (type_units file number)) named.1).0

module _ (t : Tables) (n : Named) (text : NameNo → List ℕ) (s : Speaks t n text) where
  -- what is said of two values is said of the one that a test chooses
  chosen : (b : Bool) (x y : Init) (u v : InitContent) → (b ≡ true → init_content text x ≡ u) → init_content text y ≡ v
      → init_content text (if b then x else y) ≡ (if b then u else v)
  chosen true x y u v first second = first refl
  chosen false x y u v first second = second

  word_is : (w : ℕ) → init_content text (word_init w) ≡ word_said w
  word_is w = chosen (w == 0) Zero (Word w) NoInit (WordInit w) (λ e. refl) refl

  long_is : (l : ℕ) → init_content text (long_init l) ≡ long_said l
  long_is l = chosen (l == 0) Zero (Long l) NoInit (LongInit l) (λ e. refl) refl

  -- what a fitting value sets a field to
  init_is : (ty : List ℕ) (v : Value) → value_fits n.file ty (read_value v) ≡ true → init_content text (init_of n (read_value v)) ≡ init_said t v
  unfolding init_of init_said
  init_is ty v fits =
      chosen (v.kind == 0x00 || (v.kind == 0x02 || v.kind == 0x04)) _ _ _ _ (λ e. word_is (signed_said (2 ^ 32) v))
      (chosen (v.kind == 0x03) _ _ _ _ (λ e. word_is v.number)
      (chosen (v.kind == 0x06) _ _ _ _ (λ e. long_is (signed_said (2 ^ 64) v))
      (chosen (v.kind == 0x1f) _ _ _ _ (λ e. word_is v.arg)
      (chosen (v.kind == 0x17) _ _ _ _
      (λ e. ap TextInit (s.string v.number (subst (λ (m : ℕ). v.number < m) s.says.strings (string_named n.file ty v.kind v.arg v.number fits e))))
      (chosen (v.kind == 0x18) _ _ _ _
      (λ e. ap TypeInit (type_text t n text s v.number (subst (λ (m : ℕ). v.number < m) s.says.types (type_named n.file ty v.kind v.arg v.number fits e))))
      refl)))))

  -- a field that there is
  field_is : (f : FieldRow) (init : Init) (set : InitContent) → f.id < length t.fields → init_content text init ≡ set
      → field_content text (field_desc n init (field_row f)) ≡ field_said t set f
  field_is f init set there is =
      let named = field_text t n text s f.id there in
      rw (ap (λ (x : FieldName). x.name) named, ap (λ (x : FieldName). x.ty) named, is) refl

  -- static fields with values, and fields without
  pub statics_are : (fs : List FieldRow) (vs : List Value) → All (λ (f : FieldRow). f.id < length t.fields) fs
      → values_fit n.file (map field_row fs) (map read_value vs) ≡ true
      → map (field_content text) (static_fields n (map field_row fs) (map read_value vs)) ≡ statics_said t fs vs
  statics_are [] vs there fits = refl
  statics_are (f ∷ fs) [] there fits =
      let here : f.id < length t.fields = all_first (λ (f : FieldRow). f.id < length t.fields) f fs there in
      rw (field_is f Zero NoInit here refl, statics_are fs [] (all_rest (λ (f : FieldRow). f.id < length t.fields) f fs there) refl) refl
  statics_are (f ∷ fs) (v ∷ vs) there fits =
      let here : f.id < length t.fields = all_first (λ (f : FieldRow). f.id < length t.fields) f fs there in
      let parts = both (value_fits n.file (field_type n.file f.id) (read_value v)) (values_fit n.file (map field_row fs) (map read_value vs)) fits in
      rw (field_is f _ _ here (init_is (field_type n.file f.id) v parts.0), statics_are fs vs (all_rest (λ (f : FieldRow). f.id < length t.fields) f fs there) parts.1) refl

  pub instances_are : (fs : List FieldRow) → All (λ (f : FieldRow). f.id < length t.fields) fs
      → map (field_content text) (map (field_desc n Zero) (map field_row fs)) ≡ map (field_said t NoInit) fs
  instances_are [] there = refl
  instances_are (f ∷ fs) there =
      rw (
        field_is f Zero NoInit (all_first (λ (f : FieldRow). f.id < length t.fields) f fs there) refl,
        instances_are fs (all_rest (λ (f : FieldRow). f.id < length t.fields) f fs there),
      ) refl
