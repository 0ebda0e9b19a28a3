-- The values of static fields hold, where what the fields are set to fits their types.
use Rattle.std.proofs.Common.{◌≡◌, ◌⊎◌, ℕ, ◌^◌, Bool, true, false, List, [], ◌∷◌, map, length, inl, inr, refl, ap, ◌∙◌}
use Rattle.std.specs.Prelude.{◌&&◌, ◌||◌, not, nat_lt, codes, All, if◌then◌else◌}
use Rattle.std.specs.List.{list_all, list_any}
use Rattle.std.proofs.lemmas.Bool.{and_parts, and_from, or_cases, lt-ltb, not-true}
use Rattle.std.proofs.lemmas.List.{length-map}
use Rattle.std.proofs.lemmas.List.Elements.{All-head, All-tail}
use Rattle.pi_model.specs.Texts.{same_text}
use Rattle.pi_format.specs.Rules.Descriptors.{begins_with}
use Rattle.pi_dextables.specs.declared.tables.Class.{Class}
use Rattle.pi_dextables.specs.declared.tables.Tables.{Tables}
use Rattle.pi_dextables.specs.declared.tables.Value.{Value}
use Rattle.pi_contents.specs.Contents.{InitContent, NoInit, WordInit, LongInit, TextInit, TypeInit, FieldContent}
use Rattle.pi_contents.specs.Asked.{has_init, is_number, is_reference, word_fits, init_fits}
use Rattle.pi_tablesaid.specs.Entries.{type_at, field_at}
use Rattle.pi_tablesaid.specs.Kept.{value_holds, values_hold}
use Rattle.pi_classtables.specs.Numbers.{Pools, string_no, type_no}
use Rattle.pi_classtables.specs.Values.{empty_value, word_value, value_of, set_fields, values_of}
use Rattle.pi_classtables.specs.Whole.{field_row, tables_with}
use Rattle.pi_classlaws.proofs.Known.{type_again, field_again}
use Rattle.pi_classlaws.proofs.HeldMembers.{InitHeld, FieldHeld}
use Rattle.pi_classlaws.proofs.InitValues.{empty_by, word_by}

-- what fits the first letter of a type, or is left where it is of none
by_letter : (b : Bool) → b ≡ true → (b && true) ≡ true
by_letter b e = rw e refl

second : (a b : Bool) → a ≡ false → (a || b) ≡ true → b ≡ true
second true b e f = cc
second false b e f = f

-- each form of a value
empty_holds : (t : Tables) (ty : List ℕ) → (is_number ty || is_reference ty) ≡ true → value_holds t ty (empty_value ty) ≡ true
unfolding value_holds
empty_holds t ty fits =
    empty_by (λ (v : Value). value_holds t ty v ≡ true) ty
    (λ e. by_letter (begins_with 66 ty) e)
    (λ e. by_letter (begins_with 83 ty) e)
    (λ e. by_letter (begins_with 67 ty) e)
    (λ e. by_letter (begins_with 73 ty) e)
    (λ e. by_letter (begins_with 74 ty) e)
    (λ e. by_letter (begins_with 90 ty) e)
    (λ none. by_letter (is_reference ty) (second (is_number ty) (is_reference ty) none fits))

word_holds : (t : Tables) (ty : List ℕ) (w : ℕ) → word_fits ty w ≡ true → value_holds t ty (word_value ty w) ≡ true
unfolding value_holds
word_holds t ty w fits =
    word_by (λ (v : Value). value_holds t ty v ≡ true) ty w
    (λ e _. by_letter (begins_with 66 ty) e)
    (λ e _. by_letter (begins_with 83 ty) e)
    (λ e lt. by_letter (begins_with 67 ty) e)
    (λ e lt. and_from (begins_with 90 ty) (nat_lt w 2) e (lt-ltb w 2 lt))
    (λ int. by_letter (begins_with 73 ty) (int fits))

-- where no field is set there are no values
no_values : (p : Pools) (fs : List FieldContent) → list_any (λ (f : FieldContent). has_init f.init) fs ≡ false → values_of p fs ≡ []
no_values p [] e = refl
no_values p (f ∷ fs) e =
    ap (λ (b : Bool). map (λ (g : FieldContent). value_of p g.ty g.init) (if b then f ∷ set_fields fs else [])) e

module _ (p : Pools) (classes : List Class) where
  init_holds : (ty : List ℕ) (init : InitContent) → init_fits ty init ≡ true → InitHeld p init
      → value_holds (tables_with p classes) ty (value_of p ty init) ≡ true
  unfolding value_of value_holds
  init_holds ty NoInit fits held = empty_holds (tables_with p classes) ty fits
  init_holds ty (WordInit w) fits held = word_holds (tables_with p classes) ty w (and_parts (nat_lt 0 w) (word_fits ty w) fits).1
  init_holds ty (LongInit l) fits held =
      let parts = and_parts (nat_lt 0 l) (nat_lt l (2 ^ 64) && begins_with 74 ty) fits in
      by_letter (begins_with 74 ty) (and_parts (nat_lt l (2 ^ 64)) (begins_with 74 ty) parts.1).1
  init_holds ty (TextInit s) fits held = rw (fits, lt-ltb (string_no p s) (length p.strings) held.number) refl
  init_holds ty (TypeInit u) fits held =
      let parts = and_parts (same_text (codes "Ljava/lang/Class;") ty) (is_reference u) fits in
      let reference : is_reference (type_at (tables_with p classes) (type_no p u)) ≡ true = ap is_reference (type_again p classes u held) ∙ parts.1 in
      let there : nat_lt (type_no p u) (length (map (string_no p) p.types)) ≡ true = rw (length-map p.types (string_no p)) (lt-ltb (type_no p u) (length p.types) held.number) in
      and_from (same_text (codes "Ljava/lang/Class;") ty) _ parts.0
      (and_from (nat_lt (type_no p u) (length (map (string_no p) p.types))) (is_reference (type_at (tables_with p classes) (type_no p u))) there reference)

  -- a field has the type that its row names
  row_holds : (class : List ℕ) (f : FieldContent) → init_fits f.ty f.init ≡ true → FieldHeld p class f
      → value_holds (tables_with p classes) (field_at (tables_with p classes) (field_row p class f).id).ty (value_of p f.ty f.init) ≡ true
  row_holds class f fits held =
      let name = field_again p classes _ held.field in
      ap (λ n. value_holds (tables_with p classes) n.ty (value_of p f.ty f.init)) name ∙ init_holds f.ty f.init fits held.init

  all_fit : (class : List ℕ) (fs : List FieldContent) → All (FieldHeld p class) fs → list_all (λ (f : FieldContent). init_fits f.ty f.init) fs ≡ true
      → values_hold (tables_with p classes) (map (field_row p class) fs) (values_of p fs) ≡ true
  all_fit class [] held fits = refl
  all_fit class (f ∷ fs) held fits = by_set (list_any (λ (g : FieldContent). has_init g.init) (f ∷ fs)) (all_fit class fs (All-tail (FieldHeld p class) f fs held) parts.1)
    where
      parts : (init_fits f.ty f.init ≡ true) × (list_all (λ (g : FieldContent). init_fits g.ty g.init) fs ≡ true)
      parts = and_parts (init_fits f.ty f.init) (list_all (λ (g : FieldContent). init_fits g.ty g.init) fs) fits

      by_set : (b : Bool) → values_hold (tables_with p classes) (map (field_row p class) fs) (values_of p fs) ≡ true
          → values_hold (tables_with p classes) (map (field_row p class) (f ∷ fs))
          (map (λ (g : FieldContent). value_of p g.ty g.init) (if b then f ∷ set_fields fs else [])) ≡ true
      by_set true rest = and_from _ _ (row_holds class f parts.0 (All-head (FieldHeld p class) f fs held)) rest
      by_set false rest = refl

  -- no field is set, or each fits
  pub values_held : (class : List ℕ) (fs : List FieldContent) → All (FieldHeld p class) fs
      → (not (list_any (λ (f : FieldContent). has_init f.init) fs) || list_all (λ (f : FieldContent). init_fits f.ty f.init) fs) ≡ true
      → values_hold (tables_with p classes) (map (field_row p class) fs) (values_of p fs) ≡ true
  values_held class fs held fits =
      by_case (or_cases (not (list_any (λ (f : FieldContent). has_init f.init) fs)) (list_all (λ (f : FieldContent). init_fits f.ty f.init) fs) fits)
    where
      by_case : (not (list_any (λ (f : FieldContent). has_init f.init) fs) ≡ true) ⊎ (list_all (λ (f : FieldContent). init_fits f.ty f.init) fs ≡ true)
          → values_hold (tables_with p classes) (map (field_row p class) fs) (values_of p fs) ≡ true
      by_case (inl unset) =
          let none = not-true (list_any (λ (f : FieldContent). has_init f.init) fs) unset in
          ap (values_hold (tables_with p classes) (map (field_row p class) fs)) (no_values p fs none)
      by_case (inr all) = all_fit class fs held all
