-- Two strings of a file that breaks no rule have two texts, and so have two types.
use Rattle.std.proofs.Common.{◌≡◌, ℕ, ◌<◌, List, true, false, inl, inr, sym, ◌∙◌, subst, arith}
use Rattle.std.specs.Prelude.{◌==◌}
use Rattle.std.proofs.lemmas.Bool.{cases_order, cases_Bool, eq-eqb, ne_eqb}
use Rattle.std.proofs.lemmas.Cmp.{nat_list_eq_equiv}
use Rattle.pi_model.specs.Texts.{same_text}
use Rattle.pi_format.specs.Tables.{count_at, string_ids, type_ids}
use Rattle.pi_format.specs.Rules.Strings.{string_units, type_string, type_units}
use Rattle.pi_format.proofs.Held.{TablesHold, type_named}
use Rattle.pi_said.proofs.Names.{text_equal}
use Rattle.pi_said.proofs.Types.{below_differs, texts_rise, types_rise}

-- strings with one text have one number
pub string_once : (file : List ℕ) → TablesHold file → (i j : ℕ) → i < count_at file string_ids → j < count_at file string_ids
    → same_text (string_units file i) (string_units file j) ≡ true → i ≡ j
string_once file tables i j a b e =
    let same = text_equal (string_units file i) (string_units file j) e in
    elim (cases_order i j) [
      | inl h ↦ h
      | inr h ↦ elim h [
        | inl less ↦ absurd (below_differs (string_units file i) (string_units file j) (texts_rise file tables.string_order i j less b) same)
        | inr less ↦ absurd (below_differs (string_units file j) (string_units file i) (texts_rise file tables.string_order j i less a) (sym same))
      ]
    ]

-- and so have types
type_strings_once : (file : List ℕ) → TablesHold file → (t u : ℕ) → t < count_at file type_ids → u < count_at file type_ids
    → type_string file t ≡ type_string file u → t ≡ u
type_strings_once file tables t u a b e =
    elim (cases_order t u) [
      | inl h ↦ h
      | inr h ↦ elim h [
        | inl less ↦ let rising = types_rise file tables.types t u less b in absurd (omega arith)
        | inr less ↦ let rising = types_rise file tables.types u t less a in absurd (omega arith)
      ]
    ]

pub type_once : (file : List ℕ) → TablesHold file → (t u : ℕ) → t < count_at file type_ids → u < count_at file type_ids
    → same_text (type_units file t) (type_units file u) ≡ true → t ≡ u
type_once file tables t u a b e =
    type_strings_once file tables t u a b
    (string_once file tables (type_string file t) (type_string file u) (type_named file t tables.types a) (type_named file u tables.types b) e)

-- two types are the same by their texts exactly where they are by their numbers
pub type_same : (file : List ℕ) → TablesHold file → (t u : ℕ) → t < count_at file type_ids → u < count_at file type_ids
    → same_text (type_units file t) (type_units file u) ≡ (u == t)
type_same file tables t u a b =
    elim (cases_Bool (same_text (type_units file t) (type_units file u))) [
      | inl e ↦ e ∙ sym (eq-eqb u t (sym (type_once file tables t u a b e)))
      | inr e ↦ e ∙ sym (ne_eqb u t (λ same. differ same e))
    ]
  where
    differ : u ≡ t → same_text (type_units file t) (type_units file u) ≡ false → ⊥
    differ same e =
        let one = nat_list_eq_equiv.refl (type_units file t) in
        let none : same_text (type_units file t) (type_units file t) ≡ false = subst (λ (k : ℕ). same_text (type_units file t) (type_units file k) ≡ false) same e in
        cc
