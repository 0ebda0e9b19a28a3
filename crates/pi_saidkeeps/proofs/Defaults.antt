-- A descriptor of a value is that of a number or of a reference, so that a field which is given none has one by itself.
use Rattle.std.proofs.Common.{◌≡◌, ℕ, zero, suc, ◌-◌, ◌<◌, List, [], ◌∷◌, None, Bool, true, false, inl, inr, refl, sym, subst}
use Rattle.std.specs.Prelude.{◌==◌, ◌&&◌, ◌||◌, not, nat_lt, codes, if◌then◌else◌}
use Rattle.std.proofs.lemmas.Bool.{and_parts, or_cases, eqb-true, ltb-true, not-true}
use Rattle.pi_model.specs.Texts.{same_text}
use Rattle.pi_format.specs.Tables.{count_at, string_ids, type_ids, field_ids}
use Rattle.pi_format.specs.Rules.Descriptors.{is_class_name, is_primitive, is_simple, is_array_of, is_descriptor, is_void, is_class_type, is_member_name}
use Rattle.pi_format.specs.Rules.Strings.{string_units, type_string, type_units, type_holds, broken_types}
use Rattle.pi_format.specs.Rules.Members.{member_entry, is_value_type, member_rises, field_fits, field_holds, broken_fields}
use Rattle.pi_format.proofs.Held.{entry_holds}
use Rattle.pi_said.proofs.Names.{text_equal}
use Rattle.pi_contents.specs.Asked.{is_reference, is_number}

-- a number or a reference
abbrev pub has_default : List ℕ → Bool
has_default t = is_number t || is_reference t

letter : (u n : ℕ) (units : List ℕ) → (u == n) ≡ true → has_default (n ∷ units) ≡ true → has_default (u ∷ units) ≡ true
letter u n units e h = subst (λ (v : ℕ). has_default (v ∷ units) ≡ true) (sym (eqb-true u n e)) h

primitive_is : (u : ℕ) (units : List ℕ) → is_primitive u ≡ true → has_default (u ∷ units) ≡ true
primitive_is u units h = by_letter (u == 90) (u == 66) (u == 83) (u == 67) (u == 73) (u == 74) refl refl refl refl refl refl h
  where
    by_letter : (z b s c i j : Bool) → (u == 90) ≡ z → (u == 66) ≡ b → (u == 83) ≡ s → (u == 67) ≡ c → (u == 73) ≡ i → (u == 74) ≡ j
        → (z || (b || (s || (c || (i || j))))) ≡ true → has_default (u ∷ units) ≡ true
    by_letter true b s c i j ez eb es ec ei ej h = letter u 90 units ez refl
    by_letter false true s c i j ez eb es ec ei ej h = letter u 66 units eb refl
    by_letter false false true c i j ez eb es ec ei ej h = letter u 83 units es refl
    by_letter false false false true i j ez eb es ec ei ej h = letter u 67 units ec refl
    by_letter false false false false true j ez eb es ec ei ej h = letter u 73 units ei refl
    by_letter false false false false false true ez eb es ec ei ej h = letter u 74 units ej refl
    by_letter false false false false false false ez eb es ec ei ej h = cc

simple_is : (u : ℕ) (units : List ℕ) → is_simple (u ∷ units) ≡ true → has_default (u ∷ units) ≡ true
simple_is u [] h = primitive_is u [] h
simple_is u (v ∷ units) h = letter u 76 (v ∷ units) ((and_parts (u == 76) (is_class_name false (v ∷ units)) h).0) refl

array_is : (n : ℕ) (t : List ℕ) → is_array_of n t ≡ true → has_default t ≡ true
unfolding is_array_of
array_is n [] h = cc
array_is zero (u ∷ units) h = simple_is u units h
array_is (suc n) (u ∷ units) h = by_mark (u == 91) refl h
  where
    by_mark : (b : Bool) → (u == 91) ≡ b → (if b then is_array_of n units else is_simple (u ∷ units)) ≡ true → has_default (u ∷ units) ≡ true
    by_mark true e h = letter u 91 units e refl
    by_mark false e h = simple_is u units h

pub value_has_default : (t : List ℕ) → is_descriptor t ≡ true → not (is_void t) ≡ true → has_default t ≡ true
value_has_default t is some =
    elim (or_cases (same_text (codes "V") t) (is_array_of 255 t) is) [
      | inl e ↦
          let void : is_void t ≡ true = subst (λ (u : List ℕ). is_void u ≡ true) (text_equal (codes "V") t e) refl in
          let none = not-true (is_void t) some in
          cc
      | inr e ↦ array_is 255 t e
    ]

type_descriptor : (file : List ℕ) (t : ℕ) → broken_types file ≡ None → t < count_at file type_ids → is_descriptor (type_units file t) ≡ true
type_descriptor file t kept lt =
    let holds : type_holds file t ≡ true = entry_holds file type_ids 4 (type_holds file) kept t lt in
    let rest = and_parts (nat_lt (type_string file t) (count_at file string_ids)) (((t == 0) || nat_lt (type_string file (t - 1)) (type_string file t)) && is_descriptor (type_units file t)) holds in
    (and_parts ((t == 0) || nat_lt (type_string file (t - 1)) (type_string file t)) (is_descriptor (type_units file t)) rest.1).1

field_value : (file : List ℕ) (id : ℕ) → broken_fields file ≡ None → id < count_at file field_ids → is_value_type file (member_entry file field_ids id).kind ≡ true
field_value file id kept lt =
    let e = member_entry file field_ids id in
    let holds : field_holds file id ≡ true = entry_holds file field_ids 8 (field_holds file) kept id lt in
    let fits = (and_parts (field_fits file e) (member_rises file field_ids id) holds).0 in
    let named : Bool = nat_lt e.name (count_at file string_ids) && is_member_name (string_units file e.name) in
    let a = and_parts (nat_lt e.class (count_at file type_ids)) (is_class_type (type_units file e.class) && (is_value_type file e.kind && named)) fits in
    let b = and_parts (is_class_type (type_units file e.class)) (is_value_type file e.kind && named) a.1 in
    (and_parts (is_value_type file e.kind) named b.1).0

-- the type of a field is that of a number or of a reference
pub field_has_default : (file : List ℕ) (id : ℕ) → broken_types file ≡ None → broken_fields file ≡ None → id < count_at file field_ids
    → has_default (type_units file (member_entry file field_ids id).kind) ≡ true
field_has_default file id types fields lt =
    let kind = (member_entry file field_ids id).kind in
    let value = and_parts (nat_lt kind (count_at file type_ids)) (not (is_void (type_units file kind))) (field_value file id fields lt) in
    value_has_default (type_units file kind) (type_descriptor file kind types (ltb-true kind (count_at file type_ids) value.0)) value.1
