-- What the fields of a class and their values name: each is one of the fields of the file, and a class that a value sets
-- is one of its types.
use Rattle.std.proofs.Common.{◌≡◌, ℕ, zero, suc, ◌^◌, List, [], ◌∷◌, ◌++◌, map, Bool, true, false, Option, Some, None, refl, sym, ap, ◌∙◌, subst}
use Rattle.std.specs.Prelude.{codes, ◌==◌, ◌&&◌, ◌||◌, not, nat_lt, if◌then◌else◌}
use Rattle.std.specs.List.{list_all, flat_map}
use Rattle.std.proofs.lemmas.Bool.{and_parts, and_from, eqb-true, ltb-true, cond_both}
use Rattle.std.proofs.lemmas.List.{map-append}
use Rattle.std.proofs.lemmas.List.Concat.{flat_map-append}
use Rattle.pi_model.specs.declared.numbers.NameNo.{NameNo}
use Rattle.pi_model.specs.declared.describe.FieldDesc.{FieldDesc}
use Rattle.pi_model.specs.declared.describe.Init.{Init}
use Rattle.pi_model.specs.declared.describe.Init.TheVariants.{Zero, Word, Long, Cls}
use Rattle.pi_model.specs.Texts.{same_text}
use Rattle.pi_bytes.specs.Place.{Place}
use Rattle.pi_bytes.specs.Leb.{uleb_at}
use Rattle.pi_insn.proofs.Steps.{bind_some}
use Rattle.pi_format.proofs.Held.{field_kept}
use Rattle.pi_format.specs.Tables.{count_at, type_ids, field_ids}
use Rattle.pi_format.specs.Rules.Descriptors.{is_descriptor}
use Rattle.pi_format.specs.Rules.Strings.{string_units, type_units}
use Rattle.pi_format.specs.Rules.Members.{member_entry}
use Rattle.pi_format.specs.Rules.Classes.{class_entry}
use Rattle.pi_format.specs.Rules.Rows.{MemberRow, readable}
use Rattle.pi_format.specs.Rules.ClassData.{rows_of, is_field_of, class_values_at}
use Rattle.pi_format.specs.Rules.Values.{EncodedValue, encoded_value, is_reference, names_reference, value_fits, field_type, values_from, values_at, class_values}
use Rattle.pi_format.specs.Says.Names.{Named, type_name}
use Rattle.pi_format.specs.Says.Classes.{word_init, long_init, signed_value, init_of, field_desc, static_fields, values_in, fields_said}
use Rattle.pi_said.proofs.Lists.{append_all}
use Rattle.pi_said.proofs.Members.{some_is, tested, rows_fit}
use Rattle.pi_contents.specs.Contents.{FieldName, Naming, OfField}
use Rattle.pi_contents.specs.Named.{init_content, field_content}
use Rattle.pi_contents.specs.Naming.{own_field, named_by_init, named_by_field}
use Rattle.pi_saidkeeps.proofs.Lists.{all_parts}
use Rattle.pi_saidkeeps.proofs.Spelled.{IsRead, is_type, type_read}
use Rattle.pi_saidkeeps.proofs.Entries.{field_of, naming_fits, names_type, names_field}

-- a value that sets a class names a type that there is
abbrev names_class : List ℕ → EncodedValue → Bool
names_class file v = not (v.kind == 0x18) || is_type file v.number

class_there : (file : List ℕ) (ty : List ℕ) (v : EncodedValue) → (v.kind == 0x18) ≡ true → value_fits file ty v ≡ true → is_type file v.number ≡ true
unfolding value_fits
class_there file ty v e h =
    let kind = eqb-true v.kind 0x18 e in
    let a = and_parts (same_text (codes "Ljava/lang/Class;") ty) (nat_lt v.arg 4 && names_reference file v.number) (rw kind at h) in
    let b = and_parts (nat_lt v.arg 4) (names_reference file v.number) a.1 in
    (and_parts (is_type file v.number) (is_reference (type_units file v.number)) b.1).0

fits_names : (file : List ℕ) (ty : List ℕ) (v : EncodedValue) → value_fits file ty v ≡ true → names_class file v ≡ true
fits_names file ty v h = by_kind (v.kind == 0x18) refl
  where
    by_kind : (b : Bool) → (v.kind == 0x18) ≡ b → (not b || is_type file v.number) ≡ true
    by_kind true e = class_there file ty v e h
    by_kind false e = refl

values_name : (file : List ℕ) (fields : List MemberRow) (n : ℕ) (p : Place) (values : List EncodedValue) → values_from file fields n p ≡ Some values → list_all (names_class file) values ≡ true
values_name file fields zero p values e = subst (λ (vs : List EncodedValue). list_all (names_class file) vs ≡ true) (some_is e) refl
values_name file [] (suc n) p values e = cc
values_name file (field ∷ fields) (suc n) p values e =
    let first = bind_some (encoded_value p) _ values e in
    let test = tested (value_fits file (field_type file field.id) first.0.0) _ values first.1.1 in
    let others = bind_some (values_from file fields n first.0.1) _ values test.1 in
    let rest = values_name file fields n first.0.1 others.0 others.1.0 in
    subst (λ (vs : List EncodedValue). list_all (names_class file) vs ≡ true) (some_is others.1.1)
    (and_from (names_class file first.0.0) (list_all (names_class file) others.0) (fits_names file (field_type file field.id) first.0.0 test.0) rest)

values_at_name : (file : List ℕ) (fields : List MemberRow) (p : Place) (values : List EncodedValue) → values_at file fields p ≡ Some values → list_all (names_class file) values ≡ true
unfolding values_at
values_at_name file fields p values e =
    let count = bind_some (readable (uleb_at p)) _ values e in
    values_name file fields count.0.0 count.0.1 values count.1.1

class_values_name : (file : List ℕ) (i : ℕ) → list_all (names_class file) (values_in (class_values file i)) ≡ true
unfolding class_values
class_values_name file i = by_place (class_values_at file i == 0)
  where
    by_values : (o : Option (List EncodedValue)) → values_at file (rows_of file i).statics (record { bytes = file; at = class_values_at file i }) ≡ o
        → list_all (names_class file) (values_in o) ≡ true
    by_values None e = refl
    by_values (Some values) e = values_at_name file (rows_of file i).statics (record { bytes = file; at = class_values_at file i }) values e

    by_place : (b : Bool)
        → list_all (names_class file) (values_in (if b then Some [] else values_at file (rows_of file i).statics (record { bytes = file; at = class_values_at file i }))) ≡ true
    by_place true = refl
    by_place false = by_values (values_at file (rows_of file i).statics (record { bytes = file; at = class_values_at file i })) refl

-- what a field is set to
abbrev init_fits : (NameNo → List ℕ) → Init → Bool
init_fits text init = list_all naming_fits (named_by_init (init_content text init))

class_init : (text : NameNo → List ℕ) (n : Named) → IsRead text n → (v : EncodedValue) → names_class n.file v ≡ true → (v.kind == 0x18) ≡ true
    → init_fits text (Cls (type_name n v.number)) ≡ true
class_init text n read v h e =
    let there : is_type n.file v.number ≡ true = rw e at h in
    and_from (is_descriptor (text (type_name n v.number))) true (names_type text n read v.number (ltb-true v.number (count_at n.file type_ids) there)) refl

word_fits : (text : NameNo → List ℕ) (w : ℕ) → init_fits text (word_init w) ≡ true
word_fits text w = cond_both (w == 0) Zero (Word w) (λ init. init_fits text init ≡ true) (λ e. refl) (λ e. refl)

long_fits : (text : NameNo → List ℕ) (w : ℕ) → init_fits text (long_init w) ≡ true
long_fits text w = cond_both (w == 0) Zero (Long w) (λ init. init_fits text init ≡ true) (λ e. refl) (λ e. refl)

init_named : (text : NameNo → List ℕ) (n : Named) → IsRead text n → (v : EncodedValue) → names_class n.file v ≡ true → init_fits text (init_of n v) ≡ true
unfolding init_of
init_named text n read v h =
    let fits : Init → Type 0 = λ init. init_fits text init ≡ true in
    cond_both (v.kind == 0x00 || (v.kind == 0x02 || v.kind == 0x04)) _ _ fits (λ e. word_fits text (signed_value (2 ^ 32) v)) (λ e0.
    cond_both (v.kind == 0x03) _ _ fits (λ e. word_fits text v.number) (λ e3.
    cond_both (v.kind == 0x06) _ _ fits (λ e. long_fits text (signed_value (2 ^ 64) v)) (λ e6.
    cond_both (v.kind == 0x1f) _ _ fits (λ e. word_fits text v.arg) (λ e1f.
    cond_both (v.kind == 0x17) _ _ fits (λ e. refl) (λ e17.
    cond_both (v.kind == 0x18) (Cls (type_name n v.number)) Zero fits (λ e. class_init text n read v h e) (λ e18. refl))))))

-- the fields of a class that are set to what names what there is
own_name : (text : NameNo → List ℕ) (n : Named) → IsRead text n → (class : ℕ) (init : Init) (row : MemberRow) → is_field_of n.file class row.id ≡ true
    → own_field (type_units n.file class) (field_content text (field_desc n init row)) ≡ field_of n.file row.id
own_name text n read class init row own =
    let e = member_entry n.file field_ids row.id in
    let parts = and_parts (nat_lt row.id (count_at n.file field_ids)) (e.class == class) own in
    let same = eqb-true e.class class parts.1 in
    let fits = field_kept n.file row.id read.tables.fields (ltb-true row.id (count_at n.file field_ids) parts.0) in
    rw (read.each e.name fits.name, type_read text n read e.kind fits.kind)
    (ap (λ (c : ℕ). record { class = type_units n.file c; name = string_units n.file e.name; ty = type_units n.file e.kind }) (sym same))

field_named : (text : NameNo → List ℕ) (n : Named) → IsRead text n → (class : ℕ) (init : Init) (row : MemberRow) → is_field_of n.file class row.id ≡ true
    → init_fits text init ≡ true → list_all naming_fits (named_by_field (type_units n.file class) (field_content text (field_desc n init row))) ≡ true
field_named text n read class init row own h =
    let parts = and_parts (nat_lt row.id (count_at n.file field_ids)) ((member_entry n.file field_ids row.id).class == class) own in
    let there = names_field n.file read.tables row.id (ltb-true row.id (count_at n.file field_ids) parts.0) in
    and_from (naming_fits (OfField (own_field (type_units n.file class) (field_content text (field_desc n init row))))) (init_fits text init)
    (subst (λ (f : FieldName). naming_fits (OfField f) ≡ true) (sym (own_name text n read class init row own)) there) h

-- the static ones have the first values
abbrev names_of_fields : (NameNo → List ℕ) → List ℕ → List FieldDesc → List Naming
names_of_fields text class fields = flat_map (named_by_field class) (map (field_content text) fields)

statics_named : (text : NameNo → List ℕ) (n : Named) → IsRead text n → (class : ℕ) (rows : List MemberRow) (values : List EncodedValue)
    → list_all (λ (row : MemberRow). is_field_of n.file class row.id) rows ≡ true → list_all (names_class n.file) values ≡ true
    → list_all naming_fits (names_of_fields text (type_units n.file class) (static_fields n rows values)) ≡ true
statics_named text n read class [] values own named = refl
statics_named text n read class (row ∷ rows) [] own named =
    let here = and_parts (is_field_of n.file class row.id) _ own in
    append_all naming_fits (named_by_field (type_units n.file class) (field_content text (field_desc n Zero row)))
    (names_of_fields text (type_units n.file class) (static_fields n rows []))
    (field_named text n read class Zero row here.0 refl) (statics_named text n read class rows [] here.1 refl)
statics_named text n read class (row ∷ rows) (v ∷ values) own named =
    let here = and_parts (is_field_of n.file class row.id) _ own in
    let value = and_parts (names_class n.file v) (list_all (names_class n.file) values) named in
    append_all naming_fits (named_by_field (type_units n.file class) (field_content text (field_desc n (init_of n v) row)))
    (names_of_fields text (type_units n.file class) (static_fields n rows values))
    (field_named text n read class (init_of n v) row here.0 (init_named text n read v value.0)) (statics_named text n read class rows values here.1 value.1)

-- no other field has one
instances_named : (text : NameNo → List ℕ) (n : Named) → IsRead text n → (class : ℕ) (rows : List MemberRow)
    → list_all (λ (row : MemberRow). is_field_of n.file class row.id) rows ≡ true
    → list_all naming_fits (names_of_fields text (type_units n.file class) (map (field_desc n Zero) rows)) ≡ true
instances_named text n read class [] own = refl
instances_named text n read class (row ∷ rows) own =
    let here = and_parts (is_field_of n.file class row.id) _ own in
    append_all naming_fits (named_by_field (type_units n.file class) (field_content text (field_desc n Zero row)))
    (names_of_fields text (type_units n.file class) (map (field_desc n Zero) rows))
    (field_named text n read class Zero row here.0 refl) (instances_named text n read class rows here.1)

pub fields_named : (text : NameNo → List ℕ) (n : Named) → IsRead text n → (i : ℕ)
    → list_all naming_fits (names_of_fields text (type_units n.file (class_entry n.file i).class) (fields_said n i)) ≡ true
fields_named text n read i =
    let class = (class_entry n.file i).class in
    let rows = rows_of n.file i in
    let own = all_parts (λ (row : MemberRow). is_field_of n.file class row.id) rows.statics rows.instances (rows_fit n.file i).own_fields in
    let statics = static_fields n rows.statics (values_in (class_values n.file i)) in
    let instances = map (field_desc n Zero) rows.instances in
    let parts : names_of_fields text (type_units n.file class) (statics ++ instances)
    ≡ names_of_fields text (type_units n.file class) statics ++ names_of_fields text (type_units n.file class) instances =
    ap (flat_map (named_by_field (type_units n.file class))) (map-append (field_content text) statics instances)
    ∙ flat_map-append (named_by_field (type_units n.file class)) (map (field_content text) statics) (map (field_content text) instances) in
    rw parts (append_all naming_fits (names_of_fields text (type_units n.file class) statics) (names_of_fields text (type_units n.file class) instances)
    (statics_named text n read class rows.statics (values_in (class_values n.file i)) own.0 (class_values_name n.file i))
    (instances_named text n read class rows.instances own.1))
