-- What each static field is set to fits its type.
use Rattle.std.proofs.Common.{◌≡◌, ℕ, ◌<◌, List, [], ◌∷◌, map, None, Bool, true, refl, sym, ◌∙◌, subst}
use Rattle.std.specs.Prelude.{◌==◌, not, nat_lt, IsTrue}
use Rattle.std.specs.List.{list_all, list_any}
use Rattle.std.proofs.lemmas.Bool.{and_parts, and_from, or_right, ltb-true}
use Rattle.std.proofs.lemmas.List.Folds.{list_all-map, list_all-append}
use Rattle.pi_model.specs.declared.describe.ClassDesc.{ClassDesc}
use Rattle.pi_model.specs.declared.describe.FieldDesc.{FieldDesc}
use Rattle.pi_model.specs.declared.describe.Init.{Init}
use Rattle.pi_model.specs.declared.describe.Init.TheVariants.{Zero}
use Rattle.pi_model.specs.Flags.{is_static}
use Rattle.pi_model.specs.Program.{Program}
use Rattle.pi_format.specs.Tables.{count_at, field_ids, class_defs}
use Rattle.pi_format.specs.Rules.{broken_rule}
use Rattle.pi_format.specs.Rules.Strings.{type_units}
use Rattle.pi_format.specs.Rules.Members.{member_entry}
use Rattle.pi_format.specs.Rules.Classes.{class_entry}
use Rattle.pi_format.specs.Rules.Rows.{MemberRow}
use Rattle.pi_format.specs.Rules.ClassData.{is_field_of, rows_of}
use Rattle.pi_format.specs.Rules.Values.{EncodedValue, field_type, class_values}
use Rattle.pi_format.specs.Says.{named_file, with_said}
use Rattle.pi_format.specs.Says.Names.{Named, type_name}
use Rattle.pi_format.specs.Says.Classes.{init_of, field_desc, static_fields, values_in, fields_said, class_desc, classes_said}
use Rattle.pi_format.proofs.Held.{rule_parts, TablesHold, tables_hold, field_kept}
use Rattle.pi_said.proofs.Lists.{append_all, listed_all}
use Rattle.pi_said.proofs.Members.{rows_fit}
use Rattle.pi_contents.specs.Named.{init_content, field_content, text_in, content_in}
use Rattle.pi_contents.specs.Asked.{init_fits, static_fits, is_set, inits_fit}
use Rattle.pi_saidkeeps.specs.Chains.{AreBytes}
use Rattle.pi_saidkeeps.proofs.Texts.{text_of_type}
use Rattle.pi_saidkeeps.proofs.Values.{value_sets}
use Rattle.pi_saidkeeps.proofs.Defaults.{field_has_default}
use Rattle.pi_saidkeeps.proofs.Given.{FitRows, class_values_fit}

-- the test of the contents of a field
abbrev fits_field : Program → List ℕ → FieldDesc → Bool
fits_field p file f = static_fits (field_content (text_in (with_said p file)) f)

own_id : (file : List ℕ) (class : ℕ) (row : MemberRow) → is_field_of file class row.id ≡ true → row.id < count_at file field_ids
own_id file class row own = ltb-true row.id (count_at file field_ids) ((and_parts (nat_lt row.id (count_at file field_ids)) ((member_entry file field_ids row.id).class == class) own).0)

-- a field fits what it is set to, where that fits the type of its row
set_fits : (p : Program) (file : List ℕ) (init : Init) (row : MemberRow) → TablesHold file → row.id < count_at file field_ids
    → init_fits (field_type file row.id) (init_content (text_in (with_said p file)) init) ≡ true → fits_field p file (field_desc (named_file p file) init row) ≡ true
set_fits p file init row tables lt fits =
    let kind = (member_entry file field_ids row.id).kind in
    let text : List ℕ = text_in (with_said p file) (type_name (named_file p file) kind) in
    let same : text ≡ type_units file kind = text_of_type p file kind tables.types (field_kept file row.id tables.fields lt).kind in
    or_right (not (is_static row.flags)) (init_fits text (init_content (text_in (with_said p file)) init))
    (subst (λ (t : List ℕ). init_fits t (init_content (text_in (with_said p file)) init) ≡ true) (sym same) fits)

unset_fits : (p : Program) (file : List ℕ) (row : MemberRow) → TablesHold file → row.id < count_at file field_ids → fits_field p file (field_desc (named_file p file) Zero row) ≡ true
unset_fits p file row tables lt = set_fits p file Zero row tables lt (field_has_default file row.id tables.types tables.fields lt)

unset_fit : (p : Program) (file : List ℕ) (class : ℕ) (rows : List MemberRow) → TablesHold file → list_all (λ (row : MemberRow). is_field_of file class row.id) rows ≡ true
    → list_all (fits_field p file) (map (field_desc (named_file p file) Zero) rows) ≡ true
unset_fit p file class [] tables own = refl
unset_fit p file class (row ∷ rows) tables own =
    let parts = and_parts (is_field_of file class row.id) (list_all (λ (row : MemberRow). is_field_of file class row.id) rows) own in
    and_from (fits_field p file (field_desc (named_file p file) Zero row)) (list_all (fits_field p file) (map (field_desc (named_file p file) Zero) rows))
    (unset_fits p file row tables (own_id file class row parts.0)) (unset_fit p file class rows tables parts.1)

statics_fit : (p : Program) (file : List ℕ) (class : ℕ) (rows : List MemberRow) (values : List EncodedValue) → TablesHold file
    → list_all (λ (row : MemberRow). is_field_of file class row.id) rows ≡ true → FitRows file rows values
    → list_all (fits_field p file) (static_fields (named_file p file) rows values) ≡ true
statics_fit p file class [] values tables own fit = refl
statics_fit p file class (row ∷ rows) [] tables own fit =
    let parts = and_parts (is_field_of file class row.id) (list_all (λ (row : MemberRow). is_field_of file class row.id) rows) own in
    and_from (fits_field p file (field_desc (named_file p file) Zero row)) (list_all (fits_field p file) (static_fields (named_file p file) rows []))
    (unset_fits p file row tables (own_id file class row parts.0)) (statics_fit p file class rows [] tables parts.1 tt)
statics_fit p file class (row ∷ rows) (v ∷ values) tables own fit =
    let parts = and_parts (is_field_of file class row.id) (list_all (λ (row : MemberRow). is_field_of file class row.id) rows) own in
    let n : Named = named_file p file in
    and_from (fits_field p file (field_desc n (init_of n v) row)) (list_all (fits_field p file) (static_fields n rows values))
    (set_fits p file (init_of n v) row tables (own_id file class row parts.0) (value_sets p file (field_type file row.id) v tables.types fit.0.fits fit.0.small))
    (statics_fit p file class rows values tables parts.1 fit.1)

fields_fit : (p : Program) (file : List ℕ) (i : ℕ) → AreBytes file → TablesHold file → list_all (fits_field p file) (fields_said (named_file p file) i) ≡ true
fields_fit p file i bytes tables =
    let n : Named = named_file p file in
    let rows = rows_of file i in
    let class = (class_entry file i).class in
    let own = and_parts (list_all (λ (row : MemberRow). is_field_of file class row.id) rows.statics) (list_all (λ (row : MemberRow). is_field_of file class row.id) rows.instances)
    (sym (list_all-append (λ (row : MemberRow). is_field_of file class row.id) rows.statics rows.instances) ∙ (rows_fit file i).own_fields) in
    append_all (fits_field p file) (static_fields n rows.statics (values_in (class_values file i))) (map (field_desc n Zero) rows.instances)
    (statics_fit p file class rows.statics (values_in (class_values file i)) tables own.0 (class_values_fit file i bytes)) (unset_fit p file class rows.instances tables own.1)

class_fits : (p : Program) (file : List ℕ) (number i : ℕ) → AreBytes file → TablesHold file → inits_fit (content_in (with_said p file) (class_desc (named_file p file) number i)) ≡ true
unfolding class_desc
class_fits p file number i bytes tables =
    let fields = map (field_content (text_in (with_said p file))) (fields_said (named_file p file) i) in
    or_right (not (list_any is_set fields)) (list_all static_fits fields)
    (list_all-map static_fits (field_content (text_in (with_said p file))) (fields_said (named_file p file) i) ∙ fields_fit p file i bytes tables)

-- X19: of all classes
pub inits_hold : (p : Program) (file : List ℕ) (number : ℕ) → AreBytes file → broken_rule file ≡ None
    → IsTrue (list_all inits_fit (map (content_in (with_said p file)) (classes_said (named_file p file) number)))
inits_hold p file number bytes kept =
    let tables = tables_hold file (rule_parts file kept).0 in
    let n : Named = named_file p file in
    list_all-map inits_fit (content_in (with_said p file)) (classes_said n number)
    ∙ listed_all (λ (d : ClassDesc). inits_fit (content_in (with_said p file) d)) (class_desc n number) 0 (count_at file class_defs)
    (λ k lt. class_fits p file number k bytes tables)
