-- What rule X18 asks of the fields of a class: none stands twice, and an interface has none of instances.
use Rattle.std.proofs.Common.{◌≡◌, ℕ, List, [], ◌∷◌, ◌++◌, map, Bool, true, false, refl, sym, ap, ◌∙◌}
use Rattle.std.specs.Prelude.{◌==◌, ◌&&◌, ◌||◌, not, nat_lt}
use Rattle.std.specs.List.{list_all}
use Rattle.std.proofs.lemmas.Bool.{and_parts, eqb-true, eq-eqb, ltb-true, false_from_ne_true, or_left, or_right}
use Rattle.std.proofs.lemmas.List.{map-append}
use Rattle.std.proofs.lemmas.List.Folds.{list_all-map}
use Rattle.pi_model.specs.declared.numbers.NameNo.{NameNo}
use Rattle.pi_model.specs.declared.describe.Init.TheVariants.{Zero}
use Rattle.pi_model.specs.Distinct.{all_distinct}
use Rattle.pi_model.specs.Flags.{is_static}
use Rattle.pi_model.specs.Texts.{same_text}
use Rattle.pi_model.proofs.Kept.{all_more}
use Rattle.pi_format.specs.declared.lists.MemberList.TheVariants.{StaticFields, InstanceFields}
use Rattle.pi_format.specs.Tables.{count_at, field_ids}
use Rattle.pi_format.specs.Rules.Members.{member_entry}
use Rattle.pi_format.specs.Rules.Classes.{class_entry}
use Rattle.pi_format.specs.Rules.Rows.{MemberRow}
use Rattle.pi_format.specs.Rules.ClassData.{Owner, owner, rows_of, is_field_of, row_holds}
use Rattle.pi_format.specs.Rules.Values.{EncodedValue, class_values}
use Rattle.pi_format.specs.Says.Names.{Named, string_name, type_name}
use Rattle.pi_format.specs.Says.Classes.{field_desc, static_fields, values_in, fields_said}
use Rattle.pi_format.proofs.Held.{field_kept}
use Rattle.pi_said.proofs.Lists.{append_all}
use Rattle.pi_said.proofs.Members.{same_id, rows_fit}
use Rattle.pi_contents.specs.Contents.{NoInit, FieldContent}
use Rattle.pi_contents.specs.Named.{field_content}
use Rattle.pi_contents.specs.Asked.{same_field, field_is_listed}
use Rattle.pi_saidkeeps.proofs.Lists.{distinct_like, distinct-map}
use Rattle.pi_saidkeeps.proofs.Spelled.{IsRead, type_read}
use Rattle.pi_saidkeeps.proofs.Apart.{string_once, type_once}
use Rattle.pi_saidkeeps.proofs.Rising.{field_once}

-- a field without what it is set to is that of its row
abbrev plain : FieldContent → FieldContent
plain f = record f { init = NoInit }

abbrev row_field : (NameNo → List ℕ) → Named → MemberRow → FieldContent
row_field text n row = field_content text (field_desc n Zero row)

statics_plain : (text : NameNo → List ℕ) (n : Named) (rows : List MemberRow) (values : List EncodedValue)
    → map plain (map (field_content text) (static_fields n rows values)) ≡ map (row_field text n) rows
statics_plain text n [] values = refl
statics_plain text n (row ∷ rows) [] = ap (λ (fs : List FieldContent). row_field text n row ∷ fs) (statics_plain text n rows [])
statics_plain text n (row ∷ rows) (v ∷ values) = ap (λ (fs : List FieldContent). row_field text n row ∷ fs) (statics_plain text n rows values)

instances_plain : (text : NameNo → List ℕ) (n : Named) (rows : List MemberRow)
    → map plain (map (field_content text) (map (field_desc n Zero) rows)) ≡ map (row_field text n) rows
instances_plain text n [] = refl
instances_plain text n (row ∷ rows) = ap (λ (fs : List FieldContent). row_field text n row ∷ fs) (instances_plain text n rows)

fields_plain : (text : NameNo → List ℕ) (n : Named) (i : ℕ)
    → map plain (map (field_content text) (fields_said n i)) ≡ map (row_field text n) ((rows_of n.file i).statics ++ (rows_of n.file i).instances)
fields_plain text n i =
    let rows = rows_of n.file i in
    let statics = static_fields n rows.statics (values_in (class_values n.file i)) in
    let instances = map (field_desc n Zero) rows.instances in
    rw (
      map-append (field_content text) statics instances,
      map-append plain (map (field_content text) statics) (map (field_content text) instances),
      statics_plain text n rows.statics (values_in (class_values n.file i)),
      instances_plain text n rows.instances,
    )
    (sym (map-append (row_field text n) rows.statics rows.instances))

-- two rows of one class are of two fields
one_field : (text : NameNo → List ℕ) (n : Named) → IsRead text n → (class : ℕ) (a b : MemberRow) → is_field_of n.file class a.id ≡ true → is_field_of n.file class b.id ≡ true
    → same_field (row_field text n a) (row_field text n b) ≡ true → a.id ≡ b.id
one_field text n read class a b own_a own_b h =
    let file = n.file in
    let e = member_entry file field_ids a.id in
    let f = member_entry file field_ids b.id in
    let here = and_parts (nat_lt a.id (count_at file field_ids)) (e.class == class) own_a in
    let there = and_parts (nat_lt b.id (count_at file field_ids)) (f.class == class) own_b in
    let lt = ltb-true a.id (count_at file field_ids) here.0 in
    let less = ltb-true b.id (count_at file field_ids) there.0 in
    let fits = field_kept file a.id read.tables.fields lt in
    let kept = field_kept file b.id read.tables.fields less in
    let parts = and_parts (same_text (text (string_name n e.name)) (text (string_name n f.name))) (same_text (text (type_name n e.kind)) (text (type_name n f.kind))) h in
    field_once file read.tables a.id b.id lt less (record {
      class = eqb-true e.class class here.1 ∙ sym (eqb-true f.class class there.1);
      name = string_once file read.tables e.name f.name fits.name kept.name (rw (read.each e.name fits.name, read.each f.name kept.name) at parts.0);
      kind = type_once file read.tables e.kind f.kind fits.kind kept.kind (rw (type_read text n read e.kind fits.kind, type_read text n read f.kind kept.kind) at parts.1);
    })

fields_differ : (text : NameNo → List ℕ) (n : Named) → IsRead text n → (class : ℕ) (a b : MemberRow) → is_field_of n.file class a.id ≡ true → is_field_of n.file class b.id ≡ true
    → same_id a b ≡ false → same_field (row_field text n a) (row_field text n b) ≡ false
fields_differ text n read class a b own_a own_b other =
    false_from_ne_true (same_field (row_field text n a) (row_field text n b))
    (λ h. let k = eq-eqb a.id b.id (one_field text n read class a b own_a own_b h) in cc)

pub fields_distinct : (text : NameNo → List ℕ) (n : Named) → IsRead text n → (i : ℕ) → all_distinct same_field (map (field_content text) (fields_said n i)) ≡ true
fields_distinct text n read i =
    let class = (class_entry n.file i).class in
    let rows = (rows_of n.file i).statics ++ (rows_of n.file i).instances in
    let fields = map (field_content text) (fields_said n i) in
    let fit = rows_fit n.file i in
    sym (distinct-map same_field plain fields)
    ∙ (ap (all_distinct same_field) (fields_plain text n i)
    ∙ (distinct-map same_field (row_field text n) rows
    ∙ distinct_like (λ (row : MemberRow). is_field_of n.file class row.id) same_id (λ a b. same_field (row_field text n a) (row_field text n b))
    (fields_differ text n read class) rows fit.own_fields fit.fields))

-- and each is listed as its flags say
static_listed : (file : List ℕ) (o : Owner) (row : MemberRow) → row_holds file o StaticFields row ≡ true → (is_static row.flags || not o.interface) ≡ true
static_listed file o row h = or_left (is_static row.flags) (not o.interface) ((and_parts (is_field_of file o.class row.id) (is_static row.flags) h).1)

instance_listed : (file : List ℕ) (o : Owner) (row : MemberRow) → row_holds file o InstanceFields row ≡ true → (is_static row.flags || not o.interface) ≡ true
instance_listed file o row h =
    let a = and_parts (is_field_of file o.class row.id) (not (is_static row.flags) && not o.interface) h in
    or_right (is_static row.flags) (not o.interface) ((and_parts (not (is_static row.flags)) (not o.interface) a.1).1)

pub fields_listed : (text : NameNo → List ℕ) (n : Named) (i : ℕ) → list_all (field_is_listed (owner n.file i).interface) (map (field_content text) (fields_said n i)) ≡ true
fields_listed text n i =
    let o = owner n.file i in
    let rows = rows_of n.file i in
    let fit = rows_fit n.file i in
    let listed : MemberRow → Bool = λ row. is_static row.flags || not o.interface in
    sym (list_all-map (field_is_listed o.interface) plain (map (field_content text) (fields_said n i)))
    ∙ (ap (list_all (field_is_listed o.interface)) (fields_plain text n i)
    ∙ (list_all-map (field_is_listed o.interface) (row_field text n) (rows.statics ++ rows.instances)
    ∙ append_all listed rows.statics rows.instances
    (all_more (row_holds n.file o StaticFields) listed (static_listed n.file o) rows.statics fit.statics)
    (all_more (row_holds n.file o InstanceFields) listed (instance_listed n.file o) rows.instances fit.instances)))
