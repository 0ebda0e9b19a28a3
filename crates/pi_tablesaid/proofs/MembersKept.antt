-- Members that fit make a file keep X18: their ids do not fall, and no two are the same, so that they rise.
use Rattle.std.proofs.Common.{◌≡◌, ℕ, List, ◌++◌, map, Bool, true, Some, None, option_map, refl, sym, ap, ap₂, ◌∙◌, subst, arith}
use Rattle.std.specs.Prelude.{◌&&◌, nat_eq, is_some, slice_get, IsTrue}
use Rattle.std.specs.List.{list_all}
use Rattle.std.specs.List.Sorted.{IsNonDecreasing}
use Rattle.std.proofs.lemmas.Bool.{and_parts}
use Rattle.std.proofs.lemmas.List.{map-append}
use Rattle.std.proofs.lemmas.List.Folds.{list_all-append}
use Rattle.std.proofs.lemmas.Option.{slice_get-map}
use Rattle.std.proofs.lemmas.Simd.{map-map}
use Rattle.pi_model.specs.Distinct.{all_distinct}
use Rattle.pi_model.specs.Flags.{is_interface}
use Rattle.pi_format.specs.declared.lists.MemberList.TheVariants.{StaticFields, InstanceFields, DirectMethods, VirtualMethods}
use Rattle.pi_format.specs.Tables.{count_at, class_defs}
use Rattle.pi_format.specs.Rules.Header.{unless}
use Rattle.pi_format.specs.Rules.Rows.{MemberRow}
use Rattle.pi_format.specs.Rules.ClassData.{ClassRows, Owner, owner, row_holds, are_apart, class_data_at, class_rows, broken_class_data}
use Rattle.pi_dextables.specs.declared.tables.Class.{Class}
use Rattle.pi_dextables.specs.declared.tables.FieldRow.{FieldRow}
use Rattle.pi_dextables.specs.declared.tables.MethodRow.{MethodRow}
use Rattle.pi_dextables.specs.declared.tables.Tables.{Tables}
use Rattle.pi_dextables.specs.Rows.{field_row}
use Rattle.pi_dextables.specs.Said.{ids_rise, rows_hold, ClassSaid, IsSaid}
use Rattle.pi_dextables.specs.Writable.{ClassFits, IsWritable}
use Rattle.pi_dextables.proofs.Each.{all_got}
use Rattle.pi_contents.specs.Contents.{FieldContent, MethodContent, NoInit}
use Rattle.pi_contents.specs.Asked.{same_field, field_is_listed, same_method, method_is_listed, members_fit}
use Rattle.pi_tablesaid.specs.Content.{field_said, statics_said, method_said, class_said, content_of}
use Rattle.pi_tablesaid.specs.Closed.{ClassCloses, IsClosed}
use Rattle.pi_tablesaid.proofs.ClassesKept.{there}
use Rattle.pi_tablesaid.proofs.EachCode.{none_from}
use Rattle.pi_tablesaid.proofs.ValuesKept.{unless_holds, held_some, passed_at}
use Rattle.pi_tablesaid.proofs.RowsApart.{row_ids, Split, distinct_split, rows_apart, rows_rise}
use Rattle.pi_tablesaid.proofs.FieldsListed.{field_ids_distinct, statics_hold, instances_hold}
use Rattle.pi_tablesaid.proofs.MethodsListed.{directs_hold, virtuals_hold, method_ids_distinct, method_ids_said}

-- two lists of rows of distinct members, in each of which the ids do not fall
record Ordered (xs ys : List MemberRow) : Type 0 where
  first : IsNonDecreasing (row_ids xs)
  second : IsNonDecreasing (row_ids ys)
  distinct : all_distinct nat_eq (row_ids xs ++ row_ids ys) ≡ true

-- the ids rise in both lists, and the lists stand apart
record Rising (xs ys : List MemberRow) : Type 0 where
  first : ids_rise None xs ≡ true
  second : ids_rise None ys ≡ true
  apart : are_apart xs ys ≡ true

lists_rising : (xs ys : List MemberRow) → Ordered xs ys → Rising xs ys
lists_rising xs ys order =
    let parts : Split nat_eq (row_ids xs) (row_ids ys) = distinct_split nat_eq (row_ids xs) (row_ids ys) order.distinct in
    record {
      first = rows_rise xs order.first parts.left;
      second = rows_rise ys order.second parts.right;
      apart = rows_apart xs ys parts.apart;
    }

-- what holds of the rows of a class, list by list
record ListsHold (file : List ℕ) (o : Owner) (rows : ClassRows) : Type 0 where
  fields : Ordered rows.statics rows.instances
  methods : Ordered rows.directs rows.virtuals
  statics : list_all (row_holds file o StaticFields) rows.statics ≡ true
  instances : list_all (row_holds file o InstanceFields) rows.instances ≡ true
  directs : list_all (row_holds file o DirectMethods) rows.directs ≡ true
  virtuals : list_all (row_holds file o VirtualMethods) rows.virtuals ≡ true

lists_hold : (file : List ℕ) (o : Owner) (rows : ClassRows) → ListsHold file o rows → rows_hold file o rows ≡ true
unfolding rows_hold
lists_hold file o rows lists =
    let fields : Rising rows.statics rows.instances = lists_rising rows.statics rows.instances lists.fields in
    let methods : Rising rows.directs rows.virtuals = lists_rising rows.directs rows.virtuals lists.methods in
    rw (fields.first, fields.second, methods.first, methods.second, lists.statics, lists.instances, lists.directs, lists.virtuals, fields.apart, methods.apart) refl

-- the class that lists the members of a class of the tables
abbrev owner_of : Class → Owner
owner_of c = record { class = c.class; interface = is_interface c.flags }

owner_said : (file : List ℕ) (k : ℕ) (c : Class) → ClassSaid file k c → owner file k ≡ owner_of c
owner_said file k c said = ap₂ made said.class said.flags
  where
    made : ℕ → ℕ → Owner
    made class flags = record { class = class; interface = is_interface flags }

-- the ids of the rows of fields
field_ids_said : (rows : List MemberRow) (fs : List FieldRow) → rows ≡ map field_row fs → row_ids rows ≡ map (λ (f : FieldRow). f.id) fs
field_ids_said rows fs e = ap row_ids e ∙ map-map (λ (row : MemberRow). row.id) field_row fs

-- two lists of rows, by the ids that they have
ordered_as : (xs ys : List MemberRow) (is js : List ℕ) → row_ids xs ≡ is → row_ids ys ≡ js → IsNonDecreasing is → IsNonDecreasing js
    → all_distinct nat_eq (is ++ js) ≡ true → Ordered xs ys
ordered_as xs ys is js e f first second distinct = record {
  first = subst IsNonDecreasing (sym e) first;
  second = subst IsNonDecreasing (sym f) second;
  distinct = rw (e, f) distinct;
}

fields_ordered : (file : List ℕ) (t : Tables) (k : ℕ) (c : Class) (said : ClassSaid file k c) → ClassFits c
    → all_distinct same_field (statics_said t c.statics c.values ++ map (field_said t NoInit) c.instances) ≡ true
    → Ordered said.rows.statics said.rows.instances
fields_ordered file t k c said fits distinct =
    ordered_as said.rows.statics said.rows.instances (map (λ (f : FieldRow). f.id) c.statics) (map (λ (f : FieldRow). f.id) c.instances)
    (field_ids_said said.rows.statics c.statics said.statics) (field_ids_said said.rows.instances c.instances said.instances)
    fits.statics_rise fits.instances_rise
    (rw map-append at (field_ids_distinct t c.statics c.instances c.values distinct))

methods_ordered : (file : List ℕ) (t : Tables) (k : ℕ) (c : Class) (said : ClassSaid file k c) → ClassFits c
    → all_distinct same_method (map (method_said t) (c.directs ++ c.virtuals)) ≡ true → Ordered said.rows.directs said.rows.virtuals
methods_ordered file t k c said fits distinct =
    ordered_as said.rows.directs said.rows.virtuals (map (λ (m : MethodRow). m.id) c.directs) (map (λ (m : MethodRow). m.id) c.virtuals)
    (method_ids_said file said.rows.directs c.directs said.directs) (method_ids_said file said.rows.virtuals c.virtuals said.virtuals)
    fits.directs_rise fits.virtuals_rise
    (rw map-append at (method_ids_distinct t (c.directs ++ c.virtuals) distinct))

-- what is asked of the members of a class, list by list
record MembersFit (t : Tables) (c : Class) : Type 0 where
  fields : all_distinct same_field (statics_said t c.statics c.values ++ map (field_said t NoInit) c.instances) ≡ true
  methods : all_distinct same_method (map (method_said t) (c.directs ++ c.virtuals)) ≡ true
  instances : list_all (field_is_listed (is_interface c.flags)) (map (field_said t NoInit) c.instances) ≡ true
  directs : list_all (method_is_listed (is_interface c.flags)) (map (method_said t) c.directs) ≡ true
  virtuals : list_all (method_is_listed (is_interface c.flags)) (map (method_said t) c.virtuals) ≡ true

members_parts : (t : Tables) (c : Class) → members_fit (class_said t c) ≡ true → MembersFit t c
unfolding class_said
members_parts t c fit =
    let field_test : FieldContent → Bool = field_is_listed (is_interface c.flags) in
    let method_test : MethodContent → Bool = method_is_listed (is_interface c.flags) in
    let statics : List FieldContent = statics_said t c.statics c.values in
    let instances : List FieldContent = map (field_said t NoInit) c.instances in
    let directs : List MethodContent = map (method_said t) c.directs in
    let virtuals : List MethodContent = map (method_said t) c.virtuals in
    let methods : List MethodContent = map (method_said t) (c.directs ++ c.virtuals) in
    let both = and_parts (all_distinct same_field (statics ++ instances) && list_all field_test (statics ++ instances)) (all_distinct same_method methods && list_all method_test methods) fit in
    let of_fields = and_parts (all_distinct same_field (statics ++ instances)) (list_all field_test (statics ++ instances)) both.0 in
    let of_methods = and_parts (all_distinct same_method methods) (list_all method_test methods) both.1 in
    let fields = and_parts (list_all field_test statics) (list_all field_test instances) (sym (list_all-append field_test statics instances) ∙ of_fields.1) in
    let parts = and_parts (list_all method_test directs) (list_all method_test virtuals)
    (sym (ap (list_all method_test) (map-append (method_said t) c.directs c.virtuals) ∙ list_all-append method_test directs virtuals) ∙ of_methods.1) in
    record { fields = of_fields.0; methods = of_methods.0; instances = fields.1; directs = parts.0; virtuals = parts.1 }

class_lists : (file : List ℕ) (t : Tables) → IsSaid file t → IsClosed t → (k : ℕ) (c : Class) (said : ClassSaid file k c) → ClassCloses t c → ClassFits c
    → MembersFit t c → ListsHold file (owner_of c) said.rows
class_lists file t all closed k c said closes fits fit = record {
  fields = fields_ordered file t k c said fits fit.fields;
  methods = methods_ordered file t k c said fits fit.methods;
  statics = ap (list_all (row_holds file (owner_of c) StaticFields)) said.statics ∙ statics_hold file t all (owner_of c) c.statics closes.statics;
  instances = ap (list_all (row_holds file (owner_of c) InstanceFields)) said.instances ∙ instances_hold file t all (owner_of c) c.instances closes.instances fit.instances;
  directs = directs_hold file t all closed (owner_of c) said.rows.directs c.directs said.directs closes.directs fit.directs;
  virtuals = virtuals_hold file t all closed (owner_of c) said.rows.virtuals c.virtuals said.virtuals closes.virtuals fit.virtuals;
}

class_rows_there : (file : List ℕ) (t : Tables) → IsSaid file t → IsWritable t → IsClosed t → (k : ℕ) (c : Class) → slice_get t.classes k ≡ Some c
    → members_fit (class_said t c) ≡ true → is_some (class_rows file k) ≡ true
class_rows_there file t all fits closed k c is fit =
    let said : ClassSaid file k c = all.class k c is in
    let lists : ListsHold file (owner_of c) said.rows = class_lists file t all closed k c said
    (all_got (ClassCloses t) t.classes k c closed.classes is) (all_got ClassFits t.classes k c fits.classes is) (members_parts t c fit) in
    held_some (rows_hold file (owner file k) said.rows) said.rows (class_rows file k) said.listed
    (ap (λ (o : Owner). rows_hold file o said.rows) (owner_said file k c said) ∙ lists_hold file (owner_of c) said.rows lists)

-- X18
pub members_kept : (file : List ℕ) (t : Tables) → IsSaid file t → IsWritable t → IsClosed t
    → IsTrue (list_all members_fit (content_of t)) → broken_class_data file ≡ None
members_kept file t said fits closed fit =
    none_from (λ i. unless (is_some (class_rows file i)) (class_data_at file i)) 0 (count_at file class_defs)
    (λ k le lt. by_class k (there t.classes k (omega (arith, lt, said.classes))))
  where
    by_class : (k : ℕ) → (c : Class) × (slice_get t.classes k ≡ Some c) → unless (is_some (class_rows file k)) (class_data_at file k) ≡ None
    by_class k (c, is) =
        let content : slice_get (content_of t) k ≡ Some (class_said t c) = slice_get-map (class_said t) t.classes k ∙ ap (option_map (class_said t)) is in
        unless_holds (is_some (class_rows file k)) (class_data_at file k)
        (class_rows_there file t said fits closed k c is (passed_at members_fit (content_of t) k (class_said t c) fit content))
