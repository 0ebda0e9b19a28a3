-- The members that classes list: in one class they are distinct and its own, and so there are no more than the file has.
use Rattle.std.proofs.Common.{◌≡◌, ℕ, zero, suc, ◌+◌, ◌<◌, ◌≤◌, ◌&&◌, List, [], ◌∷◌, ◌++◌, length, map, Bool, true, false, Option, Some, None, refl, subst, arith, length-append}
use Rattle.std.specs.Prelude.{◌==◌, nat_lt, nat_eq, sum_by, if◌then◌else◌}
use Rattle.std.specs.List.{list_all, list_any}
use Rattle.std.proofs.lemmas.Bool.{and_parts, and_from, or_from, or_parts}
use Rattle.std.proofs.lemmas.Bool.Decides.{nat_tests}
use Rattle.std.proofs.lemmas.List.{length-map}
use Rattle.pi_bytes.specs.Place.{Place}
use Rattle.pi_model.specs.declared.describe.Init.TheVariants.{Zero}
use Rattle.pi_model.specs.Distinct.{all_distinct}
use Rattle.pi_model.specs.Program.{field_count, method_count}
use Rattle.pi_model.proofs.Kept.{all_more}
use Rattle.pi_insn.proofs.Steps.{bind_some}
use Rattle.pi_format.specs.Tables.{count_at, field_ids, method_ids, class_defs}
use Rattle.pi_format.specs.declared.lists.MemberList.{MemberList}
use Rattle.pi_format.specs.declared.lists.MemberList.TheVariants.{StaticFields, InstanceFields, DirectMethods, VirtualMethods}
use Rattle.pi_format.specs.Rules.Entries.{some_from}
use Rattle.pi_format.specs.Rules.Lowest.{tabulation}
use Rattle.pi_format.specs.Rules.Rows.{MemberRow, is_behind, member_row, rows_from}
use Rattle.pi_format.specs.Rules.Members.{member_entry}
use Rattle.pi_format.specs.Rules.Classes.{class_entry, is_defined_in, broken_classes}
use Rattle.pi_format.specs.Rules.ClassData.{Owner, owner, ClassRows, no_rows, row_counts, row_holds, is_field_of, is_method_of, are_apart, rows_of_list, rows_at, class_data_at, class_rows, rows_in, rows_of, methods_in}
use Rattle.pi_format.specs.Rules.Values.{EncodedValue, class_values}
use Rattle.pi_format.specs.Says.Names.{Named}
use Rattle.pi_format.specs.Says.Classes.{field_desc, static_fields, values_in, method_desc, class_desc, classes_said}
use Rattle.pi_format.proofs.Held.{class_kept}
use Rattle.pi_said.proofs.Lists.{distinct_from, distinct-append, append_all, listed_distinct}
use Rattle.pi_said.proofs.Counts.{few_distinct, owned, few_owned, sum-listed_le}

-- two rows are of one member
abbrev pub same_id : MemberRow → MemberRow → Bool
same_id x y = x.id == y.id

pub some_is : {A : Type 0} {x y : A} → Some x ≡ Some y → x ≡ y
some_is e = cc

pub tested : {A : Type 0} (b : Bool) (m : Option A) (y : A) → (if b then m else None) ≡ Some y → (b ≡ true) × (m ≡ Some y)
tested true m y e = (refl, e)
tested false m y e = cc

-- rows that were read one behind the other hold, and are distinct
record RowsFollow (holds : MemberRow → Bool) (before : Option ℕ) (rows : List MemberRow) : Type 0 where
  behind : list_all (λ row. is_behind before row.id) rows ≡ true
  hold : list_all holds rows ≡ true
  distinct : all_distinct same_id rows ≡ true

further : (before : Option ℕ) (a b : ℕ) → is_behind before a ≡ true → nat_lt a b ≡ true → is_behind before b ≡ true
further None a b f g = refl
further (Some x) a b f g = grind (arith, nat_tests)

differs : (a b : ℕ) → nat_lt a b ≡ true → (a == b) ≡ false
differs a b h = grind (arith, nat_tests)

none_same : (x : MemberRow) (rows : List MemberRow) → list_all (λ row. nat_lt x.id row.id) rows ≡ true → list_any (same_id x) rows ≡ false
none_same x [] h = refl
none_same x (y ∷ ys) h =
    let parts = and_parts (nat_lt x.id y.id) (list_all (λ row. nat_lt x.id row.id) ys) h in
    or_from (same_id x y) (list_any (same_id x) ys) (differs x.id y.id parts.0) (none_same x ys parts.1)

rows_follow : (holds : MemberRow → Bool) (list : MemberList) (n : ℕ) (before : Option ℕ) (p : Place) (r : List MemberRow × Place)
    → rows_from holds list n before p ≡ Some r → RowsFollow holds before r.0
rows_follow holds list zero before p r e =
    subst (λ (q : List MemberRow × Place). RowsFollow holds before q.0) (some_is e) (record { behind = refl; hold = refl; distinct = refl })
rows_follow holds list (suc n) before p r e =
    let read = bind_some (member_row list before p) _ r e in
    let first : MemberRow = read.0.0 in
    let test = tested (is_behind before first.id && holds first) _ r read.1.1 in
    let here = and_parts (is_behind before first.id) (holds first) test.0 in
    let more = bind_some (rows_from holds list n (Some first.id) read.0.1) _ r test.1 in
    let rest = rows_follow holds list n (Some first.id) read.0.1 more.0 more.1.0 in
    subst (λ (q : List MemberRow × Place). RowsFollow holds before q.0) (some_is more.1.1) (record {
      behind = and_from (is_behind before first.id) (list_all (λ row. is_behind before row.id) more.0.0) here.0
          (all_more (λ (row : MemberRow). nat_lt first.id row.id) (λ (row : MemberRow). is_behind before row.id) (λ row. further before first.id row.id here.0) more.0.0 rest.behind);
      hold = and_from (holds first) (list_all holds more.0.0) here.1 rest.hold;
      distinct = distinct_from same_id first more.0.0 (none_same first more.0.0 rest.behind) rest.distinct;
    })

-- the rows of a class are members of their own, each once, and each holds what its list asks
pub record RowsFit (file : List ℕ) (o : Owner) (rows : ClassRows) : Type 0 where
  pub fields : all_distinct same_id (rows.statics ++ rows.instances) ≡ true
  pub own_fields : list_all (λ row. is_field_of file o.class row.id) (rows.statics ++ rows.instances) ≡ true
  pub methods : all_distinct same_id (methods_in rows) ≡ true
  pub own_methods : list_all (λ row. is_method_of file o.class row.id) (methods_in rows) ≡ true
  pub statics : list_all (row_holds file o StaticFields) rows.statics ≡ true
  pub instances : list_all (row_holds file o InstanceFields) rows.instances ≡ true
  pub directs : list_all (row_holds file o DirectMethods) rows.directs ≡ true
  pub virtuals : list_all (row_holds file o VirtualMethods) rows.virtuals ≡ true

own_static : (file : List ℕ) (o : Owner) (row : MemberRow) → row_holds file o StaticFields row ≡ true → is_field_of file o.class row.id ≡ true
own_static file o row h = (and_parts (is_field_of file o.class row.id) _ h).0

own_instance : (file : List ℕ) (o : Owner) (row : MemberRow) → row_holds file o InstanceFields row ≡ true → is_field_of file o.class row.id ≡ true
own_instance file o row h = (and_parts (is_field_of file o.class row.id) _ h).0

own_direct : (file : List ℕ) (o : Owner) (row : MemberRow) → row_holds file o DirectMethods row ≡ true → is_method_of file o.class row.id ≡ true
own_direct file o row h = (and_parts (is_method_of file o.class row.id) _ h).0

own_virtual : (file : List ℕ) (o : Owner) (row : MemberRow) → row_holds file o VirtualMethods row ≡ true → is_method_of file o.class row.id ≡ true
own_virtual file o row h = (and_parts (is_method_of file o.class row.id) _ h).0

rows_at_fit : (file : List ℕ) (o : Owner) (p : Place) (rows : ClassRows) → rows_at file o p ≡ Some rows → RowsFit file o rows
unfolding rows_at
rows_at_fit file o p rows e =
    let counts = bind_some (row_counts p) _ rows e in
    let statics = bind_some (rows_of_list file o StaticFields counts.0.0.statics counts.0.1) _ rows counts.1.1 in
    let instances = bind_some (rows_of_list file o InstanceFields counts.0.0.instances statics.0.1) _ rows statics.1.1 in
    let directs = bind_some (rows_of_list file o DirectMethods counts.0.0.directs instances.0.1) _ rows instances.1.1 in
    let virtuals = bind_some (rows_of_list file o VirtualMethods counts.0.0.virtuals directs.0.1) _ rows directs.1.1 in
    let test = tested (are_apart statics.0.0 instances.0.0 && are_apart directs.0.0 virtuals.0.0) _ rows virtuals.1.1 in
    let apart = and_parts (are_apart statics.0.0 instances.0.0) (are_apart directs.0.0 virtuals.0.0) test.0 in
    let s = rows_follow (row_holds file o StaticFields) StaticFields counts.0.0.statics None counts.0.1 statics.0 statics.1.0 in
    let i = rows_follow (row_holds file o InstanceFields) InstanceFields counts.0.0.instances None statics.0.1 instances.0 instances.1.0 in
    let d = rows_follow (row_holds file o DirectMethods) DirectMethods counts.0.0.directs None instances.0.1 directs.0 directs.1.0 in
    let v = rows_follow (row_holds file o VirtualMethods) VirtualMethods counts.0.0.virtuals None directs.0.1 virtuals.0 virtuals.1.0 in
    let field : MemberRow → Bool = λ row. is_field_of file o.class row.id in
    let method : MemberRow → Bool = λ row. is_method_of file o.class row.id in
    subst (RowsFit file o) (some_is test.1) (record {
      fields = distinct-append same_id statics.0.0 instances.0.0 s.distinct i.distinct apart.0;
      own_fields = append_all field statics.0.0 instances.0.0
          (all_more (row_holds file o StaticFields) field (own_static file o) statics.0.0 s.hold)
          (all_more (row_holds file o InstanceFields) field (own_instance file o) instances.0.0 i.hold);
      methods = distinct-append same_id directs.0.0 virtuals.0.0 d.distinct v.distinct apart.1;
      own_methods = append_all method directs.0.0 virtuals.0.0
          (all_more (row_holds file o DirectMethods) method (own_direct file o) directs.0.0 d.hold)
          (all_more (row_holds file o VirtualMethods) method (own_virtual file o) virtuals.0.0 v.hold);
      statics = s.hold;
      instances = i.hold;
      directs = d.hold;
      virtuals = v.hold;
    })

none_fit : (file : List ℕ) (o : Owner) → RowsFit file o no_rows
none_fit file o = record {
  fields = refl;
  own_fields = refl;
  methods = refl;
  own_methods = refl;
  statics = refl;
  instances = refl;
  directs = refl;
  virtuals = refl;
}

class_rows_fit : (file : List ℕ) (i : ℕ) (rows : ClassRows) → class_rows file i ≡ Some rows → RowsFit file (owner file i) rows
unfolding class_rows
class_rows_fit file i rows e = by_test (class_data_at file i == 0) e
  where
    by_test : (b : Bool) → (if b then Some no_rows else rows_at file (owner file i) (record { bytes = file; at = class_data_at file i })) ≡ Some rows
        → RowsFit file (owner file i) rows
    by_test true e = subst (RowsFit file (owner file i)) (some_is e) (none_fit file (owner file i))
    by_test false e = rows_at_fit file (owner file i) (record { bytes = file; at = class_data_at file i }) rows e

pub rows_fit : (file : List ℕ) (i : ℕ) → RowsFit file (owner file i) (rows_of file i)
rows_fit file i = by_rows (class_rows file i) refl
  where
    by_rows : (r : Option ClassRows) → class_rows file i ≡ r → RowsFit file (owner file i) (rows_in r)
    by_rows None e = none_fit file (owner file i)
    by_rows (Some rows) e = class_rows_fit file i rows e

-- no two definitions are of one class
none_from : (test : ℕ → Bool) (i n : ℕ) → some_from test i n ≡ false → (k : ℕ) → k < n → test (i + k) ≡ false
none_from test i zero none k lt = absurd (omega arith)
none_from test i (suc n) none zero lt =
    let place : i ≡ i + 0 = omega arith in
    subst (λ (j : ℕ). test j ≡ false) place ((or_parts (test i) (some_from test (i + 1) n) none).0)
none_from test i (suc n) none (suc k) lt =
    let place : i + 1 + k ≡ i + suc k = omega arith in
    subst (λ (j : ℕ). test j ≡ false) place (none_from test (i + 1) n ((or_parts (test i) (some_from test (i + 1) n) none).1) k (omega arith))

not_before : (file : List ℕ) (k t : ℕ) → is_defined_in file k t ≡ false → (j : ℕ) → j < k → ((class_entry file j).class == t) ≡ false
unfolding is_defined_in
not_before file k t none j lt =
    let place : 0 + j ≡ j = omega arith in
    subst (λ (i : ℕ). ((class_entry file i).class == t) ≡ false) place (none_from (λ i. (class_entry file i).class == t) 0 k none j lt)

classes_distinct : (file : List ℕ) → broken_classes file ≡ None → all_distinct nat_eq (tabulation (λ i. (class_entry file i).class) 0 (count_at file class_defs)) ≡ true
classes_distinct file none =
    listed_distinct nat_eq (λ i. (class_entry file i).class) 0 (count_at file class_defs)
    (λ j k less lt. not_before file k (class_entry file k).class (class_kept file k none (omega arith)).new j less)

-- a class has as many fields and methods as rows
length-static_fields : (n : Named) (rows : List MemberRow) (values : List EncodedValue) → length (static_fields n rows values) ≡ length rows
length-static_fields n [] values = refl
length-static_fields n (row ∷ rows) [] = omega (arith, length-static_fields n rows [])
length-static_fields n (row ∷ rows) (v ∷ values) = omega (arith, length-static_fields n rows values)

abbrev field_class : List ℕ → ℕ → ℕ
field_class file k = (member_entry file field_ids k).class

abbrev method_class : List ℕ → ℕ → ℕ
method_class file k = (member_entry file method_ids k).class

class_fields : (n : Named) (number i : ℕ) → field_count (class_desc n number i) ≤ owned (field_class n.file) (count_at n.file field_ids) (class_entry n.file i).class
unfolding class_desc
class_fields n number i =
    let rows = rows_of n.file i in
    let fit = rows_fit n.file i in
    let class = (class_entry n.file i).class in
    let few : length (rows.statics ++ rows.instances) ≤ owned (field_class n.file) (count_at n.file field_ids) class =
    few_distinct (λ (row : MemberRow). row.id) (count_at n.file field_ids) (λ k. field_class n.file k == class) (rows.statics ++ rows.instances) fit.fields fit.own_fields in
    let all = length-append (static_fields n rows.statics (values_in (class_values n.file i))) (map (field_desc n Zero) rows.instances) in
    let images : length (map (field_desc n Zero) rows.instances) ≡ length rows.instances = length-map rows.instances (field_desc n Zero) in
    omega (arith, all, length-append rows.statics rows.instances, length-static_fields n rows.statics (values_in (class_values n.file i)))

class_methods : (n : Named) (number i : ℕ) → method_count (class_desc n number i) ≤ owned (method_class n.file) (count_at n.file method_ids) (class_entry n.file i).class
unfolding class_desc
class_methods n number i =
    let rows = methods_in (rows_of n.file i) in
    let fit = rows_fit n.file i in
    let class = (class_entry n.file i).class in
    let few : length rows ≤ owned (method_class n.file) (count_at n.file method_ids) class =
    few_distinct (λ (row : MemberRow). row.id) (count_at n.file method_ids) (λ k. method_class n.file k == class) rows fit.methods fit.own_methods in
    let images : length (map (method_desc n) rows) ≡ length rows = length-map rows (method_desc n) in
    omega arith

-- all classes of a file together have no more fields and methods than its tables
pub few_fields : (n : Named) (number : ℕ) → broken_classes n.file ≡ None → sum_by field_count (classes_said n number) ≤ count_at n.file field_ids
few_fields n number none =
    let classes = tabulation (λ i. (class_entry n.file i).class) 0 (count_at n.file class_defs) in
    let each = sum-listed_le field_count (owned (field_class n.file) (count_at n.file field_ids)) (class_desc n number) (λ i. (class_entry n.file i).class) 0 (count_at n.file class_defs)
    (λ k lt. class_fields n number k) in
    omega (arith, few_owned (field_class n.file) (count_at n.file field_ids) classes (classes_distinct n.file none))

pub few_methods : (n : Named) (number : ℕ) → broken_classes n.file ≡ None → sum_by method_count (classes_said n number) ≤ count_at n.file method_ids
few_methods n number none =
    let classes = tabulation (λ i. (class_entry n.file i).class) 0 (count_at n.file class_defs) in
    let each = sum-listed_le method_count (owned (method_class n.file) (count_at n.file method_ids)) (class_desc n number) (λ i. (class_entry n.file i).class) 0 (count_at n.file class_defs)
    (λ k lt. class_methods n number k) in
    omega (arith, few_owned (method_class n.file) (count_at n.file method_ids) classes (classes_distinct n.file none))
