-- The row that the parts make is that of the tables.
use Rattle.std.proofs.Common.{◌≡◌, ℕ, ◌≤◌, true, nat_le, List, length, map, Option, Some, None, IsTrue, option_map, refl, sym, ap, ◌∙◌, arith}
use Rattle.std.specs.List.{All, Contains}
use Rattle.std.proofs.lemmas.Bool.{and_parts}
use Rattle.std.proofs.lemmas.Bool.Decides.{nat_tests}
use Rattle.std.proofs.lemmas.List.Elements.{All-contains, All-filter}
use Rattle.std.specs.Prelude.{not}
use Rattle.pi_insn.specs.Chain.{◌>>=◌}
use Rattle.pi_model.specs.declared.describe.ClassDesc.{ClassDesc}
use Rattle.pi_model.specs.declared.describe.FieldDesc.{FieldDesc}
use Rattle.pi_model.specs.declared.describe.MethodDesc.{MethodDesc}
use Rattle.pi_model.specs.declared.numbers.NameNo.{NameNo}
use Rattle.pi_dextables.specs.declared.tables.Class.{Class}
use Rattle.pi_dextables.specs.declared.tables.MethodRow.{MethodRow}
use Rattle.pi_contents.specs.Asked.{is_direct}
use Rattle.pi_contents.specs.Named.{class_content}
use Rattle.pi_contents.specs.Naming.{named_by_class, named_by}
use Rattle.pi_classtables.specs.Numbers.{Pools, index_of, type_no}
use Rattle.pi_classtables.specs.Sorted.{arranged}
use Rattle.pi_classtables.specs.Values.{values_of}
use Rattle.pi_classtables.specs.Whole.{Added, Method, added_methods, statics_of, instances_of, field_row, directs_of, virtuals_of, method_rank, method_row, for_each, class_row, classes_added, is_counted, pools_for}
use Rattle.pi_classtables.proofs.PoolsHold.{PoolsRise, pools_rise}
use Rattle.pi_classlaws.proofs.MembersHold.{all_added}
use Rattle.pi_classlaws.proofs.NamingsFiled.{MethodHeld, ClassHeld, all_classes_held}
use Rattle.pi_dexrows.specs.declared.field_lists.FieldLists.{FieldLists}
use Rattle.pi_dexrows.specs.declared.head.Head.{Head}
use Rattle.pi_dexrows.specs.declared.rows.MethodLists.{MethodLists}
use Rattle.pi_dexrows.specs.Taken.{behind_fields}
use Rattle.pi_dexrows.specs.declared.fields.FieldPart.{FieldPart}
use Rattle.pi_dexrows.specs.Parts.{field_numbers, parts_of, statics_among, instances_among, set_values, rows_of}
use Rattle.pi_dexrows.specs.Lists.{field_lists}
use Rattle.pi_dexrows.specs.Rows.{method_numbers, methods_of, method_lists, directs_among, virtuals_among, by_method_id, arranged_lists}
use Rattle.pi_dexrows.specs.Heads.{head_of, behind_head, row_of}
use Rattle.pi_dexrows.proofs.Ranks.{methods_alike}
use Rattle.pi_dexrows.proofs.EachArranged.{each_arranged}
use Rattle.pi_dexrows.proofs.FieldRows.{parts_are, static_values, static_rows, instance_rows}
use Rattle.pi_dexrows.proofs.ClassNumbers.{fields_passed, members_found, class_found, superclass_found, faces_found}

abbrev sort : List MethodRow → List MethodRow
sort rows = arranged by_method_id rows

-- what is made of both lists is made of them arranged
both_arranged : (make : List MethodRow → List MethodRow → Class) (u v : Option (List MethodRow))
    → (option_map sort u >>= (λ ds. option_map sort v >>= (λ vs. Some (make ds vs))))
    ≡ option_map (λ (l : MethodLists). make l.directs l.virtuals) (option_map arranged_lists (u >>= (λ ds. v >>= (λ vs. Some (record { directs = ds; virtuals = vs })))))
both_arranged make None v = refl
both_arranged make (Some ds) None = refl
both_arranged make (Some ds) (Some vs) = refl

module _ (p : Pools) (rise : PoolsRise p) (e : Added) (held : ClassHeld p e.class) where
  abbrev row : Method → Option MethodRow
  row = method_row p e.class.name

  abbrev Held : Method → Type 0
  Held m = MethodHeld p e.class.name m.content

  all_methods : All Held (added_methods e)
  all_methods = all_added (MethodHeld p e.class.name) e held.methods

  pub directs_are : for_each row (directs_of e) ≡ option_map sort (for_each row (directs_among (added_methods e)))
  directs_are =
      each_arranged row method_rank by_method_id (directs_among (added_methods e))
      (methods_alike p rise e.class.name (directs_among (added_methods e)) (All-filter (λ (m : Method). is_direct m.content) Held (added_methods e) all_methods))

  pub virtuals_are : for_each row (virtuals_of e) ≡ option_map sort (for_each row (virtuals_among (added_methods e)))
  virtuals_are =
      each_arranged row method_rank by_method_id (virtuals_among (added_methods e))
      (methods_alike p rise e.class.name (virtuals_among (added_methods e)) (All-filter (λ (m : Method). not (is_direct m.content)) Held (added_methods e) all_methods))

module _ (p : Pools) (rise : PoolsRise p) (text : NameNo → List ℕ) (d : ClassDesc) (sparse : List (List ℕ)) (ns : List ℕ) where
  abbrev e : Added
  e = record { class = class_content text d; sparse = sparse }

  module _ (held : ClassHeld p e.class) (are : ns ≡ map (index_of p) (named_by_class e.class)) where
    abbrev class : List ℕ
    class = text d.name

    abbrev parts : List FieldPart
    parts = parts_of p text class d.fields

    abbrev made : List MethodRow → List MethodRow → Class
    made ds vs = row_of d.flags (head_of d ns) (field_lists parts) (record { directs = ds; virtuals = vs })

    abbrev wanted : List MethodRow → List MethodRow → Class
    wanted ds vs = record {
      class = type_no p class;
      flags = d.flags;
      parent = option_map (type_no p) e.class.parent;
      faces = map (type_no p) e.class.faces;
      values = values_of p (statics_of e.class);
      statics = map (field_row p class) (statics_of e.class);
      instances = map (field_row p class) (instances_of e.class);
      directs = ds;
      virtuals = vs;
    }

    values_same : set_values (statics_among parts) ≡ values_of p (statics_of e.class)
    values_same = ap (λ (ps : List FieldPart). set_values (statics_among ps)) (parts_are p class text d.fields) ∙ static_values p class rise e.class held.fields

    statics_same : rows_of (statics_among parts) ≡ map (field_row p class) (statics_of e.class)
    statics_same = ap (λ (ps : List FieldPart). rows_of (statics_among ps)) (parts_are p class text d.fields) ∙ static_rows p class rise e.class held.fields

    instances_same : rows_of (instances_among parts) ≡ map (field_row p class) (instances_of e.class)
    instances_same = ap (λ (ps : List FieldPart). rows_of (instances_among ps)) (parts_are p class text d.fields) ∙ instance_rows p class rise e.class held.fields

    rows_same : (ds vs : List MethodRow) → wanted ds vs ≡ made ds vs
    rows_same ds vs = λ i. record {
      class = sym (class_found p text d ns are) i;
      flags = d.flags;
      parent = sym (superclass_found p text d ns are) i;
      faces = sym (faces_found p text d ns are) i;
      values = sym values_same i;
      statics = sym statics_same i;
      instances = sym instances_same i;
      directs = ds;
      virtuals = vs;
    }

    pub row_is : class_row p e ≡ option_map (row_of d.flags (head_of d ns) (field_lists parts)) (option_map arranged_lists (method_lists (method_row p class) (methods_of text d.methods sparse)))
    unfolding class_row
    row_is =
        (λ i. directs_are p rise e held i >>= (λ ds. virtuals_are p rise e held i >>= (λ vs. Some (rows_same ds vs i))))
        ∙ both_arranged made (for_each (method_row p class) (directs_among (added_methods e))) (for_each (method_row p class) (virtuals_among (added_methods e)))

-- for the pools of classes among which the class is
pub held_in : (es : List Added) (e : Added) → Contains es e → ClassHeld (pools_for es) e.class
held_in es e here = All-contains (λ (x : Added). ClassHeld (pools_for es) x.class) es e (all_classes_held es) here

pub rise_for : (es : List Added) → PoolsRise (pools_for es)
rise_for es = pools_rise (named_by (classes_added es))

few_types : (p : Pools) → is_counted p ≡ true → length p.types ≤ 65535
few_types p counted =
    let test : nat_le (length p.types) 65535 ≡ true = (and_parts (nat_le (length p.types) 65535) (nat_le (length p.protos) 65535) counted).0 in
    grind (arith, nat_tests)

-- what the lists of fields and of methods are, by the numbers of what these name
abbrev pub FieldsSay : (NameNo → List ℕ) → List ℕ → FieldLists → List FieldDesc → Type 0
FieldsSay text members fields fs = (p : Pools) (class rest : List ℕ) → members ≡ field_numbers p text class fs rest → fields ≡ field_lists (parts_of p text class fs)

abbrev pub ListsSay : (NameNo → List ℕ) → List ℕ → List (List ℕ) → Option MethodLists → List MethodDesc → Type 0
ListsSay text left sparse lists ms = (p : Pools) (class : List ℕ) → length p.types ≤ 65535 → left ≡ method_numbers p text class ms
    → lists ≡ option_map arranged_lists (method_lists (method_row p class) (methods_of text ms sparse))

-- so the parts by their numbers make its row
pub row_made : (text : NameNo → List ℕ) (d : ClassDesc) (sparse : List (List ℕ)) (ns members left : List ℕ) (head : Head) (fields : FieldLists) (lists : Option MethodLists)
    → head ≡ head_of d ns → members ≡ behind_head d ns → left ≡ behind_fields d.fields members
    → FieldsSay text members fields d.fields → ListsSay text left sparse lists d.methods
    → (es : List Added) → Contains es (record { class = class_content text d; sparse = sparse }) → IsTrue (is_counted (pools_for es))
    → ns ≡ map (index_of (pools_for es)) (named_by_class (class_content text d))
    → option_map (row_of d.flags head fields) lists ≡ class_row (pools_for es) (record { class = class_content text d; sparse = sparse })
row_made text d sparse ns members left head fields lists first behind after fields_say lists_say es here counted are =
    let p : Pools = pools_for es in
    let class : List ℕ = text d.name in
    let others : List ℕ = method_numbers p text class d.methods in
    let own : members ≡ field_numbers p text class d.fields others = behind ∙ members_found p text d ns are in
    let rest : left ≡ others = after ∙ ap (behind_fields d.fields) own ∙ fields_passed p text class d.fields others in
    let fs = fields_say p class others own in
    let ls = lists_say p class (few_types p counted) rest in
    (λ i. option_map (row_of d.flags (first i) (fs i)) (ls i))
    ∙ sym (row_is p (rise_for es) text d sparse ns (held_in es (record { class = class_content text d; sparse = sparse }) here) are)
