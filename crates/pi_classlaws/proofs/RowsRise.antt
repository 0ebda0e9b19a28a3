-- That the ids of the members of a class do not fall along each of its lists: members of one class rank as their numbers do.
use Rattle.std.proofs.Common.{◌≡◌, ℕ, Bool, List, [], ◌∷◌, map, not, filter, Some, Ordering, nat_cmp, refl, sym, ap, ◌∙◌, subst}
use Rattle.std.specs.List.{All}
use Rattle.std.specs.List.Sorted.{IsNonDecreasing}
use Rattle.std.specs.Ordering.{ordering_then}
use Rattle.std.proofs.lemmas.List.Elements.{All-filter, All-weaker}
use Rattle.pi_model.specs.Flags.{is_static}
use Rattle.pi_dextables.specs.declared.tables.Class.{Class}
use Rattle.pi_dextables.specs.declared.tables.FieldRow.{FieldRow}
use Rattle.pi_dextables.specs.declared.tables.MethodRow.{MethodRow}
use Rattle.pi_dextables.specs.declared.tables.Tables.{Tables}
use Rattle.pi_contents.specs.Contents.{FieldContent}
use Rattle.pi_contents.specs.Naming.{own_field, own_method, named_by}
use Rattle.pi_contents.specs.Asked.{is_direct}
use Rattle.pi_classtables.specs.Sorted.{arranged, text_order}
use Rattle.pi_classtables.specs.Numbers.{Pools, field_no, method_no, field_order, method_order, proto_order}
use Rattle.pi_classtables.specs.Whole.{Added, Method, added_methods, field_rank, method_rank, field_row, method_row, class_row, for_each, classes_added, pools_for, tables_of}
use Rattle.pi_classtables.proofs.Orders.{text_exact, field_exact, method_exact, equal_itself}
use Rattle.pi_classtables.proofs.Sortings.{places_rise}
use Rattle.pi_classtables.proofs.PoolsHold.{PoolsRise, pools_rise}
use Rattle.pi_classlaws.proofs.Known.{HoldsField, HoldsMethod}
use Rattle.pi_classtables.proofs.Parts.{tables_parts}
use Rattle.pi_classlaws.proofs.ArrangedKept.{keys_rise}
use Rattle.pi_classlaws.proofs.MembersHold.{all_added}
use Rattle.pi_classlaws.proofs.NamingsFiled.{FieldHeld, MethodHeld, ClassHeld, all_classes_held}
use Rattle.pi_classlaws.proofs.ClassRows.{MethodRowIs, ClassRowIs, class_row_is, method_rows_beside, map_beside, all_beside, each_given}

-- what a writer of the tables asks of the ids in the four lists
pub record IdsRise (c : Class) : Type 0 where
  pub statics : IsNonDecreasing (map (λ (f : FieldRow). f.id) c.statics)
  pub instances : IsNonDecreasing (map (λ (f : FieldRow). f.id) c.instances)
  pub directs : IsNonDecreasing (map (λ (m : MethodRow). m.id) c.directs)
  pub virtuals : IsNonDecreasing (map (λ (m : MethodRow). m.id) c.virtuals)

module _ (p : Pools) (rise : PoolsRise p) (class : List ℕ) where
  -- members of one class rank as their numbers do
  field_ranks : (f g : FieldContent) → HoldsField p (own_field class f) → HoldsField p (own_field class g)
      → field_rank f g ≡ nat_cmp (field_no p (own_field class f)) (field_no p (own_field class g))
  field_ranks f g left right =
      let own : field_order (own_field class f) (own_field class g) ≡ field_rank f g =
      ap (λ (o : Ordering). ordering_then o (ordering_then (text_order f.name g.name) (text_order f.ty g.ty))) (equal_itself text_exact class) in
      sym (places_rise field_exact (own_field class f) (own_field class g) p.fields rise.fields left.number right.number ∙ own)

  method_ranks : (m n : Method) → HoldsMethod p (own_method class m.content) → HoldsMethod p (own_method class n.content)
      → method_rank m n ≡ nat_cmp (method_no p (own_method class m.content)) (method_no p (own_method class n.content))
  method_ranks m n left right =
      let own : method_order (own_method class m.content) (own_method class n.content) ≡ method_rank m n =
      ap (λ (o : Ordering). ordering_then o (ordering_then (text_order m.content.name n.content.name) (proto_order m.content.proto n.content.proto))) (equal_itself text_exact class) in
      sym (places_rise method_exact (own_method class m.content) (own_method class n.content) p.methods rise.methods left.number right.number ∙ own)

  -- so where they are arranged their numbers do not fall
  field_ids_rise : (fs : List FieldContent) → All (FieldHeld p class) fs
      → IsNonDecreasing (map (λ (f : FieldRow). f.id) (map (field_row p class) (arranged field_rank fs)))
  field_ids_rise fs held =
      let numbers = keys_rise field_rank (λ (f : FieldContent). field_no p (own_field class f)) fs
      (All-weaker (FieldHeld p class) (λ (f : FieldContent). All (λ (g : FieldContent). field_rank f g ≡ nat_cmp (field_no p (own_field class f)) (field_no p (own_field class g))) fs)
      (λ f here. All-weaker (FieldHeld p class) (λ (g : FieldContent). field_rank f g ≡ nat_cmp (field_no p (own_field class f)) (field_no p (own_field class g)))
      (λ g there. field_ranks f g here.field there.field) fs held) fs held) in
      subst IsNonDecreasing (sym (ids (arranged field_rank fs))) numbers
    where
      ids : (gs : List FieldContent) → map (λ (f : FieldRow). f.id) (map (field_row p class) gs) ≡ map (λ (f : FieldContent). field_no p (own_field class f)) gs
      ids [] = refl
      ids (g ∷ gs) = ap (λ (ns : List ℕ). field_no p (own_field class g) ∷ ns) (ids gs)

  method_ids_rise : (ms : List Method) (rs : List MethodRow) → All (λ (m : Method). MethodHeld p class m.content) ms
      → for_each (method_row p class) (arranged method_rank ms) ≡ Some rs → IsNonDecreasing (map (λ (m : MethodRow). m.id) rs)
  method_ids_rise ms rs held e =
      let numbers = keys_rise method_rank (λ (m : Method). method_no p (own_method class m.content)) ms
      (All-weaker (λ (m : Method). MethodHeld p class m.content) (λ (m : Method). All (λ (n : Method). method_rank m n ≡ nat_cmp (method_no p (own_method class m.content)) (method_no p (own_method class n.content))) ms)
      (λ m here. All-weaker (λ (n : Method). MethodHeld p class n.content) (λ (n : Method). method_rank m n ≡ nat_cmp (method_no p (own_method class m.content)) (method_no p (own_method class n.content)))
      (λ n there. method_ranks m n here.method there.method) ms held) ms held) in
      let ids : map (λ (r : MethodRow). r.id) rs ≡ map (λ (m : Method). method_no p (own_method class m.content)) (arranged method_rank ms) =
      map_beside (MethodRowIs p class) (λ (m : Method). method_no p (own_method class m.content)) (λ (r : MethodRow). r.id) (λ m r is. is.id)
      (arranged method_rank ms) rs (method_rows_beside p class (arranged method_rank ms) rs e) in
      subst IsNonDecreasing (sym ids) numbers

-- along each list of a class
pub ids_rise : (p : Pools) → PoolsRise p → (e : Added) (c : Class) → ClassHeld p e.class → class_row p e ≡ Some c → IdsRise c
ids_rise p rise e c held made = rows_rise (class_row_is p e c made)
  where
    class : List ℕ
    class = e.class.name

    fields : List FieldContent
    fields = e.class.fields

    methods : All (λ (m : Method). MethodHeld p class m.content) (added_methods e)
    methods = all_added (MethodHeld p class) e held.methods

    row_field : (rs : List FieldRow) (q : FieldContent → Bool) → rs ≡ map (field_row p class) (arranged field_rank (filter q fields))
        → IsNonDecreasing (map (λ (f : FieldRow). f.id) rs)
    row_field rs q e' =
        subst (λ (zs : List FieldRow). IsNonDecreasing (map (λ (f : FieldRow). f.id) zs)) (sym e')
        (field_ids_rise p rise class (filter q fields) (All-filter q (FieldHeld p class) fields held.fields))

    row_method : (rs : List MethodRow) (q : Method → Bool) → for_each (method_row p class) (arranged method_rank (filter q (added_methods e))) ≡ Some rs
        → IsNonDecreasing (map (λ (m : MethodRow). m.id) rs)
    row_method rs q e' =
        method_ids_rise p rise class (filter q (added_methods e)) rs
        (All-filter q (λ (m : Method). MethodHeld p class m.content) (added_methods e) methods) e'

    rows_rise : ClassRowIs p e c → IdsRise c
    rows_rise is = record {
      statics = row_field c.statics (λ (f : FieldContent). is_static f.flags) is.statics;
      instances = row_field c.instances (λ (f : FieldContent). not (is_static f.flags)) is.instances;
      directs = row_method c.directs (λ (m : Method). is_direct m.content) is.directs;
      virtuals = row_method c.virtuals (λ (m : Method). not (is_direct m.content)) is.virtuals;
    }

-- and so of all classes
pub all_ids_rise : (es : List Added) (classes : List Class) → for_each (class_row (pools_for es)) es ≡ Some classes → All IdsRise classes
all_ids_rise es classes made =
    all_beside (λ e c. class_row (pools_for es) e ≡ Some c) (λ (e : Added). ClassHeld (pools_for es) e.class) IdsRise
    (λ e c is held. ids_rise (pools_for es) (pools_rise (named_by (classes_added es))) e c held is)
    es classes (each_given (class_row (pools_for es)) es classes made) (all_classes_held es)

pub table_ids_rise : (es : List Added) (t : Tables) → tables_of es ≡ Some t → All IdsRise t.classes
table_ids_rise es t e =
    let parts = tables_parts es t e in
    subst (λ (s : Tables). All IdsRise s.classes) (sym parts.2) (all_ids_rise es parts.0 parts.1)
