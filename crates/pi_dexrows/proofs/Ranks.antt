-- Members of one class rank as their numbers do.
use Rattle.std.proofs.Common.{◌≡◌, ℕ, List, Ordering, nat_cmp, sym, ap, ◌∙◌}
use Rattle.std.specs.List.{All}
use Rattle.std.specs.Ordering.{ordering_then}
use Rattle.std.proofs.lemmas.List.Elements.{All-weaker}
use Rattle.pi_contents.specs.Contents.{FieldContent}
use Rattle.pi_contents.specs.Naming.{own_field, own_method}
use Rattle.pi_classtables.specs.Sorted.{text_order}
use Rattle.pi_classtables.specs.Numbers.{Pools, field_no, method_no, field_order, method_order, proto_order}
use Rattle.pi_classtables.specs.Whole.{Method, field_rank, method_rank, method_row}
use Rattle.pi_classtables.proofs.Orders.{text_exact, field_exact, method_exact, equal_itself}
use Rattle.pi_classtables.proofs.Sortings.{places_rise}
use Rattle.pi_classtables.proofs.PoolsHold.{PoolsRise}
use Rattle.pi_classlaws.proofs.Known.{HoldsField, HoldsMethod}
use Rattle.pi_classlaws.proofs.NamingsFiled.{FieldHeld, MethodHeld}
use Rattle.pi_classlaws.proofs.ClassRows.{method_row_is}
use Rattle.pi_dexrows.specs.Parts.{part_of, by_field_id}
use Rattle.pi_dexrows.specs.Rows.{by_method_id}
use Rattle.pi_dexrows.proofs.EachArranged.{RanksAlike}

module _ (p : Pools) (rise : PoolsRise p) (class : List ℕ) where
  field_ranks : (f g : FieldContent) → HoldsField p (own_field class f) → HoldsField p (own_field class g)
      → field_rank f g ≡ nat_cmp (field_no p (own_field class f)) (field_no p (own_field class g))
  field_ranks f g left right =
      let own : field_order (own_field class f) (own_field class g) ≡ field_rank f g =
      ap (λ (o : Ordering). ordering_then o (ordering_then (text_order f.name g.name) (text_order f.ty g.ty))) (equal_itself text_exact class) in
      sym (places_rise field_exact (own_field class f) (own_field class g) p.fields rise.fields left.number right.number ∙ own)

  method_ranks : (m n : Method) → HoldsMethod p (own_method class m.content) → HoldsMethod p (own_method class n.content)
      → method_rank m n ≡ nat_cmp (method_no p (own_method class m.content)) (method_no p (own_method class n.content))
  method_ranks m n left right =
      let own : method_order (own_method class m.content) (own_method class n.content) ≡ method_rank m n =
      ap (λ (o : Ordering). ordering_then o (ordering_then (text_order m.content.name n.content.name) (proto_order m.content.proto n.content.proto))) (equal_itself text_exact class) in
      sym (places_rise method_exact (own_method class m.content) (own_method class n.content) p.methods rise.methods left.number right.number ∙ own)

  abbrev pub FieldsAlike : FieldContent → FieldContent → Type 0
  FieldsAlike f g = by_field_id (part_of p class f) (part_of p class g) ≡ field_rank f g

  pub fields_alike : (fs : List FieldContent) → All (FieldHeld p class) fs → All (λ f. All (FieldsAlike f) fs) fs
  fields_alike fs held =
      All-weaker (FieldHeld p class) (λ f. All (FieldsAlike f) fs)
      (λ f here. All-weaker (FieldHeld p class) (FieldsAlike f) (λ g there. sym (field_ranks f g here.field there.field)) fs held) fs held

  abbrev Held : Method → Type 0
  Held m = MethodHeld p class m.content

  rows_alike : (m n : Method) → Held m → Held n → RanksAlike (method_row p class) method_rank by_method_id m n
  rows_alike m n here there = record {
    alike = λ r s e g.
        let left = method_row_is p class m r e in
        let right = method_row_is p class n s g in
        (λ i. nat_cmp (left.id i) (right.id i)) ∙ sym (method_ranks m n here.method there.method);
  }

  pub methods_alike : (ms : List Method) → All (λ (m : Method). MethodHeld p class m.content) ms
      → All (λ m. All (RanksAlike (method_row p class) method_rank by_method_id m) ms) ms
  methods_alike ms held =
      All-weaker Held (λ m. All (RanksAlike (method_row p class) method_rank by_method_id m) ms)
      (λ m here. All-weaker Held (RanksAlike (method_row p class) method_rank by_method_id m) (λ n there. rows_alike m n here there) ms held) ms held
