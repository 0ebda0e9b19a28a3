-- That the numbering of what is gathered is in order and holds all of it.
use Rattle.std.proofs.Common.{ℕ, ◌<◌, [], length, subst, arith}
use Rattle.std.specs.List.{All}
use Rattle.std.proofs.lemmas.List.{get_or-map, length-map}
use Rattle.std.proofs.lemmas.List.Elements.{All-map, All-weaker}
use Rattle.pi_contents.specs.Contents.{FieldName, Prototype, MethodName}
use Rattle.pi_contents.specs.Naming.{short_form}
use Rattle.pi_classtables.specs.Numbers.{type_no, proto_no, field_no, method_no}
use Rattle.pi_classtables.proofs.Orders.{text_exact, proto_exact, field_exact, method_exact}
use Rattle.pi_classtables.proofs.Sortings.{sorted_rises, all_placed_sorted}
use Rattle.pi_classtables.proofs.PoolsHold.{PoolsRise}
use Rattle.pi_classtables.proofs.Held.{HoldsText, HoldsType, HoldsProto, HoldsField, HoldsMethod}
use Rattle.pi_dexpools.specs.declared.gathered.Gathered.{Gathered}
use Rattle.pi_dexpools.specs.declared.gathered.MemberParts.{MemberParts}
use Rattle.pi_dexpools.specs.declared.gathered.ProtoParts.{ProtoParts}
use Rattle.pi_dexpools.specs.Ranked.{text_at, type_at, no_proto, proto_of, proto_at, field_of, method_of, contents, sorted_pools, numbering, ProtoIsWhole, FieldIsWhole, MethodIsWhole, AreWhole}

pub numbering_rises : (g : Gathered) → PoolsRise (numbering g)
unfolding sorted_pools
numbering_rises g = record {
  strings = sorted_rises text_exact (contents g).strings;
  types = sorted_rises text_exact (contents g).types;
  protos = sorted_rises proto_exact (contents g).protos;
  fields = sorted_rises field_exact (contents g).fields;
  methods = sorted_rises method_exact (contents g).methods;
}

module _ (g : Gathered) where
  pub texts_hold : All (HoldsText (numbering g)) g.texts
  unfolding sorted_pools
  texts_hold k d lt = record { number = all_placed_sorted text_exact g.texts k d lt }

  pub types_numbered : All (λ u. type_no (numbering g) u < length (numbering g).types) (contents g).types
  unfolding sorted_pools
  types_numbered = all_placed_sorted text_exact (contents g).types

  pub protos_numbered : All (λ q. proto_no (numbering g) q < length (numbering g).protos) (contents g).protos
  unfolding sorted_pools
  protos_numbered = all_placed_sorted proto_exact (contents g).protos

  fields_numbered : All (λ f. field_no (numbering g) f < length (numbering g).fields) (contents g).fields
  unfolding sorted_pools
  fields_numbered = all_placed_sorted field_exact (contents g).fields

  methods_numbered : All (λ m. method_no (numbering g) m < length (numbering g).methods) (contents g).methods
  unfolding sorted_pools
  methods_numbered = all_placed_sorted method_exact (contents g).methods

  -- what stands at a place is held
  text_holds : (k : ℕ) → k < length g.texts → HoldsText (numbering g) (text_at g k)
  text_holds k lt = texts_hold k [] lt

  module _ (whole : AreWhole g) where
    types_text : All (HoldsText (numbering g)) (contents g).types
    types_text = All-map (HoldsText (numbering g)) (text_at g) g.types
        (All-weaker (λ k. k < length g.texts) (λ k. HoldsText (numbering g) (text_at g k)) text_holds g.types whole.types)

    pub types_hold : All (HoldsType (numbering g)) (contents g).types
    types_hold k d lt = record { number = types_numbered k d lt; text = types_text k d lt }

    type_holds : (k : ℕ) → k < length g.types → HoldsType (numbering g) (type_at g k)
    type_holds k lt =
        let within : k < length (contents g).types = omega (arith, length-map g.types (text_at g)) in
        subst (HoldsType (numbering g)) (get_or-map (text_at g) g.types k 0 [] lt) (types_hold k [] within)

    ProtoPartsHold : Prototype → Type 0
    ProtoPartsHold q = HoldsText (numbering g) (short_form q) × HoldsType (numbering g) q.ret × All (HoldsType (numbering g)) q.params

    proto_parts_hold : (q : ProtoParts) → ProtoIsWhole g q → ProtoPartsHold (proto_of g q)
    unfolding ProtoPartsHold
    proto_parts_hold q w = (
      subst (HoldsText (numbering g)) w.form (text_holds q.short w.short),
      type_holds q.ret w.ret,
      All-map (HoldsType (numbering g)) (type_at g) q.params
          (All-weaker (λ k. k < length g.types) (λ k. HoldsType (numbering g) (type_at g k)) type_holds q.params w.params),
    )

    pub protos_hold : All (HoldsProto (numbering g)) (contents g).protos
    unfolding ProtoPartsHold
    protos_hold k d lt =
        let parts = All-map ProtoPartsHold (proto_of g) g.protos (All-weaker (ProtoIsWhole g) (λ q. ProtoPartsHold (proto_of g q)) proto_parts_hold g.protos whole.protos) k d lt in
        record { number = protos_numbered k d lt; short = parts.0; ret = parts.1; params = parts.2 }

    proto_holds : (k : ℕ) → k < length g.protos → HoldsProto (numbering g) (proto_at g k)
    proto_holds k lt =
        let within : k < length (contents g).protos = omega (arith, length-map g.protos (proto_of g)) in
        subst (HoldsProto (numbering g)) (get_or-map (proto_of g) g.protos k no_proto (proto_of g no_proto) lt) (protos_hold k (proto_of g no_proto) within)

    FieldPartsHold : FieldName → Type 0
    FieldPartsHold f = HoldsType (numbering g) f.class × HoldsText (numbering g) f.name × HoldsType (numbering g) f.ty

    field_parts_hold : (f : MemberParts) → FieldIsWhole g f → FieldPartsHold (field_of g f)
    unfolding FieldPartsHold
    field_parts_hold f w = (type_holds f.class w.class, text_holds f.name w.name, type_holds f.kind w.kind)

    pub fields_hold : All (HoldsField (numbering g)) (contents g).fields
    unfolding FieldPartsHold
    fields_hold k d lt =
        let parts = All-map FieldPartsHold (field_of g) g.fields (All-weaker (FieldIsWhole g) (λ f. FieldPartsHold (field_of g f)) field_parts_hold g.fields whole.fields) k d lt in
        record { number = fields_numbered k d lt; class = parts.0; name = parts.1; ty = parts.2 }

    MethodPartsHold : MethodName → Type 0
    MethodPartsHold m = HoldsType (numbering g) m.class × HoldsText (numbering g) m.name × HoldsProto (numbering g) m.proto

    method_parts_hold : (m : MemberParts) → MethodIsWhole g m → MethodPartsHold (method_of g m)
    unfolding MethodPartsHold
    method_parts_hold m w = (type_holds m.class w.class, text_holds m.name w.name, proto_holds m.kind w.kind)

    pub methods_hold : All (HoldsMethod (numbering g)) (contents g).methods
    unfolding MethodPartsHold
    methods_hold k d lt =
        let parts = All-map MethodPartsHold (method_of g) g.methods (All-weaker (MethodIsWhole g) (λ m. MethodPartsHold (method_of g m)) method_parts_hold g.methods whole.methods) k d lt in
        record { number = methods_numbered k d lt; class = parts.0; name = parts.1; proto = parts.2 }
