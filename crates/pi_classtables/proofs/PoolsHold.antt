-- That pools are whole and in order: all that their things are made of is in them, and each of them rises.
use Rattle.std.proofs.Common.{List, [], ◌∷◌}
use Rattle.std.specs.List.{All}
use Rattle.std.specs.List.Sorted.{IsStrictlySortedBy}
use Rattle.std.proofs.lemmas.List.Elements.{All-nil, All-cons, All-weaker}
use Rattle.pi_contents.specs.Contents.{Naming, NoName, OfText, OfType, OfField, OfMethod}
use Rattle.pi_contents.specs.Naming.{types_in, protos_in, fields_in, methods_in, types_named, protos_named, fields_named, methods_named, texts_named}
use Rattle.pi_classtables.specs.Sorted.{text_order}
use Rattle.pi_classtables.specs.Numbers.{Pools, pools_of, proto_order, field_order, method_order}
use Rattle.pi_classtables.proofs.Orders.{text_exact, proto_exact, field_exact, method_exact}
use Rattle.pi_classtables.proofs.Sortings.{all_sorted, sorted_rises}
use Rattle.pi_classtables.proofs.Joined.{all_from_pieces}
use Rattle.pi_classtables.proofs.Held.{HoldsType, HoldsProto, HoldsField, HoldsMethod, HoldsNaming, all_held}

pub record PoolsRise (p : Pools) : Type 0 where
  pub strings : IsStrictlySortedBy text_order p.strings
  pub types : IsStrictlySortedBy text_order p.types
  pub protos : IsStrictlySortedBy proto_order p.protos
  pub fields : IsStrictlySortedBy field_order p.fields
  pub methods : IsStrictlySortedBy method_order p.methods

pub pools_rise : (ns : List Naming) → PoolsRise (pools_of ns)
unfolding pools_of
pools_rise ns = record {
  strings = sorted_rises text_exact (texts_named ns);
  types = sorted_rises text_exact (types_named ns);
  protos = sorted_rises proto_exact (protos_named ns);
  fields = sorted_rises field_exact (fields_named ns);
  methods = sorted_rises method_exact (methods_named ns);
}

pub record PoolsHold (p : Pools) : Type 0 where
  pub types : All (HoldsType p) p.types
  pub protos : All (HoldsProto p) p.protos
  pub fields : All (HoldsField p) p.fields
  pub methods : All (HoldsMethod p) p.methods

-- what a name is about is held with it
module _ (p : Pools) where
  types_held : (n : Naming) → HoldsNaming p n → All (HoldsType p) (types_in n)
  types_held NoName h = All-nil (HoldsType p)
  types_held (OfText s) h = All-nil (HoldsType p)
  types_held (OfType u) h = All-cons (HoldsType p) u [] h (All-nil (HoldsType p))
  types_held (OfField f) h = All-cons (HoldsType p) f.class (f.ty ∷ []) h.class (All-cons (HoldsType p) f.ty [] h.ty (All-nil (HoldsType p)))
  types_held (OfMethod m) h =
      All-cons (HoldsType p) m.class (m.proto.ret ∷ m.proto.params) h.class (All-cons (HoldsType p) m.proto.ret m.proto.params h.proto.ret h.proto.params)

  protos_held : (n : Naming) → HoldsNaming p n → All (HoldsProto p) (protos_in n)
  protos_held NoName h = All-nil (HoldsProto p)
  protos_held (OfText s) h = All-nil (HoldsProto p)
  protos_held (OfType u) h = All-nil (HoldsProto p)
  protos_held (OfField f) h = All-nil (HoldsProto p)
  protos_held (OfMethod m) h = All-cons (HoldsProto p) m.proto [] h.proto (All-nil (HoldsProto p))

  fields_held : (n : Naming) → HoldsNaming p n → All (HoldsField p) (fields_in n)
  fields_held NoName h = All-nil (HoldsField p)
  fields_held (OfText s) h = All-nil (HoldsField p)
  fields_held (OfType u) h = All-nil (HoldsField p)
  fields_held (OfField f) h = All-cons (HoldsField p) f [] h (All-nil (HoldsField p))
  fields_held (OfMethod m) h = All-nil (HoldsField p)

  methods_held : (n : Naming) → HoldsNaming p n → All (HoldsMethod p) (methods_in n)
  methods_held NoName h = All-nil (HoldsMethod p)
  methods_held (OfText s) h = All-nil (HoldsMethod p)
  methods_held (OfType u) h = All-nil (HoldsMethod p)
  methods_held (OfField f) h = All-nil (HoldsMethod p)
  methods_held (OfMethod m) h = All-cons (HoldsMethod p) m [] h (All-nil (HoldsMethod p))

pub pools_hold : (ns : List Naming) → PoolsHold (pools_of ns)
unfolding pools_of
pools_hold ns =
    let p = pools_of ns in
    let all = all_held ns in
    record {
      types = all_sorted text_order (HoldsType p) (types_named ns) (all_from_pieces (HoldsType p) types_in ns (All-weaker (HoldsNaming p) (λ n. All (HoldsType p) (types_in n)) (types_held p) ns all));
      protos = all_sorted proto_order (HoldsProto p) (protos_named ns) (all_from_pieces (HoldsProto p) protos_in ns (All-weaker (HoldsNaming p) (λ n. All (HoldsProto p) (protos_in n)) (protos_held p) ns all));
      fields = all_sorted field_order (HoldsField p) (fields_named ns) (all_from_pieces (HoldsField p) fields_in ns (All-weaker (HoldsNaming p) (λ n. All (HoldsField p) (fields_in n)) (fields_held p) ns all));
      methods = all_sorted method_order (HoldsMethod p) (methods_named ns) (all_from_pieces (HoldsMethod p) methods_in ns (All-weaker (HoldsNaming p) (λ n. All (HoldsMethod p) (methods_in n)) (methods_held p) ns all));
    }
