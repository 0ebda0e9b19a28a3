-- That the entries of things in pools in order compare as the things do.
use Rattle.std.proofs.Common.{◌≡◌}
use Rattle.std.specs.Ordering.{ordering_then}
use Rattle.pi_contents.specs.Contents.{FieldName, Prototype, MethodName}
use Rattle.pi_tablesaid.specs.Closed.{proto_cmp, member_cmp}
use Rattle.pi_classtables.specs.Numbers.{Pools, proto_order, field_order, method_order, proto_entry, field_entry, method_entry}
use Rattle.pi_classtables.proofs.Held.{HoldsProto, HoldsField, HoldsMethod}
use Rattle.pi_classtables.proofs.PoolsHold.{PoolsRise}
use Rattle.pi_classtables.proofs.Compared.{texts_compare, types_compare, protos_compare, params_compare}

module _ (p : Pools) (rise : PoolsRise p) where
  pub proto_entries_compare : (q r : Prototype) → HoldsProto p q → HoldsProto p r → proto_cmp (proto_entry p q) (proto_entry p r) ≡ proto_order q r
  proto_entries_compare q r g h =
      λ i. ordering_then (types_compare p rise q.ret r.ret g.ret h.ret i) (params_compare p rise q.params r.params g.params h.params i)

  pub field_entries_compare : (e f : FieldName) → HoldsField p e → HoldsField p f → member_cmp (field_entry p e) (field_entry p f) ≡ field_order e f
  field_entries_compare e f g h =
      λ i. ordering_then (types_compare p rise e.class f.class g.class h.class i)
      (ordering_then (texts_compare p rise e.name f.name g.name h.name i) (types_compare p rise e.ty f.ty g.ty h.ty i))

  pub method_entries_compare : (m n : MethodName) → HoldsMethod p m → HoldsMethod p n → member_cmp (method_entry p m) (method_entry p n) ≡ method_order m n
  method_entries_compare m n g h =
      λ i. ordering_then (types_compare p rise m.class n.class g.class h.class i)
      (ordering_then (texts_compare p rise m.name n.name g.name h.name i) (protos_compare p rise m.proto n.proto g.proto h.proto i))
