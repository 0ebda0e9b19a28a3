-- That the numbers of things in pools in order compare as the things do.
use Rattle.std.proofs.Common.{◌≡◌, ℕ, List, [], ◌∷◌, map, nat_cmp, refl}
use Rattle.std.specs.List.{All}
use Rattle.std.specs.Cmp.Lexicographic.{slice_cmp}
use Rattle.std.specs.Ordering.{ordering_then}
use Rattle.std.proofs.lemmas.List.Elements.{All-head, All-tail}
use Rattle.pi_contents.specs.Contents.{FieldName, Prototype, MethodName}
use Rattle.pi_classtables.specs.Sorted.{text_order, texts_order}
use Rattle.pi_classtables.specs.Numbers.{Pools, string_no, type_no, proto_no, field_no, method_no, proto_order, field_order, method_order}
use Rattle.pi_classtables.proofs.Orders.{text_exact, proto_exact, field_exact, method_exact}
use Rattle.pi_classtables.proofs.Sortings.{places_rise}
use Rattle.pi_classtables.proofs.Held.{HoldsText, HoldsType, HoldsProto, HoldsField, HoldsMethod}
use Rattle.pi_classtables.proofs.PoolsHold.{PoolsRise}

module _ (p : Pools) (rise : PoolsRise p) where
  pub texts_compare : (s t : List ℕ) → HoldsText p s → HoldsText p t → nat_cmp (string_no p s) (string_no p t) ≡ text_order s t
  texts_compare s t g h = places_rise text_exact s t p.strings rise.strings g.number h.number

  pub types_compare : (u v : List ℕ) → HoldsType p u → HoldsType p v → nat_cmp (type_no p u) (type_no p v) ≡ text_order u v
  types_compare u v g h = places_rise text_exact u v p.types rise.types g.number h.number

  pub protos_compare : (q r : Prototype) → HoldsProto p q → HoldsProto p r → nat_cmp (proto_no p q) (proto_no p r) ≡ proto_order q r
  protos_compare q r g h = places_rise proto_exact q r p.protos rise.protos g.number h.number

  pub fields_compare : (e f : FieldName) → HoldsField p e → HoldsField p f → nat_cmp (field_no p e) (field_no p f) ≡ field_order e f
  fields_compare e f g h = places_rise field_exact e f p.fields rise.fields g.number h.number

  pub methods_compare : (m n : MethodName) → HoldsMethod p m → HoldsMethod p n → nat_cmp (method_no p m) (method_no p n) ≡ method_order m n
  methods_compare m n g h = places_rise method_exact m n p.methods rise.methods g.number h.number

  -- parameters by their numbers
  pub params_compare : (us vs : List (List ℕ)) → All (HoldsType p) us → All (HoldsType p) vs
      → slice_cmp nat_cmp (map (type_no p) us) (map (type_no p) vs) ≡ texts_order us vs
  params_compare [] [] g h = refl
  params_compare [] (v ∷ vs) g h = refl
  params_compare (u ∷ us) [] g h = refl
  params_compare (u ∷ us) (v ∷ vs) g h =
      let first = types_compare u v (All-head (HoldsType p) u us g) (All-head (HoldsType p) v vs h) in
      let rest = params_compare us vs (All-tail (HoldsType p) u us g) (All-tail (HoldsType p) v vs h) in
      λ i. ordering_then (first i) (rest i)
