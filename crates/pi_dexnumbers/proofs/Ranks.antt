-- The numbers at places, and that rows of them rise as the things do.
use Rattle.std.proofs.Common.{◌≡◌, ℕ, ◌<◌, List, [], ◌∷◌, map, length, Ordering, Less, Equal, Greater, nat_cmp, refl, sym, ap, ◌∙◌, arith}
use Rattle.std.specs.Ordering.{ordering_then}
use Rattle.std.proofs.lemmas.List.{get_or-map, length-map}
use Rattle.pi_contents.specs.Contents.{FieldName, Prototype, MethodName}
use Rattle.pi_contents.specs.Naming.{short_form}
use Rattle.pi_classtables.specs.Sorted.{text_order}
use Rattle.pi_classtables.specs.Numbers.{Pools, string_no, type_no, proto_no, proto_order, field_order, method_order}
use Rattle.pi_classtables.proofs.Orders.{text_exact, proto_exact, equal_from_same}
use Rattle.pi_classtables.proofs.PoolsHold.{PoolsRise}
use Rattle.pi_classtables.proofs.Held.{HoldsText, HoldsProto, HoldsField, HoldsMethod}
use Rattle.pi_classtables.proofs.Compared.{texts_compare, types_compare, protos_compare, params_compare}
use Rattle.pi_dexpools.specs.declared.gathered.Gathered.{Gathered}
use Rattle.pi_dexpools.specs.Ranked.{text_at, type_at, no_proto, proto_of, proto_at, contents, numbering}
use Rattle.pi_dexnumbers.specs.Rows.{rank_at}

module _ (g : Gathered) where
  abbrev pub text_ranks : List ℕ
  text_ranks = map (string_no (numbering g)) g.texts

  abbrev pub type_ranks : List ℕ
  type_ranks = map (type_no (numbering g)) (contents g).types

  abbrev pub proto_ranks : List ℕ
  proto_ranks = map (proto_no (numbering g)) (contents g).protos

  pub text_rank : (k : ℕ) → k < length g.texts → rank_at text_ranks k ≡ string_no (numbering g) (text_at g k)
  text_rank k lt = get_or-map (string_no (numbering g)) g.texts k [] 0 lt

  pub type_rank : (k : ℕ) → k < length g.types → rank_at type_ranks k ≡ type_no (numbering g) (type_at g k)
  type_rank k lt =
      let within : k < length (contents g).types = omega (arith, length-map g.types (text_at g)) in
      get_or-map (type_no (numbering g)) (contents g).types k [] 0 within ∙ ap (type_no (numbering g)) (get_or-map (text_at g) g.types k 0 [] lt)

  pub proto_rank : (k : ℕ) → k < length g.protos → rank_at proto_ranks k ≡ proto_no (numbering g) (proto_at g k)
  proto_rank k lt =
      let within : k < length (contents g).protos = omega (arith, length-map g.protos (proto_of g)) in
      get_or-map (proto_no (numbering g)) (contents g).protos k (proto_of g no_proto) 0 within
      ∙ ap (proto_no (numbering g)) (get_or-map (proto_of g) g.protos k no_proto (proto_of g no_proto) lt)

-- the last number of a row decides where those before it are level, and the first where it tells all things apart
last_decides : (r : Ordering) → ordering_then r Equal ≡ r
last_decides Less = refl
last_decides Equal = refl
last_decides Greater = refl

first_decides : (r rest : Ordering) → (r ≡ Equal → rest ≡ Equal) → ordering_then r rest ≡ r
first_decides Less rest level = refl
first_decides Equal rest level = level refl
first_decides Greater rest level = refl

module _ (p : Pools) where
  abbrev pub type_image : List ℕ → List ℕ
  type_image u = string_no p u ∷ []

  abbrev pub proto_image : Prototype → List ℕ
  proto_image q = type_no p q.ret ∷ map (type_no p) q.params

  abbrev pub line_image : Prototype → List ℕ
  line_image q = proto_no p q ∷ string_no p (short_form q) ∷ proto_image q

  abbrev pub field_image : FieldName → List ℕ
  field_image f = type_no p f.class ∷ string_no p f.name ∷ type_no p f.ty ∷ []

  abbrev pub method_image : MethodName → List ℕ
  method_image m = type_no p m.class ∷ string_no p m.name ∷ proto_no p m.proto ∷ []

module _ (p : Pools) (rise : PoolsRise p) where
  pub type_images_rise : (u v : List ℕ) → HoldsText p u → HoldsText p v → text_order (type_image p u) (type_image p v) ≡ text_order u v
  type_images_rise u v h k = last_decides (nat_cmp (string_no p u) (string_no p v)) ∙ texts_compare p rise u v h k

  pub proto_images_rise : (q r : Prototype) → HoldsProto p q → HoldsProto p r → text_order (proto_image p q) (proto_image p r) ≡ proto_order q r
  proto_images_rise q r h k =
      λ i. ordering_then (types_compare p rise q.ret r.ret h.ret k.ret i) (params_compare p rise q.params r.params h.params k.params i)

  pub line_images_rise : (q r : Prototype) → HoldsProto p q → HoldsProto p r → text_order (line_image p q) (line_image p r) ≡ proto_order q r
  line_images_rise q r h k =
      let numbers = protos_compare p rise q r h k in
      let rest : Prototype → List ℕ = λ s. string_no p (short_form s) ∷ proto_image p s in
      first_decides (nat_cmp (proto_no p q) (proto_no p r)) (text_order (rest q) (rest r))
      (λ level. equal_from_same text_exact (rest q) (rest r) (ap rest (proto_exact.same q r (sym numbers ∙ level))))
      ∙ numbers

  pub field_images_rise : (e f : FieldName) → HoldsField p e → HoldsField p f → text_order (field_image p e) (field_image p f) ≡ field_order e f
  field_images_rise e f h k =
      let last = last_decides (nat_cmp (type_no p e.ty) (type_no p f.ty)) ∙ types_compare p rise e.ty f.ty h.ty k.ty in
      λ i. ordering_then (types_compare p rise e.class f.class h.class k.class i)
      (ordering_then (texts_compare p rise e.name f.name h.name k.name i) (last i))

  pub method_images_rise : (m n : MethodName) → HoldsMethod p m → HoldsMethod p n → text_order (method_image p m) (method_image p n) ≡ method_order m n
  method_images_rise m n h k =
      let last = last_decides (nat_cmp (proto_no p m.proto) (proto_no p n.proto)) ∙ protos_compare p rise m.proto n.proto h.proto k.proto in
      λ i. ordering_then (types_compare p rise m.class n.class h.class k.class i)
      (ordering_then (texts_compare p rise m.name n.name h.name k.name i) (last i))
