-- That what is gathered, in rising order, is what is named, and how long it is.
use Rattle.std.proofs.Common.{◌≡◌, ℕ, ◌<◌, List, [], ◌∷◌, length, map, get_or, Ordering, sym, ap, ◌∙◌, subst}
use Rattle.std.specs.List.{All, Contains}
use Rattle.std.proofs.lemmas.List.{get_or-map, length-map}
use Rattle.std.proofs.lemmas.List.Elements.{All-nil, All-cons, All-map, All-weaker}
use Rattle.pi_contents.specs.Contents.{FieldName, Prototype, MethodName, Naming, NoName, OfText, OfType, OfField, OfMethod}
use Rattle.pi_contents.specs.Naming.{short_form, texts_in, types_in, protos_in, fields_in, methods_in, texts_named, types_named, protos_named, fields_named, methods_named}
use Rattle.pi_classtables.specs.Sorted.{sorted, text_order}
use Rattle.pi_classtables.specs.Numbers.{pools_of, proto_order, field_order, method_order}
use Rattle.pi_classtables.proofs.Orders.{IsExactOrder, text_exact, proto_exact, field_exact, method_exact}
use Rattle.pi_classtables.proofs.Sortings.{all_sorted, sorted_rises, contained_sorted, sorted_is}
use Rattle.pi_classtables.proofs.Joined.{all_from_pieces}
use Rattle.pi_dexpools.specs.declared.gathered.Gathered.{Gathered}
use Rattle.pi_dexpools.specs.declared.gathered.MemberParts.{MemberParts}
use Rattle.pi_dexpools.specs.declared.gathered.ProtoParts.{ProtoParts}
use Rattle.pi_dexpools.specs.Gathered.{text_place, type_place, proto_place, field_place, method_place, proto_parts, field_parts, method_parts}
use Rattle.pi_dexpools.specs.Ranked.{text_at, no_proto, proto_of, field_of, method_of, contents, sorted_pools, numbering}
use Rattle.pi_poollaws.proofs.Lists.{place_reads}
use Rattle.pi_poollaws.proofs.Distinct.{AreApart, apart_mapped, length_sorted}
use Rattle.pi_poollaws.proofs.Exact.{texts_exact}
use Rattle.pi_poollaws.proofs.Held.{HasText, HasType, HasProto, HasField, HasMethod, HasNaming}
use Rattle.pi_poollaws.proofs.ReadAgain.{text_within, text_read, type_within, type_read, proto_parts_read, proto_within, proto_read, field_parts_read, field_within, field_read, method_parts_read, method_within, method_read}
use Rattle.pi_poollaws.proofs.Named.{TypeIsNamed, ProtoIsNamed, FieldIsNamed, MethodIsNamed, AreNamed}

-- lists with the same things are one list in rising order
same_sorted : {A : Type 0} {cmp : A → A → Ordering} → IsExactOrder cmp → (xs ys : List A) → All (Contains ys) xs → All (Contains xs) ys → sorted cmp xs ≡ sorted cmp ys
same_sorted {cmp = cmp} o xs ys there here =
    sorted_is o ys (sorted cmp xs) (sorted_rises o xs) (all_sorted cmp (Contains ys) xs there)
    (All-weaker (Contains xs) (Contains (sorted cmp xs)) (contained_sorted o xs) ys here)

-- what is read at a place stands among all that is read
contains_mapped : {A B : Type 0} (f : A → B) (xs : List A) (k : ℕ) (d : A) (y : B) → k < length xs → f (get_or xs k d) ≡ y → Contains (map f xs) y
contains_mapped f xs k d y lt e = (k, rw (length-map xs f) lt, get_or-map f xs k d y lt ∙ e)

module _ (g : Gathered) where
  text_in : (s : List ℕ) → HasText g s → Contains g.texts s
  text_in s has = (text_place g s, text_within g s has, place_reads texts_exact s g.texts s has.here)

  type_in : (t : List ℕ) → HasType g t → Contains (contents g).types t
  type_in t has = contains_mapped (text_at g) g.types (type_place g t) 0 t (type_within g t has) (type_read g t has)

  proto_in : (q : Prototype) → HasProto g q → Contains (contents g).protos q
  proto_in q has = contains_mapped (proto_of g) g.protos (proto_place g q) no_proto q (proto_within g q has) (proto_read g q has)

  field_in : (f : FieldName) → HasField g f → Contains (contents g).fields f
  field_in f has =
      let d : MemberParts = field_parts g f in
      contains_mapped (field_of g) g.fields (field_place g f) d f (field_within g f has) (field_read g f d has)

  method_in : (m : MethodName) → HasMethod g m → Contains (contents g).methods m
  method_in m has =
      let d : MemberParts = method_parts g m in
      contains_mapped (method_of g) g.methods (method_place g m) d m (method_within g m has) (method_read g m d has)

  -- of a naming all is held that it is made of
  type_texts : (ts : List (List ℕ)) → All (HasType g) ts → All (HasText g) ts
  type_texts ts all = All-weaker (HasType g) (HasText g) (λ t has. has.text) ts all

  texts_held : (n : Naming) → HasNaming g n → All (HasText g) (texts_in n)
  texts_held NoName has = All-nil (HasText g)
  texts_held (OfText s) has = All-cons (HasText g) s [] has (All-nil (HasText g))
  texts_held (OfType t) has = All-cons (HasText g) t [] has.text (All-nil (HasText g))
  texts_held (OfField f) has =
      All-cons (HasText g) f.name (f.class ∷ f.ty ∷ []) has.name
      (All-cons (HasText g) f.class (f.ty ∷ []) has.class.text (All-cons (HasText g) f.ty [] has.ty.text (All-nil (HasText g))))
  texts_held (OfMethod m) has =
      All-cons (HasText g) m.name (short_form m.proto ∷ m.class ∷ m.proto.ret ∷ m.proto.params) has.name
      (All-cons (HasText g) (short_form m.proto) (m.class ∷ m.proto.ret ∷ m.proto.params) has.proto.short
      (All-cons (HasText g) m.class (m.proto.ret ∷ m.proto.params) has.class.text
      (All-cons (HasText g) m.proto.ret m.proto.params has.proto.ret.text (type_texts m.proto.params has.proto.params))))

  types_held : (n : Naming) → HasNaming g n → All (HasType g) (types_in n)
  types_held NoName has = All-nil (HasType g)
  types_held (OfText s) has = All-nil (HasType g)
  types_held (OfType t) has = All-cons (HasType g) t [] has (All-nil (HasType g))
  types_held (OfField f) has = All-cons (HasType g) f.class (f.ty ∷ []) has.class (All-cons (HasType g) f.ty [] has.ty (All-nil (HasType g)))
  types_held (OfMethod m) has =
      All-cons (HasType g) m.class (m.proto.ret ∷ m.proto.params) has.class
      (All-cons (HasType g) m.proto.ret m.proto.params has.proto.ret has.proto.params)

  protos_held : (n : Naming) → HasNaming g n → All (HasProto g) (protos_in n)
  protos_held NoName has = All-nil (HasProto g)
  protos_held (OfText s) has = All-nil (HasProto g)
  protos_held (OfType t) has = All-nil (HasProto g)
  protos_held (OfField f) has = All-nil (HasProto g)
  protos_held (OfMethod m) has = All-cons (HasProto g) m.proto [] has.proto (All-nil (HasProto g))

  fields_held : (n : Naming) → HasNaming g n → All (HasField g) (fields_in n)
  fields_held NoName has = All-nil (HasField g)
  fields_held (OfText s) has = All-nil (HasField g)
  fields_held (OfType t) has = All-nil (HasField g)
  fields_held (OfField f) has = All-cons (HasField g) f [] has (All-nil (HasField g))
  fields_held (OfMethod m) has = All-nil (HasField g)

  methods_held : (n : Naming) → HasNaming g n → All (HasMethod g) (methods_in n)
  methods_held NoName has = All-nil (HasMethod g)
  methods_held (OfText s) has = All-nil (HasMethod g)
  methods_held (OfType t) has = All-nil (HasMethod g)
  methods_held (OfField f) has = All-nil (HasMethod g)
  methods_held (OfMethod m) has = All-cons (HasMethod g) m [] has (All-nil (HasMethod g))

-- what is held of each naming stands among the contents
pieces_in : {A : Type 0} (H : A → Type 0) (xs : List A) (f : Naming → List A) (P : Naming → Type 0) → ((x : A) → H x → Contains xs x)
    → ((n : Naming) → P n → All H (f n)) → (ns : List Naming) → All P ns → All (λ n. All (Contains xs) (f n)) ns
pieces_in H xs f P inside held ns all =
    All-weaker P (λ n. All (Contains xs) (f n)) (λ n has. All-weaker H (Contains xs) inside (f n) (held n has)) ns all

-- and what stands there is what is named
module _ (ns : List Naming) (g : Gathered) where
  type_says : (k : ℕ) → TypeIsNamed ns g k → Contains (types_named ns) (text_at g k)
  type_says k e = subst (λ (j : ℕ). Contains (types_named ns) (text_at g j)) e.is
      (subst (λ (t : List ℕ). Contains (types_named ns) t) (sym (text_read g e.text e.has.text)) e.named)

  proto_says : (p : ProtoParts) → ProtoIsNamed ns g p → Contains (protos_named ns) (proto_of g p)
  proto_says p e = subst (λ (r : ProtoParts). Contains (protos_named ns) (proto_of g r)) e.is
      (subst (λ (q : Prototype). Contains (protos_named ns) q) (sym (proto_parts_read g e.proto e.has)) e.named)

  field_says : (p : MemberParts) → FieldIsNamed ns g p → Contains (fields_named ns) (field_of g p)
  field_says p e = subst (λ (r : MemberParts). Contains (fields_named ns) (field_of g r)) e.is
      (subst (λ (f : FieldName). Contains (fields_named ns) f) (sym (field_parts_read g e.field e.has)) e.named)

  method_says : (p : MemberParts) → MethodIsNamed ns g p → Contains (methods_named ns) (method_of g p)
  method_says p e = subst (λ (r : MemberParts). Contains (methods_named ns) (method_of g r)) e.is
      (subst (λ (m : MethodName). Contains (methods_named ns) m) (sym (method_parts_read g e.method e.has)) e.named)

  module _ (are : AreNamed ns g) (has : All (HasNaming g) ns) where
    texts_same : sorted text_order g.texts ≡ sorted text_order (texts_named ns)
    texts_same = same_sorted text_exact g.texts (texts_named ns) are.texts
        (all_from_pieces (Contains g.texts) texts_in ns (pieces_in (HasText g) g.texts texts_in (HasNaming g) (text_in g) (texts_held g) ns has))

    pub types_same : sorted text_order (contents g).types ≡ sorted text_order (types_named ns)
    types_same = same_sorted text_exact (contents g).types (types_named ns)
        (All-map (Contains (types_named ns)) (text_at g) g.types
        (All-weaker (TypeIsNamed ns g) (λ k. Contains (types_named ns) (text_at g k)) type_says g.types are.types))
        (all_from_pieces (Contains (contents g).types) types_in ns
        (pieces_in (HasType g) (contents g).types types_in (HasNaming g) (type_in g) (types_held g) ns has))

    pub protos_same : sorted proto_order (contents g).protos ≡ sorted proto_order (protos_named ns)
    protos_same = same_sorted proto_exact (contents g).protos (protos_named ns)
        (All-map (Contains (protos_named ns)) (proto_of g) g.protos
        (All-weaker (ProtoIsNamed ns g) (λ p. Contains (protos_named ns) (proto_of g p)) proto_says g.protos are.protos))
        (all_from_pieces (Contains (contents g).protos) protos_in ns
        (pieces_in (HasProto g) (contents g).protos protos_in (HasNaming g) (proto_in g) (protos_held g) ns has))

    fields_same : sorted field_order (contents g).fields ≡ sorted field_order (fields_named ns)
    fields_same = same_sorted field_exact (contents g).fields (fields_named ns)
        (All-map (Contains (fields_named ns)) (field_of g) g.fields
        (All-weaker (FieldIsNamed ns g) (λ p. Contains (fields_named ns) (field_of g p)) field_says g.fields are.fields))
        (all_from_pieces (Contains (contents g).fields) fields_in ns
        (pieces_in (HasField g) (contents g).fields fields_in (HasNaming g) (field_in g) (fields_held g) ns has))

    methods_same : sorted method_order (contents g).methods ≡ sorted method_order (methods_named ns)
    methods_same = same_sorted method_exact (contents g).methods (methods_named ns)
        (All-map (Contains (methods_named ns)) (method_of g) g.methods
        (All-weaker (MethodIsNamed ns g) (λ p. Contains (methods_named ns) (method_of g p)) method_says g.methods are.methods))
        (all_from_pieces (Contains (contents g).methods) methods_in ns
        (pieces_in (HasMethod g) (contents g).methods methods_in (HasNaming g) (method_in g) (methods_held g) ns has))

    pub pools_same : numbering g ≡ pools_of ns
    unfolding sorted_pools pools_of
    pools_same = λ i. record {
      strings = texts_same i;
      types = types_same i;
      protos = protos_same i;
      fields = fields_same i;
      methods = methods_same i;
    }

    -- types and prototypes that say the same stand at one place
    types_tell : (j k : ℕ) → TypeIsNamed ns g j → TypeIsNamed ns g k → text_at g j ≡ text_at g k → j ≡ k
    types_tell j k a b e =
        let left : text_at g j ≡ a.text = subst (λ (n : ℕ). text_at g n ≡ a.text) a.is (text_read g a.text a.has.text) in
        let right : text_at g k ≡ b.text = subst (λ (n : ℕ). text_at g n ≡ b.text) b.is (text_read g b.text b.has.text) in
        let same : a.text ≡ b.text = sym left ∙ e ∙ right in
        sym a.is ∙ ap (text_place g) same ∙ b.is

    protos_tell : (p r : ProtoParts) → ProtoIsNamed ns g p → ProtoIsNamed ns g r → proto_of g p ≡ proto_of g r → p ≡ r
    protos_tell p r a b e =
        let left : proto_of g p ≡ a.proto = subst (λ (n : ProtoParts). proto_of g n ≡ a.proto) a.is (proto_parts_read g a.proto a.has) in
        let right : proto_of g r ≡ b.proto = subst (λ (n : ProtoParts). proto_of g n ≡ b.proto) b.is (proto_parts_read g b.proto b.has) in
        let same : a.proto ≡ b.proto = sym left ∙ e ∙ right in
        sym a.is ∙ ap (proto_parts g) same ∙ b.is

    pub types_long : AreApart g.types → length g.types ≡ length (pools_of ns).types
    unfolding pools_of
    types_long apart =
        let different = apart_mapped (text_at g) (TypeIsNamed ns g) types_tell g.types are.types apart in
        sym (length-map g.types (text_at g)) ∙ sym (length_sorted text_exact (contents g).types different) ∙ ap (λ (l : List (List ℕ)). length l) types_same

    pub protos_long : AreApart g.protos → length g.protos ≡ length (pools_of ns).protos
    unfolding pools_of
    protos_long apart =
        let different = apart_mapped (proto_of g) (ProtoIsNamed ns g) protos_tell g.protos are.protos apart in
        sym (length-map g.protos (proto_of g)) ∙ sym (length_sorted proto_exact (contents g).protos different) ∙ ap (λ (l : List Prototype). length l) protos_same
