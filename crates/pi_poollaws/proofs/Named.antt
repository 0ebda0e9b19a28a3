-- That all that is gathered was named, or is made of what was.
use Rattle.std.proofs.Common.{◌≡◌, ℕ, suc, List, [], ◌∷◌, nat_eq, refl, subst, ◌∙◌, arith}
use Rattle.std.specs.List.{All, Contains}
use Rattle.std.proofs.lemmas.List.Elements.{All-nil, All-head, All-tail, All-weaker, All-contains_itself}
use Rattle.pi_model.specs.Texts.{same_text}
use Rattle.pi_contents.specs.Contents.{FieldName, Prototype, MethodName, Naming, NoName, OfText, OfType, OfField, OfMethod}
use Rattle.pi_contents.specs.Naming.{short_form, texts_in, types_in, protos_in, fields_in, methods_in, texts_named, types_named, protos_named, fields_named, methods_named}
use Rattle.pi_classtables.proofs.Joined.{all_in_pieces}
use Rattle.pi_dexpools.specs.declared.gathered.Gathered.{Gathered}
use Rattle.pi_dexpools.specs.declared.gathered.MemberParts.{MemberParts}
use Rattle.pi_dexpools.specs.declared.gathered.ProtoParts.{ProtoParts}
use Rattle.pi_dexpools.specs.Gathered.{nothing_gathered, with_text, with_type_of_text, with_type, with_types, with_proto_parts, with_proto, with_field_parts, with_field, with_method_parts, with_method, with_naming, gathered, text_place, proto_parts, field_parts, method_parts, same_proto, same_member}
use Rattle.pi_poollaws.proofs.Lists.{all_new}
use Rattle.pi_poollaws.proofs.Grown.{Grows, grows_text, grows_type_of_text, grows_proto_parts, grows_field_parts, grows_method_parts, before_proto, before_field, before_method, proto_is, field_is, method_is}
use Rattle.pi_poollaws.proofs.Held.{HasType, HasProto, HasField, HasMethod, text_stays, proto_parts_stay, field_parts_stay, method_parts_stay, type_kept, proto_kept, field_kept, method_kept}
use Rattle.pi_poollaws.proofs.PutIn.{has_type, has_proto, has_field, has_method}

-- parts that stand in what is gathered are those of a thing that is named and held
pub record TypeIsNamed (ns : List Naming) (g : Gathered) (k : ℕ) : Type 0 where
  pub text : List ℕ
  pub named : Contains (types_named ns) text
  pub has : HasType g text
  pub is : text_place g text ≡ k

pub record ProtoIsNamed (ns : List Naming) (g : Gathered) (p : ProtoParts) : Type 0 where
  pub proto : Prototype
  pub named : Contains (protos_named ns) proto
  pub has : HasProto g proto
  pub is : proto_parts g proto ≡ p

pub record FieldIsNamed (ns : List Naming) (g : Gathered) (p : MemberParts) : Type 0 where
  pub field : FieldName
  pub named : Contains (fields_named ns) field
  pub has : HasField g field
  pub is : field_parts g field ≡ p

pub record MethodIsNamed (ns : List Naming) (g : Gathered) (p : MemberParts) : Type 0 where
  pub method : MethodName
  pub named : Contains (methods_named ns) method
  pub has : HasMethod g method
  pub is : method_parts g method ≡ p

pub record AreNamed (ns : List Naming) (g : Gathered) : Type 0 where
  pub texts : All (Contains (texts_named ns)) g.texts
  pub types : All (TypeIsNamed ns g) g.types
  pub protos : All (ProtoIsNamed ns g) g.protos
  pub fields : All (FieldIsNamed ns g) g.fields
  pub methods : All (MethodIsNamed ns g) g.methods

pub nothing_named : (ns : List Naming) → AreNamed ns nothing_gathered
nothing_named ns = record {
  texts = All-nil (Contains (texts_named ns));
  types = All-nil (TypeIsNamed ns nothing_gathered);
  protos = All-nil (ProtoIsNamed ns nothing_gathered);
  fields = All-nil (FieldIsNamed ns nothing_gathered);
  methods = All-nil (MethodIsNamed ns nothing_gathered);
}

-- they stay so when more is gathered
module _ (ns : List Naming) (g h : Gathered) (grows : Grows g h) where
  type_still : (k : ℕ) → TypeIsNamed ns g k → TypeIsNamed ns h k
  type_still k e = record { text = e.text; named = e.named; has = type_kept g h grows e.text e.has; is = text_stays g h grows e.text e.has.text ∙ e.is }

  proto_still : (p : ProtoParts) → ProtoIsNamed ns g p → ProtoIsNamed ns h p
  proto_still p e = record { proto = e.proto; named = e.named; has = proto_kept g h grows e.proto e.has; is = proto_parts_stay g h grows e.proto e.has ∙ e.is }

  field_still : (p : MemberParts) → FieldIsNamed ns g p → FieldIsNamed ns h p
  field_still p e = record { field = e.field; named = e.named; has = field_kept g h grows e.field e.has; is = field_parts_stay g h grows e.field e.has ∙ e.is }

  method_still : (p : MemberParts) → MethodIsNamed ns g p → MethodIsNamed ns h p
  method_still p e = record { method = e.method; named = e.named; has = method_kept g h grows e.method e.has; is = method_parts_stay g h grows e.method e.has ∙ e.is }

  types_still : (ks : List ℕ) → All (TypeIsNamed ns g) ks → All (TypeIsNamed ns h) ks
  types_still ks all = All-weaker (TypeIsNamed ns g) (TypeIsNamed ns h) type_still ks all

  protos_still : (ps : List ProtoParts) → All (ProtoIsNamed ns g) ps → All (ProtoIsNamed ns h) ps
  protos_still ps all = All-weaker (ProtoIsNamed ns g) (ProtoIsNamed ns h) proto_still ps all

  fields_still : (ps : List MemberParts) → All (FieldIsNamed ns g) ps → All (FieldIsNamed ns h) ps
  fields_still ps all = All-weaker (FieldIsNamed ns g) (FieldIsNamed ns h) field_still ps all

  methods_still : (ps : List MemberParts) → All (MethodIsNamed ns g) ps → All (MethodIsNamed ns h) ps
  methods_still ps all = All-weaker (MethodIsNamed ns g) (MethodIsNamed ns h) method_still ps all

-- each step of gathering keeps it
module _ (ns : List Naming) where
  text_put : (g : Gathered) (s : List ℕ) → Contains (texts_named ns) s → AreNamed ns g → AreNamed ns (with_text g s)
  text_put g s named are =
      let h = with_text g s in
      let grows = grows_text g s in
      record {
        texts = all_new same_text (Contains (texts_named ns)) g.texts s are.texts named;
        types = types_still ns g h grows g.types are.types;
        protos = protos_still ns g h grows g.protos are.protos;
        fields = fields_still ns g h grows g.fields are.fields;
        methods = methods_still ns g h grows g.methods are.methods;
      }

  type_of_text_put : (g : Gathered) (t : List ℕ) → Contains (types_named ns) t → HasType (with_type_of_text g t) t → AreNamed ns g → AreNamed ns (with_type_of_text g t)
  type_of_text_put g t named has are =
      let h = with_type_of_text g t in
      let grows = grows_type_of_text g t in
      record {
        texts = are.texts;
        types = all_new nat_eq (TypeIsNamed ns h) g.types (text_place g t) (types_still ns g h grows g.types are.types)
            (record { text = t; named = named; has = has; is = refl });
        protos = protos_still ns g h grows g.protos are.protos;
        fields = fields_still ns g h grows g.fields are.fields;
        methods = methods_still ns g h grows g.methods are.methods;
      }

  type_put : (g : Gathered) (t : List ℕ) → Contains (texts_named ns) t → Contains (types_named ns) t → AreNamed ns g → AreNamed ns (with_type g t)
  type_put g t text named are = type_of_text_put (with_text g t) t named (has_type g t) (text_put g t text are)

  types_put : (g : Gathered) (ts : List (List ℕ)) → All (Contains (texts_named ns)) ts → All (Contains (types_named ns)) ts → AreNamed ns g → AreNamed ns (with_types g ts)
  types_put g [] texts named are = are
  types_put g (t ∷ ts) texts named are =
      types_put (with_type g t) ts (All-tail (Contains (texts_named ns)) t ts texts) (All-tail (Contains (types_named ns)) t ts named)
      (type_put g t (All-head (Contains (texts_named ns)) t ts texts) (All-head (Contains (types_named ns)) t ts named) are)

  proto_parts_put : (g : Gathered) (q : Prototype) → Contains (protos_named ns) q → HasProto (with_proto_parts g q) q → AreNamed ns g → AreNamed ns (with_proto_parts g q)
  proto_parts_put g q named has are =
      let h = with_proto_parts g q in
      let grows = grows_proto_parts g q in
      record {
        texts = are.texts;
        types = types_still ns g h grows g.types are.types;
        protos = all_new same_proto (ProtoIsNamed ns h) g.protos (proto_parts g q) (protos_still ns g h grows g.protos are.protos)
            (record { proto = q; named = named; has = has; is = refl });
        fields = fields_still ns g h grows g.fields are.fields;
        methods = methods_still ns g h grows g.methods are.methods;
      }

  field_parts_put : (g : Gathered) (f : FieldName) → Contains (fields_named ns) f → HasField (with_field_parts g f) f → AreNamed ns g → AreNamed ns (with_field_parts g f)
  field_parts_put g f named has are =
      let h = with_field_parts g f in
      let grows = grows_field_parts g f in
      record {
        texts = are.texts;
        types = types_still ns g h grows g.types are.types;
        protos = protos_still ns g h grows g.protos are.protos;
        fields = all_new same_member (FieldIsNamed ns h) g.fields (field_parts g f) (fields_still ns g h grows g.fields are.fields)
            (record { field = f; named = named; has = has; is = refl });
        methods = methods_still ns g h grows g.methods are.methods;
      }

  method_parts_put : (g : Gathered) (m : MethodName) → Contains (methods_named ns) m → HasMethod (with_method_parts g m) m → AreNamed ns g → AreNamed ns (with_method_parts g m)
  method_parts_put g m named has are =
      let h = with_method_parts g m in
      let grows = grows_method_parts g m in
      record {
        texts = are.texts;
        types = types_still ns g h grows g.types are.types;
        protos = protos_still ns g h grows g.protos are.protos;
        fields = fields_still ns g h grows g.fields are.fields;
        methods = all_new same_member (MethodIsNamed ns h) g.methods (method_parts g m) (methods_still ns g h grows g.methods are.methods)
            (record { method = m; named = named; has = has; is = refl });
      }

  proto_put : (g : Gathered) (q : Prototype) → Contains (texts_named ns) (short_form q) → All (Contains (texts_named ns)) (q.ret ∷ q.params)
      → All (Contains (types_named ns)) (q.ret ∷ q.params) → Contains (protos_named ns) q → AreNamed ns g → AreNamed ns (with_proto g q)
  proto_put g q short texts types named are =
      let a = with_text g (short_form q) in
      let b = with_type a q.ret in
      let first = text_put g (short_form q) short are in
      let second = type_put a q.ret (All-head (Contains (texts_named ns)) q.ret q.params texts) (All-head (Contains (types_named ns)) q.ret q.params types) first in
      let third = types_put b q.params (All-tail (Contains (texts_named ns)) q.ret q.params texts) (All-tail (Contains (types_named ns)) q.ret q.params types) second in
      let has : HasProto (with_proto_parts (before_proto g q) q) q = subst (λ (h : Gathered). HasProto h q) (proto_is g q) (has_proto g q) in
      rw (proto_is g q) (proto_parts_put (before_proto g q) q named has third)

  field_put : (g : Gathered) (f : FieldName) → All (Contains (texts_named ns)) (texts_in (OfField f)) → All (Contains (types_named ns)) (types_in (OfField f))
      → Contains (fields_named ns) f → AreNamed ns g → AreNamed ns (with_field g f)
  field_put g f texts types named are =
      let a = with_type g f.class in
      let b = with_text a f.name in
      let first = type_put g f.class (texts 1 [] (omega arith)) (types 0 [] (omega arith)) are in
      let second = text_put a f.name (texts 0 [] (omega arith)) first in
      let third = type_put b f.ty (texts 2 [] (omega arith)) (types 1 [] (omega arith)) second in
      let has : HasField (with_field_parts (before_field g f) f) f = subst (λ (h : Gathered). HasField h f) (field_is g f) (has_field g f) in
      rw (field_is g f) (field_parts_put (before_field g f) f named has third)

  method_put : (g : Gathered) (m : MethodName) → All (Contains (texts_named ns)) (texts_in (OfMethod m)) → All (Contains (types_named ns)) (types_in (OfMethod m))
      → Contains (protos_named ns) m.proto → Contains (methods_named ns) m → AreNamed ns g → AreNamed ns (with_method g m)
  method_put g m texts types proto named are =
      let a = with_type g m.class in
      let b = with_text a m.name in
      let first = type_put g m.class (texts 2 [] (omega arith)) (types 0 [] (omega arith)) are in
      let second = text_put a m.name (texts 0 [] (omega arith)) first in
      let third = proto_put b m.proto (texts 1 [] (omega arith)) (λ k d lt. texts (suc (suc (suc k))) d (omega (arith, lt)))
      (λ k d lt. types (suc k) d (omega (arith, lt))) proto second in
      let has : HasMethod (with_method_parts (before_method g m) m) m = subst (λ (h : Gathered). HasMethod h m) (method_is g m) (has_method g m) in
      rw (method_is g m) (method_parts_put (before_method g m) m named has third)

  -- what one naming brings is among what all bring
  pub record IsAmong (n : Naming) : Type 0 where
    pub texts : All (Contains (texts_named ns)) (texts_in n)
    pub types : All (Contains (types_named ns)) (types_in n)
    pub protos : All (Contains (protos_named ns)) (protos_in n)
    pub fields : All (Contains (fields_named ns)) (fields_in n)
    pub methods : All (Contains (methods_named ns)) (methods_in n)

  naming_put : (g : Gathered) (n : Naming) → IsAmong n → AreNamed ns g → AreNamed ns (with_naming g n)
  naming_put g NoName among are = are
  naming_put g (OfText s) among are = text_put g s (among.texts 0 s (omega arith)) are
  naming_put g (OfType t) among are = type_put g t (among.texts 0 t (omega arith)) (among.types 0 t (omega arith)) are
  naming_put g (OfField f) among are = field_put g f among.texts among.types (among.fields 0 f (omega arith)) are
  naming_put g (OfMethod m) among are =
      method_put g m among.texts among.types (among.protos 0 m.proto (omega arith)) (among.methods 0 m (omega arith)) are

  gathered_put : (g : Gathered) (ms : List Naming) → All IsAmong ms → AreNamed ns g → AreNamed ns (gathered g ms)
  gathered_put g [] among are = are
  gathered_put g (n ∷ ms) among are = gathered_put (with_naming g n) ms (All-tail IsAmong n ms among) (naming_put g n (All-head IsAmong n ms among) are)

  all_among : All IsAmong ns
  all_among k d lt = record {
    texts = all_in_pieces (Contains (texts_named ns)) texts_in ns (All-contains_itself (texts_named ns)) k d lt;
    types = all_in_pieces (Contains (types_named ns)) types_in ns (All-contains_itself (types_named ns)) k d lt;
    protos = all_in_pieces (Contains (protos_named ns)) protos_in ns (All-contains_itself (protos_named ns)) k d lt;
    fields = all_in_pieces (Contains (fields_named ns)) fields_in ns (All-contains_itself (fields_named ns)) k d lt;
    methods = all_in_pieces (Contains (methods_named ns)) methods_in ns (All-contains_itself (methods_named ns)) k d lt;
  }

  pub gathered_named : AreNamed ns (gathered nothing_gathered ns)
  gathered_named = gathered_put nothing_gathered ns all_among (nothing_named ns)
