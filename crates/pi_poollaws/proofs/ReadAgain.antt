-- That at the places of what is held its content stands.
use Rattle.std.proofs.Common.{◌≡◌, ℕ, ◌<◌, List, [], ◌∷◌, length, map, get_or, nat_eq, refl, sym, ap, ◌∙◌}
use Rattle.std.specs.List.{All}
use Rattle.std.proofs.lemmas.List.Elements.{All-nil, All-cons, All-head, All-tail}
use Rattle.pi_model.specs.Texts.{same_text}
use Rattle.pi_contents.specs.Contents.{FieldName, Prototype, MethodName}
use Rattle.pi_contents.specs.Naming.{short_form}
use Rattle.pi_dexpools.specs.declared.gathered.Gathered.{Gathered}
use Rattle.pi_dexpools.specs.declared.gathered.MemberParts.{MemberParts}
use Rattle.pi_dexpools.specs.Gathered.{text_place, type_place, proto_parts, proto_place, field_parts, field_place, method_parts, method_place, same_proto, same_member}
use Rattle.pi_dexpools.specs.Ranked.{text_at, type_at, no_proto, proto_of, proto_at, field_of, method_of, ProtoIsWhole, FieldIsWhole, MethodIsWhole}
use Rattle.pi_poollaws.proofs.Lists.{place_within, place_reads}
use Rattle.pi_poollaws.proofs.Exact.{texts_exact, nats_exact, protos_exact, members_exact}
use Rattle.pi_poollaws.proofs.Held.{HasText, HasType, HasProto, HasField, HasMethod}

module _ (g : Gathered) where
  pub text_within : (s : List ℕ) → HasText g s → text_place g s < length g.texts
  text_within s has = place_within (same_text s) g.texts has.here

  pub text_read : (s : List ℕ) → HasText g s → text_at g (text_place g s) ≡ s
  text_read s has = place_reads texts_exact s g.texts [] has.here

  pub type_within : (t : List ℕ) → HasType g t → type_place g t < length g.types
  type_within t has = place_within (nat_eq (text_place g t)) g.types has.here

  pub type_read : (t : List ℕ) → HasType g t → type_at g (type_place g t) ≡ t
  type_read t has = ap (text_at g) (place_reads nats_exact (text_place g t) g.types 0 has.here) ∙ text_read t has.text

  pub types_within : (ts : List (List ℕ)) → All (HasType g) ts → All (λ k. k < length g.types) (map (type_place g) ts)
  types_within [] all = All-nil (λ k. k < length g.types)
  types_within (t ∷ ts) all =
      All-cons (λ k. k < length g.types) (type_place g t) (map (type_place g) ts)
      (type_within t (All-head (HasType g) t ts all)) (types_within ts (All-tail (HasType g) t ts all))

  pub types_read : (ts : List (List ℕ)) → All (HasType g) ts → map (type_at g) (map (type_place g) ts) ≡ ts
  types_read [] all = refl
  types_read (t ∷ ts) all =
      let first = type_read t (All-head (HasType g) t ts all) in
      let rest = types_read ts (All-tail (HasType g) t ts all) in
      λ i. first i ∷ rest i

  pub proto_parts_read : (q : Prototype) → HasProto g q → proto_of g (proto_parts g q) ≡ q
  proto_parts_read q has = λ i. record { params = types_read q.params has.params i; ret = type_read q.ret has.ret i }

  pub proto_whole : (q : Prototype) → HasProto g q → ProtoIsWhole g (proto_parts g q)
  proto_whole q has = record {
    short = text_within (short_form q) has.short;
    form = text_read (short_form q) has.short ∙ ap short_form (sym (proto_parts_read q has));
    ret = type_within q.ret has.ret;
    params = types_within q.params has.params;
  }

  pub proto_within : (q : Prototype) → HasProto g q → proto_place g q < length g.protos
  proto_within q has = place_within (same_proto (proto_parts g q)) g.protos has.here

  pub proto_read : (q : Prototype) → HasProto g q → proto_at g (proto_place g q) ≡ q
  proto_read q has = ap (proto_of g) (place_reads protos_exact (proto_parts g q) g.protos no_proto has.here) ∙ proto_parts_read q has

  pub field_parts_read : (f : FieldName) → HasField g f → field_of g (field_parts g f) ≡ f
  field_parts_read f has = λ i. record {
    class = type_read f.class has.class i;
    name = text_read f.name has.name i;
    ty = type_read f.ty has.ty i;
  }

  pub field_whole : (f : FieldName) → HasField g f → FieldIsWhole g (field_parts g f)
  field_whole f has = record {
    class = type_within f.class has.class;
    name = text_within f.name has.name;
    kind = type_within f.ty has.ty;
  }

  pub field_within : (f : FieldName) → HasField g f → field_place g f < length g.fields
  field_within f has = place_within (same_member (field_parts g f)) g.fields has.here

  pub field_read : (f : FieldName) (d : MemberParts) → HasField g f → field_of g (get_or g.fields (field_place g f) d) ≡ f
  field_read f d has = ap (field_of g) (place_reads members_exact (field_parts g f) g.fields d has.here) ∙ field_parts_read f has

  pub method_parts_read : (m : MethodName) → HasMethod g m → method_of g (method_parts g m) ≡ m
  method_parts_read m has = λ i. record {
    class = type_read m.class has.class i;
    name = text_read m.name has.name i;
    proto = proto_read m.proto has.proto i;
  }

  pub method_whole : (m : MethodName) → HasMethod g m → MethodIsWhole g (method_parts g m)
  method_whole m has = record {
    class = type_within m.class has.class;
    name = text_within m.name has.name;
    kind = proto_within m.proto has.proto;
  }

  pub method_within : (m : MethodName) → HasMethod g m → method_place g m < length g.methods
  method_within m has = place_within (same_member (method_parts g m)) g.methods has.here

  pub method_read : (m : MethodName) (d : MemberParts) → HasMethod g m → method_of g (get_or g.methods (method_place g m) d) ≡ m
  method_read m d has = ap (method_of g) (place_reads members_exact (method_parts g m) g.methods d has.here) ∙ method_parts_read m has
