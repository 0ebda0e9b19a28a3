-- That what is gathered holds all that was named.
use Rattle.std.proofs.Common.{ℕ, List, [], ◌∷◌, nat_eq}
use Rattle.std.specs.List.{All}
use Rattle.std.proofs.lemmas.List.Elements.{All-nil, All-cons}
use Rattle.pi_model.specs.Texts.{same_text}
use Rattle.pi_contents.specs.Contents.{FieldName, Prototype, MethodName, Naming, NoName, OfText, OfType, OfField, OfMethod}
use Rattle.pi_contents.specs.Naming.{short_form}
use Rattle.pi_dexpools.specs.declared.gathered.Gathered.{Gathered}
use Rattle.pi_dexpools.specs.Gathered.{with_text, with_type, with_types, with_proto_parts, with_proto, with_field_parts, with_field, with_method_parts, with_method, with_naming, gathered, text_place, proto_parts, field_parts, method_parts, same_proto, same_member}
use Rattle.pi_poollaws.proofs.Lists.{found_new}
use Rattle.pi_poollaws.proofs.Exact.{texts_exact, nats_exact, protos_exact, members_exact}
use Rattle.pi_poollaws.proofs.Grown.{grows_further, grows_text, grows_type, grows_types, grows_proto, grows_proto_parts, grows_field_parts, grows_method_parts, grows_gathered, before_proto, before_field, before_method, proto_is, field_is, method_is}
use Rattle.pi_poollaws.proofs.Held.{HasText, HasType, HasProto, HasField, HasMethod, HasNaming, text_kept, type_kept, types_kept, proto_kept, naming_kept}

pub has_text : (g : Gathered) (s : List ℕ) → HasText (with_text g s) s
has_text g s = record { here = found_new same_text g.texts s (texts_exact.itself s) }

pub has_type : (g : Gathered) (t : List ℕ) → HasType (with_type g t) t
has_type g t = record {
  text = record { here = (has_text g t).here };
  here = found_new nat_eq g.types (text_place (with_text g t) t) (nats_exact.itself (text_place (with_text g t) t));
}

pub has_types : (g : Gathered) (ts : List (List ℕ)) → All (HasType (with_types g ts)) ts
has_types g [] = All-nil (HasType g)
has_types g (t ∷ ts) =
    All-cons (HasType (with_types (with_type g t) ts)) t ts
    (type_kept (with_type g t) (with_types (with_type g t) ts) (grows_types (with_type g t) ts) t (has_type g t))
    (has_types (with_type g t) ts)

-- what a prototype, a field and a method are made of is held before their parts are put in
pub record HasProtoParts (g : Gathered) (q : Prototype) : Type 0 where
  pub short : HasText g (short_form q)
  pub ret : HasType g q.ret
  pub params : All (HasType g) q.params

pub has_before_proto : (g : Gathered) (q : Prototype) → HasProtoParts (before_proto g q) q
has_before_proto g q =
    let a = with_text g (short_form q) in
    let b = with_type a q.ret in
    let c = before_proto g q in
    let more = grows_types b q.params in
    record {
      short = text_kept a c (grows_further a b c (grows_type a q.ret) more) (short_form q) (has_text g (short_form q));
      ret = type_kept b c more q.ret (has_type a q.ret);
      params = has_types b q.params;
    }

pub has_proto : (g : Gathered) (q : Prototype) → HasProto (with_proto g q) q
has_proto g q =
    let c = before_proto g q in
    let d = with_proto_parts c q in
    let parts = has_before_proto g q in
    let more = grows_proto_parts c q in
    rw (proto_is g q) (record {
      short = text_kept c d more (short_form q) parts.short;
      ret = type_kept c d more q.ret parts.ret;
      params = types_kept c d more q.params parts.params;
      here = found_new same_proto c.protos (proto_parts c q) (protos_exact.itself (proto_parts c q));
    })

pub record HasFieldParts (g : Gathered) (f : FieldName) : Type 0 where
  pub class : HasType g f.class
  pub name : HasText g f.name
  pub ty : HasType g f.ty

pub has_before_field : (g : Gathered) (f : FieldName) → HasFieldParts (before_field g f) f
has_before_field g f =
    let a = with_type g f.class in
    let b = with_text a f.name in
    let c = before_field g f in
    let more = grows_type b f.ty in
    record {
      class = type_kept a c (grows_further a b c (grows_text a f.name) more) f.class (has_type g f.class);
      name = text_kept b c more f.name (has_text a f.name);
      ty = has_type b f.ty;
    }

pub has_field : (g : Gathered) (f : FieldName) → HasField (with_field g f) f
has_field g f =
    let c = before_field g f in
    let d = with_field_parts c f in
    let parts = has_before_field g f in
    let more = grows_field_parts c f in
    rw (field_is g f) (record {
      class = type_kept c d more f.class parts.class;
      name = text_kept c d more f.name parts.name;
      ty = type_kept c d more f.ty parts.ty;
      here = found_new same_member c.fields (field_parts c f) (members_exact.itself (field_parts c f));
    })

pub record HasMethodParts (g : Gathered) (m : MethodName) : Type 0 where
  pub class : HasType g m.class
  pub name : HasText g m.name
  pub proto : HasProto g m.proto

pub has_before_method : (g : Gathered) (m : MethodName) → HasMethodParts (before_method g m) m
has_before_method g m =
    let a = with_type g m.class in
    let b = with_text a m.name in
    let c = before_method g m in
    let more = grows_proto b m.proto in
    record {
      class = type_kept a c (grows_further a b c (grows_text a m.name) more) m.class (has_type g m.class);
      name = text_kept b c more m.name (has_text a m.name);
      proto = has_proto b m.proto;
    }

pub has_method : (g : Gathered) (m : MethodName) → HasMethod (with_method g m) m
has_method g m =
    let c = before_method g m in
    let d = with_method_parts c m in
    let parts = has_before_method g m in
    let more = grows_method_parts c m in
    rw (method_is g m) (record {
      class = type_kept c d more m.class parts.class;
      name = text_kept c d more m.name parts.name;
      proto = proto_kept c d more m.proto parts.proto;
      here = found_new same_member c.methods (method_parts c m) (members_exact.itself (method_parts c m));
    })

pub has_naming : (g : Gathered) (n : Naming) → HasNaming (with_naming g n) n
has_naming g NoName = tt
has_naming g (OfText s) = has_text g s
has_naming g (OfType t) = has_type g t
has_naming g (OfField f) = has_field g f
has_naming g (OfMethod m) = has_method g m

pub has_gathered : (g : Gathered) (ns : List Naming) → All (HasNaming (gathered g ns)) ns
has_gathered g [] = All-nil (HasNaming g)
has_gathered g (n ∷ ns) =
    let h = with_naming g n in
    All-cons (HasNaming (gathered h ns)) n ns (naming_kept h (gathered h ns) (grows_gathered h ns) n (has_naming g n)) (has_gathered h ns)
