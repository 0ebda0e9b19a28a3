-- That nothing is gathered twice.
use Rattle.std.proofs.Common.{ℕ, List, [], ◌∷◌}
use Rattle.pi_contents.specs.Contents.{FieldName, Prototype, MethodName, Naming, NoName, OfText, OfType, OfField, OfMethod}
use Rattle.pi_contents.specs.Naming.{short_form}
use Rattle.pi_dexpools.specs.declared.gathered.Gathered.{Gathered}
use Rattle.pi_dexpools.specs.Gathered.{nothing_gathered, with_text, with_type_of_text, with_type, with_types, with_proto_parts, with_proto, with_field_parts, with_field, with_method_parts, with_method, with_naming, gathered, text_place, proto_parts, field_parts, method_parts}
use Rattle.pi_poollaws.proofs.Distinct.{AreApart, apart_new}
use Rattle.pi_poollaws.proofs.Exact.{texts_exact, nats_exact, protos_exact, members_exact}
use Rattle.pi_poollaws.proofs.Grown.{before_proto, before_field, before_method, proto_is, field_is, method_is}

pub record EachApart (g : Gathered) : Type 0 where
  pub texts : AreApart g.texts
  pub types : AreApart g.types
  pub protos : AreApart g.protos
  pub fields : AreApart g.fields
  pub methods : AreApart g.methods

text_apart : (g : Gathered) (s : List ℕ) → EachApart g → EachApart (with_text g s)
text_apart g s each = record { texts = apart_new texts_exact g.texts s each.texts; types = each.types; protos = each.protos; fields = each.fields; methods = each.methods }

type_of_text_apart : (g : Gathered) (t : List ℕ) → EachApart g → EachApart (with_type_of_text g t)
type_of_text_apart g t each =
    record { texts = each.texts; types = apart_new nats_exact g.types (text_place g t) each.types; protos = each.protos; fields = each.fields; methods = each.methods }

type_apart : (g : Gathered) (t : List ℕ) → EachApart g → EachApart (with_type g t)
type_apart g t each = type_of_text_apart (with_text g t) t (text_apart g t each)

types_apart : (g : Gathered) (ts : List (List ℕ)) → EachApart g → EachApart (with_types g ts)
types_apart g [] each = each
types_apart g (t ∷ ts) each = types_apart (with_type g t) ts (type_apart g t each)

proto_parts_apart : (g : Gathered) (q : Prototype) → EachApart g → EachApart (with_proto_parts g q)
proto_parts_apart g q each =
    record { texts = each.texts; types = each.types; protos = apart_new protos_exact g.protos (proto_parts g q) each.protos; fields = each.fields; methods = each.methods }

field_parts_apart : (g : Gathered) (f : FieldName) → EachApart g → EachApart (with_field_parts g f)
field_parts_apart g f each =
    record { texts = each.texts; types = each.types; protos = each.protos; fields = apart_new members_exact g.fields (field_parts g f) each.fields; methods = each.methods }

method_parts_apart : (g : Gathered) (m : MethodName) → EachApart g → EachApart (with_method_parts g m)
method_parts_apart g m each =
    record { texts = each.texts; types = each.types; protos = each.protos; fields = each.fields; methods = apart_new members_exact g.methods (method_parts g m) each.methods }

proto_apart : (g : Gathered) (q : Prototype) → EachApart g → EachApart (with_proto g q)
proto_apart g q each =
    let a = with_text g (short_form q) in
    let b = with_type a q.ret in
    rw (proto_is g q) (proto_parts_apart (before_proto g q) q (types_apart b q.params (type_apart a q.ret (text_apart g (short_form q) each))))

field_apart : (g : Gathered) (f : FieldName) → EachApart g → EachApart (with_field g f)
field_apart g f each =
    let a = with_type g f.class in
    let b = with_text a f.name in
    rw (field_is g f) (field_parts_apart (before_field g f) f (type_apart b f.ty (text_apart a f.name (type_apart g f.class each))))

method_apart : (g : Gathered) (m : MethodName) → EachApart g → EachApart (with_method g m)
method_apart g m each =
    let a = with_type g m.class in
    let b = with_text a m.name in
    rw (method_is g m) (method_parts_apart (before_method g m) m (proto_apart b m.proto (text_apart a m.name (type_apart g m.class each))))

naming_apart : (g : Gathered) (n : Naming) → EachApart g → EachApart (with_naming g n)
naming_apart g NoName each = each
naming_apart g (OfText s) each = text_apart g s each
naming_apart g (OfType t) each = type_apart g t each
naming_apart g (OfField f) each = field_apart g f each
naming_apart g (OfMethod m) each = method_apart g m each

pub gathered_apart : (g : Gathered) (ns : List Naming) → EachApart g → EachApart (gathered g ns)
gathered_apart g [] each = each
gathered_apart g (n ∷ ns) each = gathered_apart (with_naming g n) ns (naming_apart g n each)

pub nothing_apart : EachApart nothing_gathered
nothing_apart = record { texts = tt; types = tt; protos = tt; fields = tt; methods = tt }
