-- That what stood before more was gathered stands first, as it stood.
use Rattle.std.proofs.Common.{◌≡◌, List, [], ◌∷◌, nat_eq, refl}
use Rattle.pi_model.specs.Texts.{same_text}
use Rattle.pi_contents.specs.Contents.{FieldName, Prototype, MethodName, Naming, NoName, OfText, OfType, OfField, OfMethod}
use Rattle.pi_contents.specs.Naming.{short_form}
use Rattle.pi_dexpools.specs.declared.gathered.Gathered.{Gathered}
use Rattle.pi_dexpools.specs.Gathered.{with_text, with_type_of_text, with_type, with_types, with_proto_parts, with_proto, with_field_parts, with_field, with_method_parts, with_method, with_naming, gathered, counts_of, cut, text_place, proto_parts, field_parts, method_parts, same_proto, same_member}
use Rattle.pi_poollaws.proofs.Lists.{Begins, begins_itself, begins_further, begins_taken, begins_new}

pub record Grows (g h : Gathered) : Type 0 where
  pub texts : Begins g.texts h.texts
  pub types : Begins g.types h.types
  pub protos : Begins g.protos h.protos
  pub fields : Begins g.fields h.fields
  pub methods : Begins g.methods h.methods

pub grows_itself : (g : Gathered) → Grows g g
grows_itself g = record {
  texts = begins_itself g.texts;
  types = begins_itself g.types;
  protos = begins_itself g.protos;
  fields = begins_itself g.fields;
  methods = begins_itself g.methods;
}

pub grows_further : (g h k : Gathered) → Grows g h → Grows h k → Grows g k
grows_further g h k a b = record {
  texts = begins_further g.texts h.texts k.texts a.texts b.texts;
  types = begins_further g.types h.types k.types a.types b.types;
  protos = begins_further g.protos h.protos k.protos a.protos b.protos;
  fields = begins_further g.fields h.fields k.fields a.fields b.fields;
  methods = begins_further g.methods h.methods k.methods a.methods b.methods;
}

-- so it is taken back by its counts
pub grown_is_cut : (g h : Gathered) → Grows g h → cut (counts_of g) h ≡ g
grown_is_cut g h a = λ i. record {
  texts = begins_taken g.texts h.texts a.texts i;
  types = begins_taken g.types h.types a.types i;
  protos = begins_taken g.protos h.protos a.protos i;
  fields = begins_taken g.fields h.fields a.fields i;
  methods = begins_taken g.methods h.methods a.methods i;
}

-- each step of gathering lets grow
pub grows_text : (g : Gathered) (s : List _) → Grows g (with_text g s)
grows_text g s = record {
  texts = begins_new same_text g.texts s;
  types = begins_itself g.types;
  protos = begins_itself g.protos;
  fields = begins_itself g.fields;
  methods = begins_itself g.methods;
}

pub grows_type_of_text : (g : Gathered) (t : List _) → Grows g (with_type_of_text g t)
grows_type_of_text g t = record {
  texts = begins_itself g.texts;
  types = begins_new nat_eq g.types (text_place g t);
  protos = begins_itself g.protos;
  fields = begins_itself g.fields;
  methods = begins_itself g.methods;
}

pub grows_type : (g : Gathered) (t : List _) → Grows g (with_type g t)
grows_type g t = grows_further g (with_text g t) (with_type g t) (grows_text g t) (grows_type_of_text (with_text g t) t)

pub grows_types : (g : Gathered) (ts : List (List _)) → Grows g (with_types g ts)
grows_types g [] = grows_itself g
grows_types g (t ∷ ts) = grows_further g (with_type g t) (with_types (with_type g t) ts) (grows_type g t) (grows_types (with_type g t) ts)

pub grows_proto_parts : (g : Gathered) (q : Prototype) → Grows g (with_proto_parts g q)
grows_proto_parts g q = record {
  texts = begins_itself g.texts;
  types = begins_itself g.types;
  protos = begins_new same_proto g.protos (proto_parts g q);
  fields = begins_itself g.fields;
  methods = begins_itself g.methods;
}

pub grows_field_parts : (g : Gathered) (f : FieldName) → Grows g (with_field_parts g f)
grows_field_parts g f = record {
  texts = begins_itself g.texts;
  types = begins_itself g.types;
  protos = begins_itself g.protos;
  fields = begins_new same_member g.fields (field_parts g f);
  methods = begins_itself g.methods;
}

pub grows_method_parts : (g : Gathered) (m : MethodName) → Grows g (with_method_parts g m)
grows_method_parts g m = record {
  texts = begins_itself g.texts;
  types = begins_itself g.types;
  protos = begins_itself g.protos;
  fields = begins_itself g.fields;
  methods = begins_new same_member g.methods (method_parts g m);
}

-- what is gathered before the parts of a prototype, a field or a method are
abbrev pub before_proto : Gathered → Prototype → Gathered
before_proto g q = with_types (with_type (with_text g (short_form q)) q.ret) q.params

abbrev pub before_field : Gathered → FieldName → Gathered
before_field g f = with_type (with_text (with_type g f.class) f.name) f.ty

abbrev pub before_method : Gathered → MethodName → Gathered
before_method g m = with_proto (with_text (with_type g m.class) m.name) m.proto

pub proto_is : (g : Gathered) (q : Prototype) → with_proto g q ≡ with_proto_parts (before_proto g q) q
unfolding with_proto
proto_is g q = refl

pub field_is : (g : Gathered) (f : FieldName) → with_field g f ≡ with_field_parts (before_field g f) f
unfolding with_field
field_is g f = refl

pub method_is : (g : Gathered) (m : MethodName) → with_method g m ≡ with_method_parts (before_method g m) m
unfolding with_method
method_is g m = refl

pub grows_before_proto : (g : Gathered) (q : Prototype) → Grows g (before_proto g q)
grows_before_proto g q =
    let a = with_text g (short_form q) in
    let b = with_type a q.ret in
    grows_further g b (before_proto g q) (grows_further g a b (grows_text g (short_form q)) (grows_type a q.ret)) (grows_types b q.params)

pub grows_proto : (g : Gathered) (q : Prototype) → Grows g (with_proto g q)
grows_proto g q = rw (proto_is g q)
    (grows_further g (before_proto g q) (with_proto_parts (before_proto g q) q) (grows_before_proto g q) (grows_proto_parts (before_proto g q) q))

pub grows_field : (g : Gathered) (f : FieldName) → Grows g (with_field g f)
grows_field g f =
    let a = with_type g f.class in
    let b = with_text a f.name in
    let c = before_field g f in
    let first = grows_further g a b (grows_type g f.class) (grows_text a f.name) in
    let second = grows_further g b c first (grows_type b f.ty) in
    rw (field_is g f) (grows_further g c (with_field_parts c f) second (grows_field_parts c f))

pub grows_method : (g : Gathered) (m : MethodName) → Grows g (with_method g m)
grows_method g m =
    let a = with_type g m.class in
    let b = with_text a m.name in
    let c = before_method g m in
    let first = grows_further g a b (grows_type g m.class) (grows_text a m.name) in
    let second = grows_further g b c first (grows_proto b m.proto) in
    rw (method_is g m) (grows_further g c (with_method_parts c m) second (grows_method_parts c m))

pub grows_naming : (g : Gathered) (n : Naming) → Grows g (with_naming g n)
grows_naming g NoName = grows_itself g
grows_naming g (OfText s) = grows_text g s
grows_naming g (OfType t) = grows_type g t
grows_naming g (OfField f) = grows_field g f
grows_naming g (OfMethod m) = grows_method g m

pub grows_gathered : (g : Gathered) (ns : List Naming) → Grows g (gathered g ns)
grows_gathered g [] = grows_itself g
grows_gathered g (n ∷ ns) = grows_further g (with_naming g n) (gathered (with_naming g n) ns) (grows_naming g n) (grows_gathered (with_naming g n) ns)
