-- The tables of what classes name: each thing once, in rising order, so that its number is its place.
use Rattle.std.specs.Prelude.{ℕ, List, [], map}
use Rattle.std.specs.declared.cmp.Ordering.{Ordering}
use Rattle.std.specs.Ordering.{ordering_then}
use Rattle.pi_dextables.specs.declared.tables.Member.{Member}
use Rattle.pi_dextables.specs.declared.tables.Proto.{Proto}
use Rattle.pi_contents.specs.Contents.{FieldName, Prototype, MethodName, Naming, NoName, OfText, OfType, OfField, OfMethod}
use Rattle.pi_contents.specs.Naming.{short_form, texts_named, types_named, protos_named, fields_named, methods_named}
use Rattle.pi_classtables.specs.Sorted.{sorted, place_in, text_order, texts_order}

-- prototypes rise by the result, then by the parameters; members by class, name, and type or prototype
abbrev pub proto_order : Prototype → Prototype → Ordering
proto_order p q = ordering_then (text_order p.ret q.ret) (texts_order p.params q.params)

abbrev pub field_order : FieldName → FieldName → Ordering
field_order f g = ordering_then (text_order f.class g.class) (ordering_then (text_order f.name g.name) (text_order f.ty g.ty))

abbrev pub method_order : MethodName → MethodName → Ordering
method_order m n = ordering_then (text_order m.class n.class) (ordering_then (text_order m.name n.name) (proto_order m.proto n.proto))

-- all strings, types, prototypes, fields and methods of a file
pub record Pools : Type 0 where
  pub strings : List (List ℕ)
  pub types : List (List ℕ)
  pub protos : List Prototype
  pub fields : List FieldName
  pub methods : List MethodName

abbrev pub no_pools : Pools
no_pools = record { strings = []; types = []; protos = []; fields = []; methods = [] }

-- those that are named
unfoldable pub pools_of : List Naming → Pools
pools_of ns = record {
  strings = sorted text_order (texts_named ns);
  types = sorted text_order (types_named ns);
  protos = sorted proto_order (protos_named ns);
  fields = sorted field_order (fields_named ns);
  methods = sorted method_order (methods_named ns);
}

-- their numbers
abbrev pub string_no : Pools → List ℕ → ℕ
string_no p s = place_in text_order s p.strings

abbrev pub type_no : Pools → List ℕ → ℕ
type_no p t = place_in text_order t p.types

abbrev pub proto_no : Pools → Prototype → ℕ
proto_no p q = place_in proto_order q p.protos

abbrev pub field_no : Pools → FieldName → ℕ
field_no p f = place_in field_order f p.fields

abbrev pub method_no : Pools → MethodName → ℕ
method_no p m = place_in method_order m p.methods

-- the index of an instruction that names this, 0 where it names nothing
abbrev pub index_of : Pools → Naming → ℕ
index_of p NoName = 0
index_of p (OfText s) = string_no p s
index_of p (OfType t) = type_no p t
index_of p (OfField f) = field_no p f
index_of p (OfMethod m) = method_no p m

-- the entries of the tables
abbrev pub proto_entry : Pools → Prototype → Proto
proto_entry p q = record { short = string_no p (short_form q); ret = type_no p q.ret; params = map (type_no p) q.params }

abbrev pub field_entry : Pools → FieldName → Member
field_entry p f = record { class = type_no p f.class; kind = type_no p f.ty; name = string_no p f.name }

abbrev pub method_entry : Pools → MethodName → Member
method_entry p m = record { class = type_no p m.class; kind = proto_no p m.proto; name = string_no p m.name }
