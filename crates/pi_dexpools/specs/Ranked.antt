-- What is gathered, by contents, and the numbers that it has in a file: its places where each kind stands in rising order.
use Rattle.std.specs.Prelude.{◌≡◌, ℕ, ◌<◌, List, [], length, map, slice_index_or}
use Rattle.std.specs.List.{All}
use Rattle.pi_contents.specs.Contents.{FieldName, Prototype, MethodName}
use Rattle.pi_contents.specs.Naming.{short_form}
use Rattle.pi_classtables.specs.Sorted.{sorted, text_order}
use Rattle.pi_classtables.specs.Numbers.{Pools, proto_order, field_order, method_order, string_no, type_no, field_no, method_no}
use Rattle.pi_dexpools.specs.declared.gathered.Gathered.{Gathered}
use Rattle.pi_dexpools.specs.declared.gathered.MemberParts.{MemberParts}
use Rattle.pi_dexpools.specs.declared.gathered.Place.{Place}
use Rattle.pi_dexpools.specs.declared.gathered.Place.TheVariants.{Nothing, OfText, OfType, OfField, OfMethod}
use Rattle.pi_dexpools.specs.declared.gathered.ProtoParts.{ProtoParts}
use Rattle.pi_dexpools.specs.declared.gathered.Ranks.{Ranks}

-- what stands at a place
abbrev pub text_at : Gathered → ℕ → List ℕ
text_at g k = slice_index_or g.texts k []

abbrev pub type_at : Gathered → ℕ → List ℕ
type_at g k = text_at g (slice_index_or g.types k 0)

abbrev pub no_proto : ProtoParts
no_proto = record { short = 0; ret = 0; params = [] }

abbrev pub proto_of : Gathered → ProtoParts → Prototype
proto_of g q = record { params = map (type_at g) q.params; ret = type_at g q.ret }

abbrev pub proto_at : Gathered → ℕ → Prototype
proto_at g k = proto_of g (slice_index_or g.protos k no_proto)

abbrev pub field_of : Gathered → MemberParts → FieldName
field_of g f = record { class = type_at g f.class; name = text_at g f.name; ty = type_at g f.kind }

abbrev pub method_of : Gathered → MemberParts → MethodName
method_of g m = record { class = type_at g m.class; name = text_at g m.name; proto = proto_at g m.kind }

abbrev pub contents : Gathered → Pools
contents g = record {
  strings = g.texts;
  types = map (text_at g) g.types;
  protos = map (proto_of g) g.protos;
  fields = map (field_of g) g.fields;
  methods = map (method_of g) g.methods;
}

-- each kind in rising order
unfoldable pub sorted_pools : Pools → Pools
sorted_pools p = record {
  strings = sorted text_order p.strings;
  types = sorted text_order p.types;
  protos = sorted proto_order p.protos;
  fields = sorted field_order p.fields;
  methods = sorted method_order p.methods;
}

abbrev pub numbering : Gathered → Pools
numbering g = sorted_pools (contents g)

-- the number of each thing that is gathered
abbrev pub ranks_of : Gathered → Ranks
ranks_of g = record {
  texts = map (string_no (numbering g)) (contents g).strings;
  types = map (type_no (numbering g)) (contents g).types;
  fields = map (field_no (numbering g)) (contents g).fields;
  methods = map (method_no (numbering g)) (contents g).methods;
}

-- the number of what stands at a place, 0 where nothing does
abbrev pub number_of : Ranks → Place → ℕ
number_of ranks Nothing = 0
number_of ranks (OfText k) = slice_index_or ranks.texts k 0
number_of ranks (OfType k) = slice_index_or ranks.types k 0
number_of ranks (OfField k) = slice_index_or ranks.fields k 0
number_of ranks (OfMethod k) = slice_index_or ranks.methods k 0

-- the places that are named are there, and the short form of a prototype is its own
pub record ProtoIsWhole (g : Gathered) (q : ProtoParts) : Type 0 where
  pub short : q.short < length g.texts
  pub form : text_at g q.short ≡ short_form (proto_of g q)
  pub ret : q.ret < length g.types
  pub params : All (λ k. k < length g.types) q.params

pub record FieldIsWhole (g : Gathered) (f : MemberParts) : Type 0 where
  pub class : f.class < length g.types
  pub name : f.name < length g.texts
  pub kind : f.kind < length g.types

pub record MethodIsWhole (g : Gathered) (m : MemberParts) : Type 0 where
  pub class : m.class < length g.types
  pub name : m.name < length g.texts
  pub kind : m.kind < length g.protos

pub record AreWhole (g : Gathered) : Type 0 where
  pub types : All (λ k. k < length g.texts) g.types
  pub protos : All (ProtoIsWhole g) g.protos
  pub fields : All (FieldIsWhole g) g.fields
  pub methods : All (MethodIsWhole g) g.methods
