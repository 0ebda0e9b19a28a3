-- What the entries of tables say by texts. Of a number behind the end of a table nothing is meant.
use Rattle.std.specs.Prelude.{ℕ, List, [], map, slice_index_or}
use Rattle.pi_dextables.specs.declared.tables.Member.{Member}
use Rattle.pi_dextables.specs.declared.tables.Proto.{Proto}
use Rattle.pi_dextables.specs.declared.tables.Tables.{Tables}
use Rattle.pi_contents.specs.Contents.{FieldName, Prototype, MethodName}

-- the text of a string, and the descriptor of a type
abbrev pub text_at : Tables → ℕ → List ℕ
text_at t i = slice_index_or t.strings i []

abbrev pub type_at : Tables → ℕ → List ℕ
type_at t i = text_at t (slice_index_or t.types i 0)

-- a prototype, a field and a method, by their entries
abbrev pub prototype_of : Tables → Proto → Prototype
prototype_of t p = record { params = map (type_at t) p.params; ret = type_at t p.ret }

abbrev pub no_proto : Proto
no_proto = record { short = 0; ret = 0; params = [] }

abbrev pub prototype_at : Tables → ℕ → Prototype
prototype_at t i = prototype_of t (slice_index_or t.protos i no_proto)

abbrev pub no_member : Member
no_member = record { class = 0; kind = 0; name = 0 }

abbrev pub member_at : List Member → ℕ → Member
member_at ms i = slice_index_or ms i no_member

abbrev pub field_of : Tables → Member → FieldName
field_of t m = record { class = type_at t m.class; name = text_at t m.name; ty = type_at t m.kind }

abbrev pub method_of : Tables → Member → MethodName
method_of t m = record { class = type_at t m.class; name = text_at t m.name; proto = prototype_at t m.kind }

-- and by their numbers
abbrev pub field_at : Tables → ℕ → FieldName
field_at t i = field_of t (member_at t.fields i)

abbrev pub method_at : Tables → ℕ → MethodName
method_at t i = method_of t (member_at t.methods i)
