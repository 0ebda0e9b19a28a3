-- Tables that are closed and in order: each number names an entry that there is, entries rise, short forms are those of their
-- prototypes, and each member stands in the list of its kind, in the class that it belongs to.
use Rattle.std.specs.Prelude.{◌≡◌, ℕ, ◌<◌, nat_lt, length, None, IfSome, Bool, true, false, All}
use Rattle.std.specs.declared.cmp.Ordering.{Ordering}
use Rattle.std.specs.Ordering.{nat_cmp, ordering_then}
use Rattle.std.specs.Cmp.Lexicographic.{slice_cmp}
use Rattle.std.specs.List.Sorted.{IsStrictlySortedBy}
use Rattle.pi_model.specs.Flags.{is_static}
use Rattle.pi_insn.specs.declared.raw.RawBody.{RawBody}
use Rattle.pi_insn.specs.declared.raw.RawBody.TheVariants.{ConstString, ConstClass, CheckCast, InstanceOf, NewInstance, NewArray, Filled, Iget, Iput, Sget, Sput, Invoke}
use Rattle.pi_format.specs.Rules.Pieces.{first_insn, walk}
use Rattle.pi_dextables.specs.declared.tables.Body.{Body}
use Rattle.pi_dextables.specs.declared.tables.Catch.{Catch}
use Rattle.pi_dextables.specs.declared.tables.Catches.{Catches}
use Rattle.pi_dextables.specs.declared.tables.Class.{Class}
use Rattle.pi_dextables.specs.declared.tables.FieldRow.{FieldRow}
use Rattle.pi_dextables.specs.declared.tables.Member.{Member}
use Rattle.pi_dextables.specs.declared.tables.MethodRow.{MethodRow}
use Rattle.pi_dextables.specs.declared.tables.Proto.{Proto}
use Rattle.pi_dextables.specs.declared.tables.Tables.{Tables}
use Rattle.pi_contents.specs.Naming.{short_form}
use Rattle.pi_contents.specs.Asked.{is_direct}
use Rattle.pi_tablesaid.specs.Entries.{text_at, prototype_of, member_at}
use Rattle.pi_tablesaid.specs.Content.{method_said}

-- there is such a string, such a type
abbrev pub IsString : Tables → ℕ → Type 0
IsString t i = i < length t.strings

abbrev pub IsType : Tables → ℕ → Type 0
IsType t i = i < length t.types

pub record ProtoCloses (t : Tables) (p : Proto) : Type 0 where
  pub short : IsString t p.short
  pub ret : IsType t p.ret
  pub params : All (IsType t) p.params
  pub spelled : text_at t p.short ≡ short_form (prototype_of t p)

pub record FieldCloses (t : Tables) (m : Member) : Type 0 where
  pub class : IsType t m.class
  pub kind : IsType t m.kind
  pub name : IsString t m.name

pub record MethodCloses (t : Tables) (m : Member) : Type 0 where
  pub class : IsType t m.class
  pub kind : m.kind < length t.protos
  pub name : IsString t m.name

-- prototypes rise by the type of the result, then by the types of the parameters; members by class, name and kind
abbrev pub proto_cmp : Proto → Proto → Ordering
proto_cmp p q = ordering_then (nat_cmp p.ret q.ret) (slice_cmp nat_cmp p.params q.params)

abbrev pub member_cmp : Member → Member → Ordering
member_cmp m n = ordering_then (nat_cmp m.class n.class) (ordering_then (nat_cmp m.name n.name) (nat_cmp m.kind n.kind))

-- each index of an instruction names an entry
abbrev pub index_closes : Tables → RawBody → Bool
index_closes t (ConstString a s) = nat_lt s (length t.strings)
index_closes t (ConstClass a i) = nat_lt i (length t.types)
index_closes t (CheckCast a i) = nat_lt i (length t.types)
index_closes t (InstanceOf a b i) = nat_lt i (length t.types)
index_closes t (NewInstance a i) = nat_lt i (length t.types)
index_closes t (NewArray a b i) = nat_lt i (length t.types)
index_closes t (Filled i regs) = nat_lt i (length t.types)
index_closes t (Iget kind a b f) = nat_lt f (length t.fields)
index_closes t (Iput kind a b f) = nat_lt f (length t.fields)
index_closes t (Sget kind a f) = nat_lt f (length t.fields)
index_closes t (Sput kind a f) = nat_lt f (length t.fields)
index_closes t (Invoke how m regs) = nat_lt m (length t.methods)
index_closes t _ = true

-- and so does each handler
pub record BodyCloses (t : Tables) (b : Body) : Type 0 where
  pub insns : first_insn (λ at i. index_closes t i.body) (walk b.units).pieces ≡ None
  pub lists : All (λ (l : Catches). All (λ (h : Catch). IsType t h.ty) l.typed) b.lists

-- a field, a method that a class lists, static or not, direct or not
pub record FieldListed (t : Tables) (owner : ℕ) (kind : Bool) (f : FieldRow) : Type 0 where
  pub id : f.id < length t.fields
  pub class : (member_at t.fields f.id).class ≡ owner
  pub static : is_static f.flags ≡ kind

pub record MethodListed (t : Tables) (owner : ℕ) (kind : Bool) (m : MethodRow) : Type 0 where
  pub id : m.id < length t.methods
  pub class : (member_at t.methods m.id).class ≡ owner
  pub direct : is_direct (method_said t m) ≡ kind
  pub code : IfSome m.code (BodyCloses t)

pub record ClassCloses (t : Tables) (c : Class) : Type 0 where
  pub class : IsType t c.class
  pub parent : IfSome c.parent (IsType t)
  pub faces : All (IsType t) c.faces
  pub statics : All (FieldListed t c.class true) c.statics
  pub instances : All (FieldListed t c.class false) c.instances
  pub directs : All (MethodListed t c.class true) c.directs
  pub virtuals : All (MethodListed t c.class false) c.virtuals

pub record IsClosed (t : Tables) : Type 0 where
  pub types : All (IsString t) t.types
  pub types_rise : IsStrictlySortedBy nat_cmp t.types
  pub protos : All (ProtoCloses t) t.protos
  pub protos_rise : IsStrictlySortedBy proto_cmp t.protos
  pub fields : All (FieldCloses t) t.fields
  pub fields_rise : IsStrictlySortedBy member_cmp t.fields
  pub methods : All (MethodCloses t) t.methods
  pub methods_rise : IsStrictlySortedBy member_cmp t.methods
  pub classes : All (ClassCloses t) t.classes
