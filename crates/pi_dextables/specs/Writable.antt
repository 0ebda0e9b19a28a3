-- What must hold of tables so that bytes can spell them: strings rise, and numbers fit the places that they have.
use Rattle.std.specs.Prelude.{◌≡◌, ◌⊎◌, ℕ, ◌<◌, ◌≤◌, ◌^◌, List, length, map, All, IfSome, is_some, true}
use Rattle.std.specs.Cmp.Lexicographic.{slice_cmp}
use Rattle.std.specs.List.Sorted.{IsNonDecreasing, IsStrictlySortedBy}
use Rattle.std.specs.Ordering.{nat_cmp}
use Rattle.pi_bytes.specs.Numbers.{most_bytes}
use Rattle.pi_format.specs.Rules.Values.{value_bytes}
use Rattle.pi_dextables.specs.declared.tables.Body.{Body}
use Rattle.pi_dextables.specs.declared.tables.Catch.{Catch}
use Rattle.pi_dextables.specs.declared.tables.Catches.{Catches}
use Rattle.pi_dextables.specs.declared.tables.Class.{Class}
use Rattle.pi_dextables.specs.declared.tables.FieldRow.{FieldRow}
use Rattle.pi_dextables.specs.declared.tables.Member.{Member}
use Rattle.pi_dextables.specs.declared.tables.MethodRow.{MethodRow}
use Rattle.pi_dextables.specs.declared.tables.Proto.{Proto}
use Rattle.pi_dextables.specs.declared.tables.Range.{Range}
use Rattle.pi_dextables.specs.declared.tables.Tables.{Tables}
use Rattle.pi_dextables.specs.declared.tables.Value.{Value}
use Rattle.pi_dextables.specs.Codes.{list_place}
use Rattle.pi_dextables.specs.Image.{image}
use Rattle.pi_dextables.specs.Rows.{all_bodies}

abbrev pub IsHalf : ℕ → Type 0
IsHalf n = n < 2 ^ 16

abbrev pub IsWord : ℕ → Type 0
IsWord n = n < 2 ^ 32

pub record ProtoFits (p : Proto) : Type 0 where
  pub short : IsWord p.short
  pub ret : IsHalf p.ret
  pub params : All IsHalf p.params

pub record MemberFits (m : Member) : Type 0 where
  pub class : IsHalf m.class
  pub kind : IsHalf m.kind
  pub name : IsWord m.name

-- the number of a value fits its bytes
pub record ValueFits (v : Value) : Type 0 where
  pub kind : v.kind < 32
  pub arg : v.arg < 8
  pub number : v.number < 256 ^ value_bytes v.kind v.arg

pub record CatchFits (h : Catch) : Type 0 where
  pub ty : IsHalf h.ty
  pub to : IsWord h.to

-- a list has a handler
pub record CatchesFit (l : Catches) : Type 0 where
  pub typed : All CatchFits l.typed
  pub last : IfSome l.last IsWord
  pub some : (0 < length l.typed) ⊎ (is_some l.last ≡ true)

-- a range names one of the lists
pub record RangeFits (lists : List Catches) (r : Range) : Type 0 where
  pub from : IsWord r.from
  pub size : IsHalf r.size
  pub list : r.list < length lists

-- a code without ranges has no lists
pub record BodyFits (b : Body) : Type 0 where
  pub registers : IsHalf b.registers
  pub ins : IsHalf b.ins
  pub outs : IsHalf b.outs
  pub units : All IsHalf b.units
  pub tries : IsHalf (length b.ranges)
  pub ranges : All (RangeFits b.lists) b.ranges
  pub lists : All CatchesFit b.lists
  pub none : length b.ranges ≡ 0 → length b.lists ≡ 0

-- the ids of members do not fall
abbrev pub Rise : List ℕ → Type 0
Rise ids = IsNonDecreasing ids

pub record FieldFits (f : FieldRow) : Type 0 where
  pub id : IsWord f.id
  pub flags : IsWord f.flags

pub record MethodFits (m : MethodRow) : Type 0 where
  pub id : IsWord m.id
  pub flags : IsWord m.flags
  pub code : IfSome m.code BodyFits

pub record ClassFits (c : Class) : Type 0 where
  pub class : IsHalf c.class
  pub flags : IsWord c.flags
  pub parent : IfSome c.parent IsHalf
  pub faces : All IsHalf c.faces
  pub values : All ValueFits c.values
  pub statics : All FieldFits c.statics
  pub statics_rise : Rise (map (λ f. f.id) c.statics)
  pub instances : All FieldFits c.instances
  pub instances_rise : Rise (map (λ f. f.id) c.instances)
  pub directs : All MethodFits c.directs
  pub directs_rise : Rise (map (λ m. m.id) c.directs)
  pub virtuals : All MethodFits c.virtuals
  pub virtuals_rise : Rise (map (λ m. m.id) c.virtuals)

pub record IsWritable (t : Tables) : Type 0 where
  pub strings : All (λ units. All IsHalf units) t.strings
  pub strings_rise : IsStrictlySortedBy (slice_cmp nat_cmp) t.strings
  pub few_types : length t.types ≤ 65535
  pub few_protos : length t.protos ≤ 65535
  pub types : All IsWord t.types
  pub protos : All ProtoFits t.protos
  pub fields : All MemberFits t.fields
  pub methods : All MemberFits t.methods
  pub classes : All ClassFits t.classes

-- the file is no longer than a file may be
abbrev pub IsShort : Tables → Type 0
IsShort t = length (image t) ≤ most_bytes

-- the place of the list of each range fits its 16 bits
abbrev pub PlacesFit : Tables → Type 0
PlacesFit t = All (λ b. All (λ r. IsHalf (list_place b.lists r.list)) b.ranges) (all_bodies t.classes)
