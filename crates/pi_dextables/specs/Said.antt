-- What a file must say so that its tables are given ones, by the definitions that readers of files are proved by.
use Rattle.std.specs.Prelude.{◌≡◌, ℕ, ◌<◌, ◌+◌, ◌*◌, ◌&&◌, nat_lt, List, [], ◌∷◌, length, map, Option, Some, None, slice_get, Bool, true, false, is_some}
use Rattle.std.specs.List.{list_all}
use Rattle.pi_bytes.specs.Numbers.{in_file}
use Rattle.pi_format.specs.declared.lists.MemberList.TheVariants.{StaticFields, InstanceFields, DirectMethods, VirtualMethods}
use Rattle.pi_format.specs.Tables.{count_at, string_ids, type_ids, proto_ids, field_ids, method_ids, class_defs}
use Rattle.pi_format.specs.Rules.Header.{broken_length, broken_magic, broken_order, broken_header_size, broken_file_size, broken_checksum, broken_signature, broken_tables, broken_data}
use Rattle.pi_format.specs.Rules.Map.{broken_map}
use Rattle.pi_format.specs.Rules.Entries.{list_fits, list_at}
use Rattle.pi_format.specs.Rules.Strings.{string_text, string_units, type_string, broken_strings, broken_string_order}
use Rattle.pi_format.specs.Rules.Members.{proto_entry, member_entry}
use Rattle.pi_format.specs.Rules.Classes.{class_entry}
use Rattle.pi_format.specs.Rules.Rows.{MemberRow, is_behind}
use Rattle.pi_format.specs.Rules.ClassData.{ClassRows, Owner, owner, class_flags, class_rows, rows_of, row_holds, are_apart}
use Rattle.pi_format.specs.Rules.Values.{EncodedValue, class_values, value_fits, field_type}
use Rattle.pi_format.specs.Rules.CodeItems.{CodeHead, HandlerList, code_lies, code_head, tries_at, lists_at, try_range, handler_lists, handler_holds}
use Rattle.pi_format.specs.Rules.Pieces.{code_units}
use Rattle.pi_dextables.specs.declared.tables.Body.{Body}
use Rattle.pi_dextables.specs.declared.tables.Class.{Class}
use Rattle.pi_dextables.specs.declared.tables.Member.{Member}
use Rattle.pi_dextables.specs.declared.tables.MethodRow.{MethodRow}
use Rattle.pi_dextables.specs.declared.tables.Proto.{Proto}
use Rattle.pi_dextables.specs.declared.tables.Range.{Range}
use Rattle.pi_dextables.specs.declared.tables.Tables.{Tables}
use Rattle.pi_dextables.specs.Codes.{list_place, read_lists}
use Rattle.pi_parts.specs.Lebs.{uleb_bytes}
use Rattle.pi_dextables.specs.Image.{parent_word}
use Rattle.pi_dextables.specs.Items.{read_value}
use Rattle.pi_dextables.specs.Rows.{field_row}

-- a file breaks none of the rules X1 to X12
pub record HasForm (file : List ℕ) : Type 0 where
  pub length : broken_length file ≡ None
  pub magic : broken_magic file ≡ None
  pub order : broken_order file ≡ None
  pub header_size : broken_header_size file ≡ None
  pub file_size : broken_file_size file ≡ None
  pub checksum : broken_checksum file ≡ None
  pub signature : broken_signature file ≡ None
  pub tables : broken_tables file ≡ None
  pub data_fits : broken_data file ≡ None
  pub map : broken_map file ≡ None
  pub strings : broken_strings file ≡ None
  pub string_order : broken_string_order file ≡ None

-- what a reader gives that also tests: the thing where the test holds of it, and else nothing
abbrev pub held : {A : Type 0} → Bool → A → Option A
held true x = Some x
held false x = None

-- a string of the file
pub record StringSaid (file : List ℕ) (i : ℕ) (units : List ℕ) : Type 0 where
  pub there : is_some (string_text file i) ≡ true
  pub is : string_units file i ≡ units

-- at an offset stands a list of types, none at offset 0
pub record ListSaid (file : List ℕ) (at : ℕ) (types : List ℕ) : Type 0 where
  pub fits : list_fits file at ≡ true
  pub is : list_at file at ≡ types

pub record ProtoSaid (file : List ℕ) (i : ℕ) (p : Proto) : Type 0 where
  pub short : (proto_entry file i).short ≡ p.short
  pub ret : (proto_entry file i).ret ≡ p.ret
  pub params : ListSaid file (proto_entry file i).params p.params

-- a member of the table whose size stands at that place of the header
abbrev pub MemberSaid : List ℕ → ℕ → ℕ → Member → Type 0
MemberSaid file table i m = member_entry file table i ≡ record { class = m.class; kind = m.kind; name = m.name }

-- the ids of rows rise, from one row to the next
abbrev pub ids_rise : Option ℕ → List MemberRow → Bool
ids_rise before [] = true
ids_rise before (row ∷ rows) = is_behind before row.id && ids_rise (Some row.id) rows

-- the ids rise in each list of a class
abbrev pub lists_rise : ClassRows → Bool
lists_rise rows =
    ids_rise None rows.statics && (ids_rise None rows.instances && (ids_rise None rows.directs && ids_rise None rows.virtuals))

-- the tests on rows: the ids rise in each list, each row is of the kind that its list has, and no member stands in two lists
unfoldable pub rows_hold : List ℕ → Owner → ClassRows → Bool
rows_hold file o rows =
    lists_rise rows
    && (list_all (row_holds file o StaticFields) rows.statics && (list_all (row_holds file o InstanceFields) rows.instances
    && (list_all (row_holds file o DirectMethods) rows.directs && (list_all (row_holds file o VirtualMethods) rows.virtuals
    && (are_apart rows.statics rows.instances && are_apart rows.directs rows.virtuals)))))

-- values fit the first of the fields, one each
abbrev pub values_fit : List ℕ → List MemberRow → List EncodedValue → Bool
values_fit file fields [] = true
values_fit file [] (v ∷ vs) = false
values_fit file (field ∷ fields) (v ∷ vs) = value_fits file (field_type file field.id) v && values_fit file fields vs

-- the handlers of lists name types and units that there are
abbrev pub last_holds : ℕ → Option ℕ → Bool
last_holds units None = true
last_holds units (Some to) = nat_lt to units

abbrev pub handlers_hold : List ℕ → ℕ → HandlerList → Bool
handlers_hold file units l = list_all (handler_holds file units) l.typed && last_holds units l.last

-- the head of the item of a code
abbrev pub head_of : Body → CodeHead
head_of b = record { registers = b.registers; ins = b.ins; outs = b.outs; tries = length b.ranges; units = length b.units }

-- where the first list of handlers of a code stands whose item has that offset
abbrev pub first_list : Body → ℕ → ℕ
first_list b at = lists_at at (head_of b) + length (uleb_bytes (length b.lists))

-- the item of a code stands at an offset
pub record BodySaid (file : List ℕ) (at : ℕ) (b : Body) : Type 0 where
  pub behind : 0 < at
  pub lies : code_lies file at ≡ true
  pub head : code_head file at ≡ head_of b
  pub units : code_units file at ≡ b.units
  pub within : 0 < length b.ranges → in_file file (tries_at at (head_of b)) (8 * length b.ranges) ≡ true
  pub ranges : (k : ℕ) (r : Range) → slice_get b.ranges k ≡ Some r
      → try_range file (tries_at at (head_of b)) k ≡ record { from = r.from; size = r.size; handlers = list_place b.lists r.list }
  pub lists : 0 < length b.ranges → handler_lists file (length b.units) (lists_at at (head_of b))
      ≡ held (list_all (handlers_hold file (length b.units)) (read_lists (first_list b at) b.lists)) (read_lists (first_list b at) b.lists)

abbrev pub CodeSaid : List ℕ → ℕ → Option Body → Type 0
CodeSaid file at None = at ≡ 0
CodeSaid file at (Some b) = BodySaid file at b

pub record MethodSaid (file : List ℕ) (row : MemberRow) (m : MethodRow) : Type 0 where
  pub id : row.id ≡ m.id
  pub flags : row.flags ≡ m.flags
  pub code : CodeSaid file row.code m.code

abbrev pub MethodsSaid : List ℕ → List MemberRow → List MethodRow → Type 0
MethodsSaid file [] [] = Unit {0}
MethodsSaid file (row ∷ rows) (m ∷ ms) = MethodSaid file row m × MethodsSaid file rows ms
MethodsSaid file [] (m ∷ ms) = ⊥
MethodsSaid file (row ∷ rows) [] = ⊥

pub record ClassSaid (file : List ℕ) (i : ℕ) (c : Class) : Type 0 where
  pub class : (class_entry file i).class ≡ c.class
  pub parent : (class_entry file i).parent ≡ parent_word c.parent
  pub faces : ListSaid file (class_entry file i).faces c.faces
  pub flags : class_flags file i ≡ c.flags
  pub rows : ClassRows
  pub statics : rows.statics ≡ map field_row c.statics
  pub instances : rows.instances ≡ map field_row c.instances
  pub directs : MethodsSaid file rows.directs c.directs
  pub virtuals : MethodsSaid file rows.virtuals c.virtuals
  pub listed : class_rows file i ≡ held (rows_hold file (owner file i) rows) rows
  pub values : class_values file i ≡ held (values_fit file (rows_of file i).statics (map read_value c.values)) (map read_value c.values)

-- the tables of the file are those
pub record IsSaid (file : List ℕ) (t : Tables) : Type 0 where
  pub strings : count_at file string_ids ≡ length t.strings
  pub string : (i : ℕ) (units : List ℕ) → slice_get t.strings i ≡ Some units → StringSaid file i units
  pub types : count_at file type_ids ≡ length t.types
  pub ty : (i : ℕ) (string : ℕ) → slice_get t.types i ≡ Some string → type_string file i ≡ string
  pub protos : count_at file proto_ids ≡ length t.protos
  pub proto : (i : ℕ) (p : Proto) → slice_get t.protos i ≡ Some p → ProtoSaid file i p
  pub fields : count_at file field_ids ≡ length t.fields
  pub field : (i : ℕ) (m : Member) → slice_get t.fields i ≡ Some m → MemberSaid file field_ids i m
  pub methods : count_at file method_ids ≡ length t.methods
  pub method : (i : ℕ) (m : Member) → slice_get t.methods i ≡ Some m → MemberSaid file method_ids i m
  pub classes : count_at file class_defs ≡ length t.classes
  pub class : (i : ℕ) (c : Class) → slice_get t.classes i ≡ Some c → ClassSaid file i c
