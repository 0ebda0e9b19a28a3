-- The members that classes list, with the offsets of their codes, and the bytes of class data.
use Rattle.std.specs.Prelude.{ℕ, ◌-◌, ◌==◌, ◌&&◌, List, [], ◌∷◌, ◌++◌, length, drop, map, Option, Some, None, Bool, true, false, if◌then◌else◌}
use Rattle.pi_format.specs.declared.lists.MemberList.{MemberList}
use Rattle.pi_format.specs.declared.lists.MemberList.TheVariants.{StaticFields, InstanceFields, DirectMethods, VirtualMethods}
use Rattle.pi_format.specs.Rules.Rows.{MemberRow, has_code, counted_from}
use Rattle.pi_format.specs.Rules.ClassData.{ClassRows}
use Rattle.pi_parts.specs.Lebs.{uleb_bytes}
use Rattle.pi_dextables.specs.declared.tables.Body.{Body}
use Rattle.pi_dextables.specs.declared.tables.Class.{Class}
use Rattle.pi_dextables.specs.declared.tables.FieldRow.{FieldRow}
use Rattle.pi_dextables.specs.declared.tables.MethodRow.{MethodRow}

-- the codes of methods, and of all classes, in order: the direct methods of a class stand before its virtual ones
abbrev pub with_body : Option Body → List Body → List Body
with_body None bodies = bodies
with_body (Some b) bodies = b ∷ bodies

abbrev pub bodies_in : List MethodRow → List Body
bodies_in [] = []
bodies_in (m ∷ ms) = with_body m.code (bodies_in ms)

abbrev pub bodies_of : Class → List Body
bodies_of c = bodies_in c.directs ++ bodies_in c.virtuals

abbrev pub all_bodies : List Class → List Body
all_bodies [] = []
all_bodies (c ∷ cs) = bodies_of c ++ all_bodies cs

-- the first of the offsets for a method that has a code, 0 for another; and the offsets that are left
abbrev pub next_offset : Option Body → List ℕ → ℕ
next_offset None offsets = 0
next_offset (Some b) [] = 0
next_offset (Some b) (o ∷ offsets) = o

abbrev pub offsets_left : Option Body → List ℕ → List ℕ
offsets_left None offsets = offsets
offsets_left (Some b) offsets = drop 1 offsets

abbrev pub field_row : FieldRow → MemberRow
field_row f = record { id = f.id; flags = f.flags; code = 0 }

abbrev pub method_row : List ℕ → MethodRow → MemberRow
method_row offsets m = record { id = m.id; flags = m.flags; code = next_offset m.code offsets }

-- methods as rows, where the codes among them stand at the first of the offsets, in order
abbrev pub method_rows : List ℕ → List MethodRow → List MemberRow
method_rows offsets [] = []
method_rows offsets (m ∷ ms) = method_row offsets m ∷ method_rows (offsets_left m.code offsets) ms

abbrev pub class_rows_with : List ℕ → Class → ClassRows
class_rows_with offsets c = record {
  statics = map field_row c.statics;
  instances = map field_row c.instances;
  directs = method_rows offsets c.directs;
  virtuals = method_rows (drop (length (bodies_in c.directs)) offsets) c.virtuals;
}

abbrev pub all_rows : List ℕ → List Class → List ClassRows
all_rows offsets [] = []
all_rows offsets (c ∷ cs) = class_rows_with offsets c ∷ all_rows (drop (length (bodies_of c)) offsets) cs

-- a row: how far its id is behind that of the row before it, its flags, and for a method the offset of its code
abbrev pub code_bytes : Bool → ℕ → List ℕ
code_bytes false code = []
code_bytes true code = uleb_bytes code

unfoldable pub row_bytes : MemberList → Option ℕ → MemberRow → List ℕ
row_bytes list before row =
    uleb_bytes (row.id - counted_from before) ++ (uleb_bytes row.flags ++ code_bytes (has_code list) row.code)

abbrev pub rows_bytes : MemberList → Option ℕ → List MemberRow → List ℕ
rows_bytes list before [] = []
rows_bytes list before (row ∷ rows) = row_bytes list before row ++ rows_bytes list (Some row.id) rows

-- how many rows the four lists have
abbrev pub count_bytes : ClassRows → List ℕ
count_bytes rows =
    uleb_bytes (length rows.statics) ++ (uleb_bytes (length rows.instances)
    ++ (uleb_bytes (length rows.directs) ++ uleb_bytes (length rows.virtuals)))

-- the class data of a class: the counts, then the rows of each list
unfoldable pub class_item : ClassRows → List ℕ
class_item rows =
    count_bytes rows ++ (rows_bytes StaticFields None rows.statics ++ (rows_bytes InstanceFields None rows.instances
    ++ (rows_bytes DirectMethods None rows.directs ++ rows_bytes VirtualMethods None rows.virtuals)))

-- a class without members has no class data
abbrev pub has_no_rows : ClassRows → Bool
has_no_rows rows =
    (length rows.statics == 0) && ((length rows.instances == 0) && ((length rows.directs == 0) && (length rows.virtuals == 0)))

unfoldable pub class_data : ClassRows → List ℕ
class_data rows = if has_no_rows rows then [] else class_item rows
