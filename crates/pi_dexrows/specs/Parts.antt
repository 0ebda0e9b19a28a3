-- The parts of the row of a class, as they stand before they are arranged.
use Rattle.std.specs.Prelude.{ℕ, ◌++◌, not, List, [], ◌∷◌, map, filter, if◌then◌else◌}
use Rattle.std.specs.List.{list_any}
use Rattle.std.specs.declared.cmp.Ordering.{Ordering}
use Rattle.std.specs.Ordering.{nat_cmp}
use Rattle.pi_model.specs.declared.describe.FieldDesc.{FieldDesc}
use Rattle.pi_model.specs.declared.numbers.NameNo.{NameNo}
use Rattle.pi_model.specs.Flags.{is_static}
use Rattle.pi_dextables.specs.declared.tables.FieldRow.{FieldRow}
use Rattle.pi_dextables.specs.declared.tables.Value.{Value}
use Rattle.pi_contents.specs.Contents.{FieldContent}
use Rattle.pi_contents.specs.Named.{field_content}
use Rattle.pi_contents.specs.Naming.{named_by_field}
use Rattle.pi_contents.specs.Asked.{has_init}
use Rattle.pi_classtables.specs.Numbers.{Pools, index_of}
use Rattle.pi_classtables.specs.Sorted.{arranged}
use Rattle.pi_classtables.specs.Values.{value_of}
use Rattle.pi_classtables.specs.Whole.{field_row}
use Rattle.pi_dexrows.specs.declared.fields.FieldPart.{FieldPart}

-- a field of a class as a row, with the value that sets it and whether one does
abbrev pub part_of : Pools → List ℕ → FieldContent → FieldPart
part_of p class f = record { row = field_row p class f; value = value_of p f.ty f.init; is_set = has_init f.init }

abbrev pub parts_of : Pools → (NameNo → List ℕ) → List ℕ → List FieldDesc → List FieldPart
parts_of p text class [] = []
parts_of p text class (f ∷ fs) = part_of p class (field_content text f) ∷ parts_of p text class fs

-- the numbers of what fields name, before others
abbrev pub field_numbers : Pools → (NameNo → List ℕ) → List ℕ → List FieldDesc → List ℕ → List ℕ
field_numbers p text class [] rest = rest
field_numbers p text class (f ∷ fs) rest = map (index_of p) (named_by_field class (field_content text f)) ++ field_numbers p text class fs rest

-- fields rise by their numbers
abbrev pub by_field_id : FieldPart → FieldPart → Ordering
by_field_id x y = nat_cmp x.row.id y.row.id

abbrev pub statics_among : List FieldPart → List FieldPart
statics_among parts = arranged by_field_id (filter (λ (f : FieldPart). is_static f.row.flags) parts)

abbrev pub instances_among : List FieldPart → List FieldPart
instances_among parts = arranged by_field_id (filter (λ (f : FieldPart). not (is_static f.row.flags)) parts)

-- the values of fields up to the last one that is set
abbrev pub set_values : List FieldPart → List Value
set_values [] = []
set_values (f ∷ fs) = if list_any (λ (g : FieldPart). g.is_set) (f ∷ fs) then f.value ∷ set_values fs else []

abbrev pub rows_of : List FieldPart → List FieldRow
rows_of parts = map (λ (f : FieldPart). f.row) parts
