-- The lists of the members of a class.
use Rattle.std.specs.Prelude.{List}
use Rattle.pi_dexrows.specs.declared.fields.FieldPart.{FieldPart}
use Rattle.pi_dexrows.specs.declared.field_lists.FieldLists.{FieldLists}
use Rattle.pi_dexrows.specs.Parts.{statics_among, instances_among, set_values, rows_of}

-- static fields with their values, and the others
abbrev pub field_lists : List FieldPart → FieldLists
field_lists parts = record {
  values = set_values (statics_among parts);
  statics = rows_of (statics_among parts);
  instances = rows_of (instances_among parts);
}
