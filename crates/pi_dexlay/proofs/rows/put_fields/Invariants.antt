use Rattle.std.proofs.Common.{◌≡◌, ◌++◌, drop, map}
use Rattle.pi_dextables.specs.Rows.{field_row, rows_bytes}
use Rattle.pi_dexlay.proofs.rows.put_fields.Given as goal

abbrev pub invariant-loop-field : goal.invariant-loop-field
invariant-loop-field l =
    l.out.items ++ rows_bytes l.list l.before (map field_row (drop l.field-index l.fields)) ≡ l.fn.out.items ++ rows_bytes l.list l.fn.before (map field_row l.fields)
