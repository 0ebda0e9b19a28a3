use Rattle.std.proofs.Common.{◌≡◌, ◌++◌, drop, length, None}
use Rattle.pi_dextables.specs.Rows.{bodies_in, method_rows, rows_bytes}
use Rattle.pi_dexlay.proofs.rows.put_methods.Given as goal

abbrev pub invariant-loop-method : goal.invariant-loop-method
invariant-loop-method l = record {
  rows : l.out.items ++ rows_bytes l.list l.before (method_rows l.left (drop l.method-index l.methods)) ≡ l.fn.out.items ++ rows_bytes l.list None (method_rows l.offsets l.methods);
  left : drop (length (bodies_in (drop l.method-index l.methods))) l.left ≡ drop (length (bodies_in l.methods)) l.offsets;
}
