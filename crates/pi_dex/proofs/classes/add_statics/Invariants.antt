use Rattle.std.proofs.Common.{◌≡◌, ◌++◌, drop}
use Rattle.pi_format.specs.Says.Classes.{static_fields}
use Rattle.pi_dex.proofs.classes.add_statics.Given as goal

abbrev pub invariant-loop-i : goal.invariant-loop-i
invariant-loop-i l = l.fields ++ static_fields l.names (drop l.i l.rows) (drop l.i l.values) ≡ l.fn.fields ++ static_fields l.names l.rows l.values
