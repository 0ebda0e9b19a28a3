use Rattle.std.proofs.Common.{◌≡◌, ◌++◌, drop, map}
use Rattle.pi_format.specs.Says.Classes.{method_desc}
use Rattle.pi_dex.proofs.classes.add_methods.Given as goal

abbrev pub invariant-loop-i : goal.invariant-loop-i
invariant-loop-i l = l.methods ++ map (method_desc l.names) (drop l.i l.rows) ≡ l.fn.methods ++ map (method_desc l.names) l.rows
