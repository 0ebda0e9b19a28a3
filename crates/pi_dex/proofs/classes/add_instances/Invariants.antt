use Rattle.std.proofs.Common.{◌≡◌, ◌++◌, drop, map}
use Rattle.pi_model.specs.declared.describe.Init.TheVariants.{Zero}
use Rattle.pi_format.specs.Says.Classes.{field_desc}
use Rattle.pi_dex.proofs.classes.add_instances.Given as goal

abbrev pub invariant-loop-i : goal.invariant-loop-i
invariant-loop-i l = l.fields ++ map (field_desc l.names Zero) (drop l.i l.rows) ≡ l.fn.fields ++ map (field_desc l.names Zero) l.rows
