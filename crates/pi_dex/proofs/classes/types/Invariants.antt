use Rattle.std.proofs.Common.{◌≡◌, ◌-◌, ◌++◌}
use Rattle.pi_format.specs.Tables.{count_at, type_ids}
use Rattle.pi_format.specs.Rules.Lowest.{tabulation}
use Rattle.pi_format.specs.Says.Names.{type_name}
use Rattle.pi_format.specs.Says.Classes.{types_said}
use Rattle.pi_dex.proofs.classes.types.Given as goal

abbrev pub invariant-loop-t : goal.invariant-loop-t
invariant-loop-t l = l.types ++ tabulation (type_name l.names) l.t (count_at l.names.file type_ids - l.t) ≡ types_said l.names
