use Rattle.std.proofs.Common.{◌≡◌, ◌-◌, ◌++◌}
use Rattle.pi_format.specs.Tables.{count_at, class_defs}
use Rattle.pi_format.specs.Rules.Lowest.{tabulation}
use Rattle.pi_format.specs.Says.Classes.{class_desc, classes_said}
use Rattle.pi_dex.proofs.classes.classes.Given as goal

abbrev pub invariant-loop-i : goal.invariant-loop-i
invariant-loop-i l = l.classes ++ tabulation (class_desc l.names l.number) l.i (count_at l.names.file class_defs - l.i) ≡ classes_said l.names l.number
