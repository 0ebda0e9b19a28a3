use Rattle.std.proofs.Common.{◌-◌}
use Rattle.pi_format.specs.Tables.{count_at, type_ids, class_defs}
use Rattle.pi_dexids.specs.Facts.{AreFacts, first_definition}
use Rattle.pi_dexids.proofs.types.firsts.Given as goal

abbrev pub invariant-loop-done : goal.invariant-loop-done
invariant-loop-done l = AreFacts (first_definition l.file (count_at l.file class_defs - l.done)) (count_at l.file type_ids) l.list.items
