use Rattle.std.proofs.Common.{◌≡◌, ◌-◌, ◌++◌}
use Rattle.pi_format.specs.Tables.{count_at, class_defs}
use Rattle.pi_dex.specs.Shared.{offsets_from, code_offsets}
use Rattle.pi_dex.proofs.offsets.all_offsets.Given as goal

abbrev pub invariant-loop-i : goal.invariant-loop-i
invariant-loop-i l = l.offsets.items ++ offsets_from l.raw l.i (count_at l.raw class_defs - l.i) ≡ code_offsets l.raw
