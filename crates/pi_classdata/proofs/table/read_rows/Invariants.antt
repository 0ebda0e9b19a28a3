use Rattle.std.proofs.Common.{◌≡◌, ◌-◌, ◌++◌}
use Rattle.std.specs.Prelude.{is_some}
use Rattle.pi_format.specs.Tables.{count_at, class_defs}
use Rattle.pi_format.specs.Rules.Header.{unless}
use Rattle.pi_format.specs.Rules.Lowest.{lower, lowest_from, tabulation}
use Rattle.pi_format.specs.Rules.ClassData.{class_data_at, class_rows, rows_of, broken_class_data}
use Rattle.pi_classdata.proofs.table.read_rows.Given as goal

abbrev pub invariant-loop-i : goal.invariant-loop-i
invariant-loop-i l = record {
  lowest : lower l.broken (lowest_from (λ k. unless (is_some (class_rows l.raw k)) (class_data_at l.raw k)) l.i (count_at l.raw class_defs - l.i)) ≡ broken_class_data l.raw;
  so_far : l.classes.items ++ tabulation (rows_of l.raw) l.i (count_at l.raw class_defs - l.i) ≡ tabulation (rows_of l.raw) 0 (count_at l.raw class_defs);
}
