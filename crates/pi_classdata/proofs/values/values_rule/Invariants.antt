use Rattle.std.proofs.Common.{◌≡◌, ◌-◌}
use Rattle.std.specs.Prelude.{is_some}
use Rattle.pi_format.specs.Tables.{count_at, class_defs}
use Rattle.pi_format.specs.Rules.Header.{unless}
use Rattle.pi_format.specs.Rules.Lowest.{lower, lowest_from}
use Rattle.pi_format.specs.Rules.ClassData.{class_values_at}
use Rattle.pi_format.specs.Rules.Values.{class_values, broken_values}
use Rattle.pi_classdata.proofs.values.values_rule.Given as goal

abbrev pub invariant-loop-i : goal.invariant-loop-i
invariant-loop-i l =
    lower l.broken (lowest_from (λ k. unless (is_some (class_values l.raw k)) (class_values_at l.raw k)) l.i (count_at l.raw class_defs - l.i)) ≡ broken_values l.raw
