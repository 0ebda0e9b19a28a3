use Rattle.std.proofs.Common.{◌≡◌, ◌-◌}
use Rattle.pi_format.specs.Tables.{count_at, class_defs}
use Rattle.pi_format.specs.Rules.Lowest.{lower, lowest_from}
use Rattle.pi_dex.specs.Shared.{words_place, lowest_words}
use Rattle.pi_dex.proofs.Items.{class_place}
use Rattle.pi_dex.proofs.code_rules.broken_words.Given as goal

abbrev pub invariant-loop-i : goal.invariant-loop-i
invariant-loop-i l = lower l.lowest (lowest_from (class_place words_place l.raw) l.i (count_at l.raw class_defs - l.i)) ≡ lowest_words l.raw
