use Rattle.std.proofs.Common.{◌≡◌, ◌-◌}
use Rattle.std.specs.Prelude.{◌==◌}
use Rattle.pi_format.specs.Rules.Entries.{some_from}
use Rattle.pi_format.specs.Rules.Map.{item_count, item_type}
use Rattle.pi_dexraw.proofs.map.lacks.Given as goal

abbrev pub invariant-loop-i : goal.invariant-loop-i
invariant-loop-i l =
    some_from (λ i. item_type l.file i == l.wanted) l.i (item_count l.file - l.i) ≡ some_from (λ i. item_type l.file i == l.wanted) 0 (item_count l.file)
