use Rattle.std.proofs.Common.{◌≡◌, ◌-◌}
use Rattle.std.specs.Prelude.{◌==◌, ◌&&◌}
use Rattle.pi_format.specs.Rules.Entries.{some_from}
use Rattle.pi_format.specs.Rules.Map.{item_count, item_type, item_size, item_offset, has_item}
use Rattle.pi_dexraw.proofs.map.has.Given as goal

abbrev pub invariant-loop-i : goal.invariant-loop-i
invariant-loop-i l =
    some_from (λ i. (item_type l.file i == l.wanted) && ((item_size l.file i == l.number) && (item_offset l.file i == l.at))) l.i (item_count l.file - l.i)
    ≡ has_item l.file l.wanted l.number l.at
