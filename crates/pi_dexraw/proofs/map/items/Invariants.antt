use Rattle.std.proofs.Common.{◌≡◌, ◌-◌}
use Rattle.std.specs.Prelude.{◌==◌, ◌&&◌}
use Rattle.pi_format.specs.Rules.Entries.{some_from, each_from}
use Rattle.pi_format.specs.Rules.Map.{item_count, item_type, item_rises, item_is_new, item_ends, items_hold}
use Rattle.pi_dexids.specs.Facts.{AreFacts}
use Rattle.pi_dexraw.proofs.map.items.Given as goal

abbrev pub invariant-loop-i : goal.invariant-loop-i
invariant-loop-i l = record {
  seen : AreFacts (λ t. some_from (λ k. item_type l.file k == t) 0 l.i) 65536 l.seen.items;
  so_far : each_from (λ i. item_rises l.file i && (item_is_new l.file i && item_ends l.file i)) l.i (item_count l.file - l.i) ≡ items_hold l.file;
}
