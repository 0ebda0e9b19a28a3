use Rattle.std.proofs.Common.{◌≡◌, ◌++◌, drop, map}
use Rattle.std.specs.List.{flat_map}
use Rattle.pi_dextables.specs.Image.{item_bytes, standing}
use Rattle.pi_dexlay.specs.Layout.{read_item}
use Rattle.pi_dexlay.proofs.layout.put_items.Given as goal

abbrev pub invariant-loop-item : goal.invariant-loop-item
invariant-loop-item l =
    l.out.items ++ flat_map item_bytes (standing (map read_item (drop l.item-index l.items)))
    ≡ l.fn.out.items ++ flat_map item_bytes (standing (map read_item l.items))
