use Rattle.std.proofs.Common.{◌≡◌, ◌++◌, take}
use Rattle.std.specs.List.{flat_map}
use Rattle.pi_dextables.specs.Items.{encoded_bytes}
use Rattle.pi_dexlay.proofs.items.put_values.Given as goal

abbrev pub invariant-loop-value : goal.invariant-loop-value
invariant-loop-value l = l.out.items ≡ l.fn.out.items ++ flat_map encoded_bytes (take l.value-index l.values)
