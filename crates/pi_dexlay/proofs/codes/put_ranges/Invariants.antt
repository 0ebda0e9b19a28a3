use Rattle.std.proofs.Common.{◌≡◌, ◌++◌, take}
use Rattle.std.specs.List.{flat_map}
use Rattle.pi_dextables.specs.Codes.{range_bytes}
use Rattle.pi_dexlay.proofs.codes.put_ranges.Given as goal

abbrev pub invariant-loop-range : goal.invariant-loop-range
invariant-loop-range l = l.out.items ≡ l.fn.out.items ++ flat_map (range_bytes l.places) (take l.range-index l.ranges)
