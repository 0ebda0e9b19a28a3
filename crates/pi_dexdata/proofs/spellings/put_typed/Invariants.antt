use Rattle.std.proofs.Common.{◌≡◌, ◌++◌, take}
use Rattle.std.specs.List.{flat_map}
use Rattle.pi_dexdata.specs.Grouped.{catch_numbers}
use Rattle.pi_dexdata.proofs.spellings.put_typed.Given as goal

abbrev pub invariant-loop-handler : goal.invariant-loop-handler
invariant-loop-handler l = l.out.items ≡ l.fn.out.items ++ flat_map catch_numbers (take l.handler-index l.typed)
