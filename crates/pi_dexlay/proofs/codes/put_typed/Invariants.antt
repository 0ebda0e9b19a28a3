use Rattle.std.proofs.Common.{◌≡◌, ◌++◌, take}
use Rattle.std.specs.List.{flat_map}
use Rattle.pi_dextables.specs.Codes.{catch_bytes}
use Rattle.pi_dexlay.proofs.codes.put_typed.Given as goal

abbrev pub invariant-loop-handler : goal.invariant-loop-handler
invariant-loop-handler l = l.out.items ≡ l.fn.out.items ++ flat_map catch_bytes (take l.handler-index l.typed)
