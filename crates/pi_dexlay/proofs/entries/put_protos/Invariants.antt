use Rattle.std.proofs.Common.{◌≡◌, ◌++◌, take}
use Rattle.std.specs.List.{flat_map}
use Rattle.pi_dexlay.specs.Sections.{proto_bytes}
use Rattle.pi_dexlay.proofs.entries.put_protos.Given as goal

abbrev pub invariant-loop-proto : goal.invariant-loop-proto
invariant-loop-proto l = l.out.items ≡ l.fn.out.items ++ flat_map (proto_bytes l.pool.keys l.offsets) (take l.proto-index l.protos)
