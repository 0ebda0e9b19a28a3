use Rattle.std.proofs.Common.{◌≡◌, ◌++◌, ◌+◌, drop, length}
use Rattle.std.specs.List.{flat_map}
use Rattle.pi_parts.specs.Parts.{offsets}
use Rattle.pi_parts.specs.Lebs.{uleb_bytes}
use Rattle.pi_dextables.specs.Codes.{catches_bytes}
use Rattle.pi_dexlay.proofs.codes.lists_of.Given as goal

abbrev pub invariant-loop-list : goal.invariant-loop-list
invariant-loop-list l = record {
  bytes : l.bytes.items ++ flat_map catches_bytes (drop l.list-index l.lists) ≡ uleb_bytes (length l.lists) ++ flat_map catches_bytes l.lists;
  places : l.places.items ++ offsets catches_bytes (0 + length l.bytes.items) (drop l.list-index l.lists)
      ≡ offsets catches_bytes (length (uleb_bytes (length l.lists))) l.lists;
}
