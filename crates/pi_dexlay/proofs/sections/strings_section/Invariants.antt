use Rattle.std.proofs.Common.{◌≡◌, ◌++◌, ◌+◌, drop, length}
use Rattle.std.specs.List.{flat_map}
use Rattle.pi_parts.specs.Parts.{offsets}
use Rattle.pi_dextables.specs.Items.{string_item}
use Rattle.pi_dexlay.proofs.sections.strings_section.Given as goal

abbrev pub invariant-loop-units : goal.invariant-loop-units
invariant-loop-units l = record {
  bytes : l.bytes.items ++ flat_map string_item (drop l.units-index l.strings) ≡ flat_map string_item l.strings;
  offsets : l.offsets.items ++ offsets string_item (l.begin + length l.bytes.items) (drop l.units-index l.strings)
      ≡ offsets string_item l.begin l.strings;
}
