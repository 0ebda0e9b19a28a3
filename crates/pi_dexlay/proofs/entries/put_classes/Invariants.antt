use Rattle.std.proofs.Common.{◌≡◌, ◌++◌, drop}
use Rattle.std.specs.List.{flat_map}
use Rattle.pi_parts.specs.Parts.{words}
use Rattle.pi_dexlay.specs.Sections.{all_definitions}
use Rattle.pi_dexlay.proofs.entries.put_classes.Given as goal

abbrev pub invariant-loop-i : goal.invariant-loop-i
invariant-loop-i l =
    l.out.items ++ flat_map words (all_definitions l.pools l.made (drop l.i l.classes) (drop l.i l.members))
    ≡ l.fn.out.items ++ flat_map words (all_definitions l.pools l.made l.classes l.members)
