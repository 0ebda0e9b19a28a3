use Rattle.std.proofs.Common.{◌≡◌, map}
use Rattle.pi_classtables.specs.Ranges.{lists_of, ranges_of}
use Rattle.pi_dexdata.specs.Grouped.{spelled}
use Rattle.pi_dexdata.proofs.numbered.number_lists.Given as goal

abbrev pub invariant-loop-group : goal.invariant-loop-group
invariant-loop-group l = record {
  spellings : l.spellings.keys ≡ map spelled l.lists;
  lists : l.lists ≡ lists_of l.yielded;
  ranges : l.ranges ≡ ranges_of l.yielded;
}
