use Rattle.std.proofs.Common.{◌≡◌, ◌+◌, ◌≤◌, length, map, drop}
use Rattle.pi_contents.specs.Named.{catch_content}
use Rattle.pi_classtables.specs.Numbers.{no_pools}
use Rattle.pi_classtables.specs.Ranges.{groups_of}
use Rattle.pi_dexdata.specs.Numbers.{no_text}
use Rattle.pi_dexspelled.proofs.catches.group_count.Given as goal

abbrev pub invariant-loop-place : goal.invariant-loop-place
invariant-loop-place l = record {
  few : l.count ≤ l.place;
  all : l.count + length (groups_of no_pools (map (catch_content no_text) (drop l.place l.tries))) ≡ length (groups_of no_pools (map (catch_content no_text) l.tries));
}
