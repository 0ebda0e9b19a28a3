use Rattle.std.proofs.Common.{◌≡◌, ◌-◌, ◌≤◌, length, drop}
use Rattle.pi_bytes.specs.Mutf8.{with_front, units_from}
use Rattle.pi_bytes.proofs.mutf8.mutf8_units.Given as goal

abbrev pub invariant-loop-read : goal.invariant-loop-read
invariant-loop-read l = record {
  within : l.at ≤ length l.bytes;
  so_far : with_front l.units (units_from (l.count - l.read) l.at (drop l.at l.bytes)) ≡ units_from l.count 0 l.bytes;
}
