use Rattle.std.proofs.Common.{◌≡◌, ◌≤◌, drop}
use Rattle.pi_job.specs.Numbers.{digits_from}
use Rattle.pi_job.proofs.numbers.digits.Given as goal

abbrev pub invariant-loop-b : goal.invariant-loop-b
invariant-loop-b l = record {
  small : l.above ≤ l.high;
  so_far : digits_from l.base l.above (drop l.b-index l.text) ≡ digits_from l.base 0 l.text;
}
