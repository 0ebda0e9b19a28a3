use Rattle.std.proofs.Common.{◌≡◌, drop}
use Rattle.pi_duty.specs.Small.{lies}
use Rattle.pi_small.proofs.small.lie.Given as goal

abbrev pub invariant-loop-line : goal.invariant-loop-line
invariant-loop-line l = lies l.at l.end (drop l.line-index l.lines) ≡ lies 0 l.end l.lines
