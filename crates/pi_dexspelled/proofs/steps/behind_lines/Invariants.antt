use Rattle.std.proofs.Common.{◌≡◌, ◌≤◌, ◌^◌, drop}
use Rattle.pi_dexspelled.specs.Tests.{behind_lines, contents}
use Rattle.pi_dexspelled.proofs.steps.behind_lines.Given as goal

abbrev pub invariant-loop-line : goal.invariant-loop-line
invariant-loop-line l = record {
  near : l.at ≤ 2 ^ 31;
  end : behind_lines l.listed l.at (contents (drop l.line-index l.lines)) (contents l.rest) ≡ behind_lines l.listed l.start (contents l.lines) (contents l.behind);
}
