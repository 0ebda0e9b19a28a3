use Rattle.std.proofs.Common.{◌≡◌, ◌++◌, take, drop}
use Rattle.pi_dexcodes.specs.Front.{front_lines, end_of_lines}
use Rattle.pi_dexcodes.proofs.front.front_of.Given as goal

abbrev pub invariant-loop-count : goal.invariant-loop-count
invariant-loop-count l = record {
  lines : take l.count l.lines ++ front_lines l.end (drop l.count l.lines) ≡ front_lines 0 l.lines;
  end : end_of_lines l.end (front_lines l.end (drop l.count l.lines)) ≡ end_of_lines 0 (front_lines 0 l.lines);
}
