use Rattle.std.proofs.Common.{◌≡◌, ◌≤◌, ◌^◌, [], drop}
use Rattle.pi_dexcodes.specs.Front.{end_of_data}
use Rattle.pi_dexcodes.specs.Laying.{laid_lines}
use Rattle.pi_dexcodes.proofs.lines.lay_lines.Given as goal

abbrev pub invariant-loop-line : goal.invariant-loop-line
invariant-loop-line l = record {
  near : end_of_data l.listed l.laid.next (drop l.line-index l.lines) ≤ 2 ^ 31;
  so_far : laid_lines l.listed l.left l.laid (drop l.line-index l.lines)
      ≡ laid_lines l.listed l.numbers (record { units = []; payloads = []; next = l.start }) l.lines;
}
