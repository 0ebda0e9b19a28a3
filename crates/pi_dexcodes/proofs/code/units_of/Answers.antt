use Rattle.std.proofs.Common.{arith}
use Rattle.pi_dexcodes.specs.Front.{front_lines, end_of_lines}
use Rattle.pi_dexcodes.proofs.Near.{at_most_end}
use Rattle.pi_dexcodes.proofs.code.units_of.Goals as goal

pub overflow_cast-front : goal.overflow_cast-front
overflow_cast-front c =
    let lines = front_lines 0 c.args.lines.now in
    omega (arith, at_most_end c.args.listed.now (end_of_lines 0 lines) lines)
