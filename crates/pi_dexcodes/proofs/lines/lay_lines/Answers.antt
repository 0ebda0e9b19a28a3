use Rattle.std.proofs.Common.{◌^◌}
use Rattle.pi_dexcodes.proofs.Near.{item_near}
use Rattle.pi_dexcodes.proofs.lines.lay_lines.Goals as goal

pub add_line-requires-clause-near : goal.add_line-requires-clause-near
add_line-requires-clause-near c =
    item_near c.args.listed.now c.loop-line.laid.next (2 ^ 31) c.loop-line.line-index c.line-item.result c.args.lines.now
    c.loop-line-test.true c.line-item.is c.loop-line.invariant.near
