use Rattle.std.proofs.Common.{◌++◌}
use Rattle.pi_base.proofs.Taken.{puts_stops, puts_then}
use Rattle.pi_top.proofs.lines.put_three.Goals as goal

pub returns-in_err-put_two : goal.returns-in_err-put_two
returns-in_err-put_two g c = puts_stops (c.args.first.now ++ c.args.second.now) (c.args.third.now) c.put_two.result c.in_err-put_two.field-0.0 c.from_residual.result _ _ c.in_err-put_two.was c.from_residual.ensures.0 c.put_two.ensures

pub returns : goal.returns
returns g c = puts_then (c.args.first.now ++ c.args.second.now) (c.args.third.now) c.put_two.result c.in_ok-put_two.field-0 c.put.result _ _ _ c.in_ok-put_two.was c.put_two.ensures c.put.ensures
