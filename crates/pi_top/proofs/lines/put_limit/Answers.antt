use Rattle.pi_duty.specs.Lines.{made_line, step_limit_line}
use Rattle.pi_base.proofs.Taken.{puts_stops, puts_then}
use Rattle.pi_top.proofs.lines.put_limit.Goals as goal

pub returns-in_err-put : goal.returns-in_err-put
returns-in_err-put g c = puts_stops (step_limit_line) (made_line c.args.steps) c.put.result c.in_err-put.field-0.0 c.from_residual.result _ _ c.in_err-put.was c.from_residual.ensures.0 c.put.ensures

pub returns : goal.returns
returns g c = puts_then (step_limit_line) (made_line c.args.steps) c.put.result c.in_ok-put.field-0 c.put_made.result _ _ _ c.in_ok-put.was c.put.ensures c.put_made.ensures
