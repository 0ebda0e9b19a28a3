use Rattle.std.proofs.Common.{◌++◌, codes}
use Rattle.std.specs.Prelude.{decimal}
use Rattle.pi_duty.specs.Lines.{place_line}
use Rattle.pi_base.proofs.Taken.{puts_stops, puts_then}
use Rattle.pi_top.proofs.lines.put_rule.Goals as goal

pub returns-in_err-put_number : goal.returns-in_err-put_number
returns-in_err-put_number g c = puts_stops (codes ": rule " ++ decimal c.args.rule) (place_line c.args.at) c.put_number.result c.in_err-put_number.field-0.0 c.from_residual.result _ _ c.in_err-put_number.was c.from_residual.ensures.0 c.put_number.ensures

pub returns : goal.returns
returns g c = puts_then (codes ": rule " ++ decimal c.args.rule) (place_line c.args.at) c.put_number.result c.in_ok-put_number.field-0 c.put_place.result _ _ _ c.in_ok-put_number.was c.put_number.ensures c.put_place.ensures
