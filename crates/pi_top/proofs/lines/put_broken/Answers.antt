use Rattle.std.proofs.Common.{◌++◌, codes}
use Rattle.pi_duty.specs.Lines.{rule_line}
use Rattle.pi_base.proofs.Taken.{puts_stops, puts_then}
use Rattle.pi_top.proofs.lines.put_broken.Goals as goal

pub returns-in_err-put_two : goal.returns-in_err-put_two
returns-in_err-put_two g c = puts_stops (codes "dex " ++ c.args.name.now) (rule_line c.args.rule c.args.at) c.put_two.result c.in_err-put_two.field-0.0 c.from_residual.result _ _ c.in_err-put_two.was c.from_residual.ensures.0 c.put_two.ensures

pub returns : goal.returns
returns g c = puts_then (codes "dex " ++ c.args.name.now) (rule_line c.args.rule c.args.at) c.put_two.result c.in_ok-put_two.field-0 c.put_rule.result _ _ _ c.in_ok-put_two.was c.put_two.ensures c.put_rule.ensures
