use Rattle.pi_job.proofs.Utf8.{is_text, is_no_text}
use Rattle.pi_job.proofs.units.text_units.Goals as goal

pub returns-in_ok-units_of-in-Ok : goal.returns-in_ok-units_of-in-Ok
returns-in_ok-units_of-in-Ok c =
    is_text c.args.bytes.now c.in-Ok.text.now c.in_ok-units_of-in-Ok.field-0 c.in-Ok.ensures.cases.0 c.in-Ok.ensures.cases.1 c.in_ok-units_of-in-Ok.ensures

pub returns-in-Err : goal.returns-in-Err
returns-in-Err c = is_no_text c.args.bytes.now c.in-Err.ensures.cases.0
