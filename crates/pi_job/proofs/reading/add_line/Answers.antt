use Rattle.std.proofs.Common.{ap, map, ◌∙◌}
use Rattle.pi_job.proofs.Fields.{no_text}
use Rattle.pi_job.proofs.Args.{is_arg, is_other}
use Rattle.pi_job.proofs.reading.add_line.Goals as goal

pub returns-in_default : goal.returns-in_default
returns-in_default c = no_text c.args.job.now c.args.draft.now c.args.line.now c.in_default.ensures.cases.0

pub returns-in-Some : goal.returns-in-Some
returns-in-Some c =
    let h = c.in-Some.ensures.cases in
    rw (is_arg c.args.job.now c.args.draft.now c.args.line.now c.in-Ok.text.now c.in-Some.arg.now h.0 c.in-Ok.ensures.cases.1 c.in-Ok.ensures.cases.0 h.1.0 h.1.1 h.2)
    c.add_arg.ensures

pub returns-in_ok-fields-in-None : goal.returns-in_ok-fields-in-None
returns-in_ok-fields-in-None c =
    rw (is_other c.args.job.now c.args.draft.now c.args.line.now c.in-Ok.text.now _ c.in-Ok.ensures.cases.1 c.in-Ok.ensures.cases.0 c.in-None.ensures.cases (ap (map (λ x. x.now)) c.as_slice.ensures.value ∙ c.in_ok-fields-in-None.ensures))
    c.add_fields.ensures
