use Rattle.std.proofs.Common.{arith}
use Rattle.pi_job.proofs.Fields.{others}
use Rattle.pi_job.proofs.reading.add_fields.Goals as goal

pub returns-in_default : goal.returns-in_default
returns-in_default c =
    let h = c.in_default.len_below in
    others c.args.job.now c.args.draft.now (λ x. x.now) c.args.fields.now (λ e. omega arith) (λ e. omega arith) (λ e. omega arith)

pub returns-in_default-2 : goal.returns-in_default-2
returns-in_default-2 c =
    let g = c.in_default.len_at_least in let h = c.in_default.len_below in
    others c.args.job.now c.args.draft.now (λ x. x.now) c.args.fields.now (λ e. omega arith) (λ e. omega arith) (λ e. omega arith)

pub returns-in_default-3 : goal.returns-in_default-3
returns-in_default-3 c =
    let g = c.in_default.len_at_least in
    others c.args.job.now c.args.draft.now (λ x. x.now) c.args.fields.now (λ e. omega arith) (λ e. omega arith) (λ e. omega arith)
