use Rattle.std.proofs.Common.{length, sym, ap, ◌∙◌}
use Rattle.pi_dexdata.specs.Numbers.{no_text}
use Rattle.pi_dexcodes.specs.Caught.{type_numbers}
use Rattle.pi_dexcodes.specs.Laying.{laid_code}
use Rattle.pi_dexcodes.proofs.LinesHeld.{data_near, data_fit}
use Rattle.pi_dexcodes.proofs.Whole.{no_body, body_is, caught_is}
use Rattle.pi_dexcodes.proofs.code.body.Goals as goal

pub units_of-requires-clause-fit : goal.units_of-requires-clause-fit
units_of-requires-clause-fit c = rw c.as_slice-lines.ensures (data_fit no_text c.args.sparse.now c.args.code.now c.requires)

pub units_of-requires-clause-near : goal.units_of-requires-clause-near
units_of-requires-clause-near c = rw c.as_slice-lines.ensures (data_near no_text c.args.sparse.now c.args.code.now c.requires)

pub returns-in_default : goal.returns-in_default
returns-in_default c = λ p text few are.
    no_body p text c.args.sparse.now c.args.code.now c.args.numbers.now are
    (sym c.in_default.is ∙ c.in_ok-units.ensures ∙ ap (laid_code c.args.sparse.now c.args.numbers.now) c.as_slice-lines.ensures)

pub returns : goal.returns
returns c = λ p text few are.
    let numbers = c.args.numbers.now in
    let types =
    caught_is p text c.args.code.now numbers c.as_slice-2.result.now few are
    (c.as_slice-2.ensures.value ∙ c.in_ok-types.ensures ∙ ap (λ ls. type_numbers (length ls) numbers) c.as_slice-lines.ensures) in
    let handlers = rw c.as_slice.ensures at (c.in_ok-handlers.ensures p text) in
    let parts = handlers types in
    body_is p text c.args.sparse.now c.args.code.now numbers c.in-Some.units c.in_ok-handlers.handlers.ranges c.in_ok-handlers.handlers.lists are
    (sym c.in-Some.is ∙ c.in_ok-units.ensures ∙ ap (laid_code c.args.sparse.now numbers) c.as_slice-lines.ensures) parts.0 parts.1
