use Rattle.std.proofs.Common.{ℕ, take, Option, Some, option_map, sym, ap, ◌∙◌}
use Rattle.pi_dextables.specs.declared.tables.Body.{Body}
use Rattle.pi_dexrows.proofs.CodeSteps.{body_made}
use Rattle.pi_dexrows.proofs.methods.optional_body.Goals as goal

pub returns-in-Some-2 : goal.returns-in-Some-2
returns-in-Some-2 c = λ p text rest few are.
    ap (λ (made : Option Body). option_map Some made) (sym c.in-Some-2.is)
    ∙ body_made p text c.args.sparse.now c.args.numbers.now c.front-own.result.now rest c.in-Some.code c.args.code.now c.in_ok-made.field-0
    c.in-Some.is (c.front-own.ensures ∙ ap (λ (n : ℕ). take n c.args.numbers.now) c.code_names.ensures) are (c.in_ok-made.ensures p text few)

pub returns-in-None : goal.returns-in-None
returns-in-None c = λ p text rest few are.
    ap (λ (made : Option Body). option_map Some made) (sym c.in-None.is)
    ∙ body_made p text c.args.sparse.now c.args.numbers.now c.front-own.result.now rest c.in-Some.code c.args.code.now c.in_ok-made.field-0
    c.in-Some.is (c.front-own.ensures ∙ ap (λ (n : ℕ). take n c.args.numbers.now) c.code_names.ensures) are (c.in_ok-made.ensures p text few)
