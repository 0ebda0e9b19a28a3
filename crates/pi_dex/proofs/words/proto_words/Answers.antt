use Rattle.std.proofs.Common.{ℕ, ◌≤◌, List, sym, ap, ◌∙◌, subst}
use Rattle.std.specs.Prelude.{sum_by}
use Rattle.pi_format.specs.Rules.Descriptors.{words_of_type}
use Rattle.pi_format.specs.Rules.Strings.{type_units}
use Rattle.pi_dex.proofs.Sums.{few_words}
use Rattle.pi_dex.proofs.words.proto_words.Goals as goal

pub param_words-requires-clause-few : goal.param_words-requires-clause-few
param_words-requires-clause-few c =
    let file = c.args.raw.now in
    subst (λ (ts : List ℕ). sum_by (λ t. words_of_type (type_units file t)) ts ≤ 255) (sym (c.as_slice.ensures.value ∙ c.in_ok-params.ensures.value))
    (few_words file c.args.proto c.requires.kept c.requires.there)

pub returns-clause-few : goal.returns-clause-few
returns-clause-few c =
    let file = c.args.raw.now in
    subst (λ (n : ℕ). n ≤ 255) (sym c.param_words.ensures)
    (subst (λ (ts : List ℕ). sum_by (λ t. words_of_type (type_units file t)) ts ≤ 255) (sym (c.as_slice.ensures.value ∙ c.in_ok-params.ensures.value))
    (few_words file c.args.proto c.requires.kept c.requires.there))

pub returns-clause-words : goal.returns-clause-words
returns-clause-words c =
    c.param_words.ensures ∙ ap (sum_by (λ t. words_of_type (type_units c.args.raw.now t))) (c.as_slice.ensures.value ∙ c.in_ok-params.ensures.value)
