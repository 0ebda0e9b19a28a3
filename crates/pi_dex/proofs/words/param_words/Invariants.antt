use Rattle.std.proofs.Common.{◌≡◌, ◌+◌, drop}
use Rattle.std.specs.Prelude.{sum_by}
use Rattle.pi_format.specs.Rules.Descriptors.{words_of_type}
use Rattle.pi_format.specs.Rules.Strings.{type_units}
use Rattle.pi_dex.proofs.words.param_words.Given as goal

abbrev pub invariant-loop-i : goal.invariant-loop-i
invariant-loop-i l =
    l.words + sum_by (λ t. words_of_type (type_units l.raw t)) (drop l.i l.params) ≡ sum_by (λ t. words_of_type (type_units l.raw t)) l.params
