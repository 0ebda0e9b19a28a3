use Rattle.std.proofs.Common.{get_or, sym, ◌∙◌, arith}
use Rattle.pi_format.specs.Rules.Descriptors.{words_of_type}
use Rattle.pi_format.specs.Rules.Strings.{type_units}
use Rattle.pi_format.specs.Rules.Members.{is_value_type}
use Rattle.pi_dexraw.proofs.Params.{all_goes, all_stops, all_ends, sum_goes, sum_ends, value_in_range, params_stop, params_end}
use Rattle.pi_dexraw.proofs.protos.hold_params.Goals as goal

pub returns-then-not-is_value : goal.returns-then-not-is_value
returns-then-not-is_value c =
    let stop = all_stops (is_value_type c.args.types.now) c.args.params.now c.loop-i.i c.loop-i-test.true (sym c.is_value.ensures ∙ c.if-not-is_value.true) in
    sym (params_stop c.args.types.now c.args.params.now (sym c.loop-i.invariant.values ∙ stop))

pub words-words-requires : goal.words-words-requires
words-words-requires c = value_in_range c.args.types.now (get_or c.args.params.now c.loop-i.i 0) (sym c.is_value.ensures ∙ c.if-not-is_value.false)

pub loop-i-preserved : goal.loop-i-preserved
loop-i-preserved c =
    let file = c.args.types.now in
    let params = c.args.params.now in
    let step = sum_goes (λ t. words_of_type (type_units file t)) params c.loop-i.i c.loop-i-test.true in
    record {
      few = omega (arith, c.words-words.ensures.few, c.loop-i.invariant.few);
      values = all_goes (is_value_type file) params c.loop-i.i c.loop-i-test.true (sym c.is_value.ensures ∙ c.if-not-is_value.false) ∙ c.loop-i.invariant.values;
      sum = omega (arith, step, c.loop-i.invariant.sum, c.words-words.ensures.value);
    }

pub returns : goal.returns
returns c =
    let file = c.args.types.now in
    let params = c.args.params.now in
    let all = sym c.loop-i.invariant.values ∙ all_ends (is_value_type file) params c.loop-i.i c.loop-i-test.false in
    let none = sum_ends (λ t. words_of_type (type_units file t)) params c.loop-i.i c.loop-i-test.false in
    sym (params_end file params c.loop-i.words all (omega (arith, none, c.loop-i.invariant.sum)))
