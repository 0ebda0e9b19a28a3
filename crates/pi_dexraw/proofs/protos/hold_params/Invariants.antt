use Rattle.std.proofs.Common.{◌≡◌, ◌+◌, ◌*◌, ◌≤◌, drop}
use Rattle.std.specs.Prelude.{sum_by}
use Rattle.std.specs.List.{list_all}
use Rattle.pi_format.specs.Rules.Descriptors.{words_of_type}
use Rattle.pi_format.specs.Rules.Strings.{type_units}
use Rattle.pi_format.specs.Rules.Members.{is_value_type}
use Rattle.pi_dexraw.proofs.protos.hold_params.Given as goal

abbrev pub invariant-loop-i : goal.invariant-loop-i
invariant-loop-i l = record {
  few : l.words ≤ 2 * l.i;
  values : list_all (is_value_type l.types) (drop l.i l.params) ≡ list_all (is_value_type l.types) l.params;
  sum : l.words + sum_by (λ t. words_of_type (type_units l.types t)) (drop l.i l.params) ≡ sum_by (λ t. words_of_type (type_units l.types t)) l.params;
}
