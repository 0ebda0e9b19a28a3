use Rattle.std.proofs.Common.{arith, refl}
use Rattle.pi_format.specs.Core.{core_names}
use Rattle.pi_format.proofs.core_fits.Goals as goal

pub returns : goal.returns
unfolding core_names
returns c = record {
  files = omega arith;
  names_count = omega arith;
  types_count = omega arith;
  classes_count = omega arith;
  fields_count = omega arith;
  methods_count = omega arith;
  names_distinct = refl;
  types_distinct = refl;
  types_named = refl;
  classes_filed = refl;
  classes_named = refl;
}
