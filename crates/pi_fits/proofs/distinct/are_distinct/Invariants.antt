use Rattle.std.proofs.Common.{◌≡◌, take, true}
use Rattle.pi_model.specs.Distinct.{all_distinct}
use Rattle.pi_model.specs.Texts.{same_text}
use Rattle.pi_fits.proofs.distinct.are_distinct.Given as goal

abbrev pub invariant-loop-units : goal.invariant-loop-units
invariant-loop-units l = record {
  known : l.known.keys ≡ take l.units-index l.texts;
  distinct : all_distinct same_text (take l.units-index l.texts) ≡ true;
}
