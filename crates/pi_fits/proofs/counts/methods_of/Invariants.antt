use Rattle.std.proofs.Common.{◌≡◌, take}
use Rattle.std.specs.Prelude.{sum_by}
use Rattle.pi_model.specs.Program.{method_count}
use Rattle.pi_fits.proofs.counts.methods_of.Given as goal

abbrev pub invariant-loop-class : goal.invariant-loop-class
invariant-loop-class l = l.count ≡ sum_by method_count (take l.class-index l.classes)
