use Rattle.std.proofs.Common.{◌≡◌, drop, length}
use Rattle.pi_dextables.specs.Rows.{all_bodies}
use Rattle.pi_dexlay.proofs.kinds.code_kinds.Given as goal

abbrev pub invariant-loop-class : goal.invariant-loop-class
invariant-loop-class l = length (all_bodies (drop l.class-index l.classes)) ≡ length (all_bodies l.classes)
