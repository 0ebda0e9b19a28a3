use Rattle.std.proofs.Common.{◌≡◌, drop, length}
use Rattle.pi_dextables.specs.Rows.{bodies_in}
use Rattle.pi_dexlay.proofs.kinds.have_no_code.Given as goal

abbrev pub invariant-loop-method : goal.invariant-loop-method
invariant-loop-method l = length (bodies_in (drop l.method-index l.methods)) ≡ length (bodies_in l.methods)
