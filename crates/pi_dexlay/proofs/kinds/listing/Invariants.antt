use Rattle.std.proofs.Common.{◌≡◌, ◌+◌, ◌≤◌, drop}
use Rattle.pi_dextables.specs.Image.{listing}
use Rattle.pi_dexlay.proofs.kinds.listing.Given as goal

abbrev pub invariant-loop-class : goal.invariant-loop-class
invariant-loop-class l = record { rest : l.count + listing (drop l.class-index l.classes) ≡ listing l.classes; few : l.count ≤ l.class-index }
