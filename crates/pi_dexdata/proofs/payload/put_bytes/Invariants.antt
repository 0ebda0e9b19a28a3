use Rattle.std.proofs.Common.{◌≡◌, ◌++◌, ◌<◌, length}
use Rattle.std.specs.List.{All}
use Rattle.pi_classtables.specs.Layout.{byte_units}
use Rattle.pi_dexdata.proofs.payload.put_bytes.Given as goal

abbrev pub invariant-loop-rest : goal.invariant-loop-rest
invariant-loop-rest l = record {
  small : All (λ x. x < 256) l.rest;
  units : l.out ++ byte_units l.rest ≡ l.fn.out ++ byte_units l.items;
}

abbrev pub decreases-loop-rest : goal.decreases-loop-rest
decreases-loop-rest l = length l.rest
