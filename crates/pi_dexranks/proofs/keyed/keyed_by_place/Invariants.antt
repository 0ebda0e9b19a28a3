use Rattle.std.proofs.Common.{◌≡◌, length}
use Rattle.pi_dexranks.specs.Keys.{AreKeys}
use Rattle.pi_dexranks.proofs.keyed.keyed_by_place.Given as goal

abbrev pub invariant-loop-list : goal.invariant-loop-list
invariant-loop-list g l = record {
  long : length l.keyed.items ≡ length l.yielded;
  keys : AreKeys (λ key. key.0.items) (λ key. key.1) l.yielded l.keyed.items;
}
