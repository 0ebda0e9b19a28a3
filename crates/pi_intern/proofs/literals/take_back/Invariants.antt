use Rattle.std.proofs.Common.{◌≡◌, length, IsTrue, vec_capacity}
use Rattle.pi_model.specs.Uses.{names_below}
use Rattle.pi_intern.specs.Literals.{without_names}
use Rattle.pi_intern.proofs.literals.take_back.Given as goal

abbrev pub invariant-loop-n : goal.invariant-loop-n
invariant-loop-n l = record {
  same : without_names l.slots l.names.items ≡ without_names l.fn.slots l.fn.names.items;
  named : IsTrue (names_below (length l.slots) l.names.items);
  room : vec_capacity l.names ≡ vec_capacity l.fn.names;
}

abbrev pub decreases-loop-n : goal.decreases-loop-n
decreases-loop-n l = length l.names.items
