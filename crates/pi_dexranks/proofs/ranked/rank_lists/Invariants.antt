use Rattle.std.proofs.Common.{◌≡◌, length}
use Rattle.std.specs.Cmp.Lexicographic.{slice_cmp}
use Rattle.std.specs.Vec.Iter.{into_iter_items, into_iter_len}
use Rattle.pi_dexranks.proofs.Walking.{IsWalk}
use Rattle.pi_dexranks.proofs.ranked.rank_lists.Given as goal

abbrev pub invariant-loop-list : goal.invariant-loop-list
invariant-loop-list g l = record {
  left : into_iter_len l.list-iterator ≡ length (into_iter_items l.list-iterator);
  walk : IsWalk (slice_cmp g.T.Ord.cmp) (λ key. key.0.items) (λ key. key.1) l.fn.lists l.yielded (into_iter_items l.list-iterator) l.kept l.ranks.items;
}
