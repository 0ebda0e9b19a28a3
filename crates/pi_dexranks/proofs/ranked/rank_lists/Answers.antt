use Rattle.std.proofs.Common.{◌∙◌, ◌<◌, length, rules}
use Rattle.std.specs.Cmp.Lexicographic.{slice_cmp}
use Rattle.pi_classtables.proofs.Orders.{IsExactOrder, lists_exact}
use Rattle.pi_dexranks.proofs.Walking.{walk_begun, walk_at, walk_ended, walk_within, walk_more, walk_sorted, walk_ranks}
use Rattle.pi_dexranks.proofs.ranked.rank_lists.Goals as goal

pub loop-list-init : goal.loop-list-init
loop-list-init g c =
    let o : IsExactOrder (slice_cmp g.T.Ord.cmp) = lists_exact (record { total = g.met.T.Ord.total; same = c.requires }) in
    record {
      left = search rules;
      walk = walk_begun o _ _ _ c.in_ok-keyed.keyed.items c.sort_unstable.new.self.items _ _ _ c.in_ok-keyed.ensures c.sort_unstable.ensures.permutation
          c.sort_unstable.ensures.sorted c.into_iter-list-iterator.ensures.into_iter_gives.0 c.new-kept.ensures (search rules);
    }

pub index_mut-requires : goal.index_mut-requires
index_mut-requires g c =
    let o : IsExactOrder (slice_cmp g.T.Ord.cmp) = lists_exact (record { total = g.met.T.Ord.total; same = c.requires }) in
    let walk = walk_at o _ _ _ _ _ (c.in-Some.list, c.in-Some.place) _ _ _ c.in-Some.ensures.steps.0 c.loop-list.invariant.walk in
    let within : c.in-Some.place < length c.loop-list.ranks.items = walk_within o _ _ _ _ _ _ _ _ walk in
    search rules

pub loop-list-preserved : goal.loop-list-preserved
loop-list-preserved g c =
    let o : IsExactOrder (slice_cmp g.T.Ord.cmp) = lists_exact (record { total = g.met.T.Ord.total; same = c.requires }) in
    let walk = walk_at o _ _ _ _ _ (c.in-Some.list, c.in-Some.place) _ _ _ c.in-Some.ensures.steps.0 c.loop-list.invariant.walk in
    record {
      left = search rules;
      walk = walk_more o _ _ _ _ _ _ _ _ _ _ walk (rw c.from_vec.ensures at c.in_ok-rank.ensures.kept) c.in_ok-rank.ensures.place;
    }

pub returns-clause-sorted : goal.returns-clause-sorted
returns-clause-sorted g c =
    let o : IsExactOrder (slice_cmp g.T.Ord.cmp) = lists_exact (record { total = g.met.T.Ord.total; same = c.requires }) in
    walk_sorted o _ _ _ _ _ _ (walk_ended o _ _ _ _ _ _ _ _ c.loop-list.invariant.left c.in-None.ensures.steps.0 c.loop-list.invariant.walk)

pub returns-clause-ranks : goal.returns-clause-ranks
returns-clause-ranks g c =
    let o : IsExactOrder (slice_cmp g.T.Ord.cmp) = lists_exact (record { total = g.met.T.Ord.total; same = c.requires }) in
    c.from_vec-2.ensures
    ∙ walk_ranks o _ _ _ _ _ _ (walk_ended o _ _ _ _ _ _ _ _ c.loop-list.invariant.left c.in-None.ensures.steps.0 c.loop-list.invariant.walk)
