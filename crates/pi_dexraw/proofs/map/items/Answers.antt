use Rattle.std.proofs.Common.{ℕ, ◌+◌, ◌<◌, true, sym, ◌∙◌, arith, subst}
use Rattle.std.specs.Prelude.{◌==◌, ◌&&◌, slice_set}
use Rattle.pi_format.specs.Rules.Entries.{some_from}
use Rattle.pi_format.specs.Rules.Map.{item_count, item_type, item_rises, item_is_new, item_ends}
use Rattle.pi_dexids.specs.Facts.{AreFacts}
use Rattle.pi_format.proofs.Loops.{each_goes, each_stops}
use Rattle.pi_dexraw.proofs.Items.{kinds_marked}
use Rattle.pi_dexraw.proofs.map.items.Goals as goal

pub returns-then-not-holds : goal.returns-then-not-holds
returns-then-not-holds c =
    let lt : c.loop-i.i < item_count c.args.file.now = omega arith in
    let stop = each_stops (λ i. item_rises c.args.file.now i && (item_is_new c.args.file.now i && item_ends c.args.file.now i)) c.loop-i.i (item_count c.args.file.now) lt (sym c.holds.ensures ∙ c.if-not-holds.true) in
    sym stop ∙ c.loop-i.invariant.so_far

pub loop-i-preserved : goal.loop-i-preserved
loop-i-preserved c =
    let file = c.args.file.now in
    let lt : c.loop-i.i < item_count file = omega arith in
    let small : item_type file c.loop-i.i < 65536 = omega arith in
    let list = c.loop-i.seen.items in
    record {
      seen = subst (λ (t : ℕ). AreFacts (λ t. some_from (λ k. item_type file k == t) 0 (c.loop-i.i + 1)) 65536 (slice_set list t true)) (sym c.kind.ensures)
          (kinds_marked (item_type file) c.loop-i.i 65536 list c.loop-i.invariant.seen small);
      so_far = each_goes (λ i. item_rises file i && (item_is_new file i && item_ends file i)) c.loop-i.i (item_count file) lt (sym c.holds.ensures ∙ c.if-not-holds.false) ∙ c.loop-i.invariant.so_far;
    }
