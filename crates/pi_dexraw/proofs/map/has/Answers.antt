use Rattle.std.proofs.Common.{◌<◌, sym, ◌∙◌, arith}
use Rattle.std.specs.Prelude.{◌==◌, ◌&&◌}
use Rattle.pi_format.specs.Rules.Map.{item_count, item_type, item_size, item_offset}
use Rattle.pi_format.proofs.Loops.{some_goes, some_stops}
use Rattle.pi_dexraw.proofs.map.has.Goals as goal

pub returns-then-is_it : goal.returns-then-is_it
returns-then-is_it c =
    let lt : c.loop-i.i < item_count c.args.file.now = omega arith in
    let stop = some_stops (λ i. (item_type c.args.file.now i == c.args.wanted) && ((item_size c.args.file.now i == c.args.number) && (item_offset c.args.file.now i == c.args.at))) c.loop-i.i (item_count c.args.file.now) lt (sym c.is_it.ensures ∙ c.if-is_it.true) in
    sym stop ∙ c.loop-i.invariant

pub loop-i-preserved : goal.loop-i-preserved
loop-i-preserved c =
    let lt : c.loop-i.i < item_count c.args.file.now = omega arith in
    some_goes (λ i. (item_type c.args.file.now i == c.args.wanted) && ((item_size c.args.file.now i == c.args.number) && (item_offset c.args.file.now i == c.args.at))) c.loop-i.i (item_count c.args.file.now) lt (sym c.is_it.ensures ∙ c.if-is_it.false) ∙ c.loop-i.invariant
