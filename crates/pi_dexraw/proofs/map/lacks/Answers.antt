use Rattle.std.proofs.Common.{◌≡◌, ◌<◌, true, false, sym, ap, ◌∙◌, arith}
use Rattle.std.specs.Prelude.{◌==◌, not}
use Rattle.std.proofs.lemmas.Bool.Decides.{nat_tests}
use Rattle.pi_format.specs.Rules.Map.{item_count, item_type, lacks_item}
use Rattle.pi_format.proofs.Loops.{some_goes, some_stops}
use Rattle.pi_dexraw.proofs.map.lacks.Goals as goal

pub returns-then-kind-wanted : goal.returns-then-kind-wanted
unfolding lacks_item
returns-then-kind-wanted c =
    let lt : c.loop-i.i < item_count c.args.file.now = omega arith in
    let e : (item_type c.args.file.now c.loop-i.i == c.args.wanted) ≡ true = grind (arith, nat_tests) in
    let stop = some_stops (λ i. item_type c.args.file.now i == c.args.wanted) c.loop-i.i (item_count c.args.file.now) lt e in
    ap not (sym stop ∙ c.loop-i.invariant)

pub loop-i-preserved : goal.loop-i-preserved
loop-i-preserved c =
    let lt : c.loop-i.i < item_count c.args.file.now = omega arith in
    let e : (item_type c.args.file.now c.loop-i.i == c.args.wanted) ≡ false = grind (arith, nat_tests) in
    some_goes (λ i. item_type c.args.file.now i == c.args.wanted) c.loop-i.i (item_count c.args.file.now) lt e ∙ c.loop-i.invariant
