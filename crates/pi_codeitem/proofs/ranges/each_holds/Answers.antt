use Rattle.std.proofs.Common.{sym, ◌∙◌}
use Rattle.pi_format.specs.Rules.CodeItems.{range_holds}
use Rattle.pi_format.proofs.Loops.{each_goes, each_stops, each_done}
use Rattle.pi_codeitem.proofs.ranges.each_holds.Goals as goal

pub returns-then-not-range_holds : goal.returns-then-not-range_holds
returns-then-not-range_holds c =
    let stop = each_stops (range_holds c.args.file.now c.args.begin c.args.units) c.loop-k.k c.args.n c.loop-k-test.true (sym c.range_holds.ensures ∙ c.if-not-range_holds.true) in
    sym stop ∙ c.loop-k.invariant

pub loop-k-preserved : goal.loop-k-preserved
loop-k-preserved c =
    each_goes (range_holds c.args.file.now c.args.begin c.args.units) c.loop-k.k c.args.n c.loop-k-test.true (sym c.range_holds.ensures ∙ c.if-not-range_holds.false) ∙ c.loop-k.invariant

pub returns : goal.returns
returns c = sym (each_done (range_holds c.args.file.now c.args.begin c.args.units) c.loop-k.k c.args.n c.loop-k-test.false) ∙ c.loop-k.invariant
