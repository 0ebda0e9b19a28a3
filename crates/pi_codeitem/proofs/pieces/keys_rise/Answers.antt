use Rattle.std.proofs.Common.{◌/◌, length, sym, ◌∙◌}
use Rattle.pi_format.specs.Rules.Pieces.{key_rises}
use Rattle.pi_format.proofs.Loops.{each_goes, each_stops, each_done}
use Rattle.pi_codeitem.proofs.pieces.keys_rise.Goals as goal

pub returns-then-not-key_rises : goal.returns-then-not-key_rises
returns-then-not-key_rises c =
    let stop = each_stops (key_rises c.args.keys.now) c.loop-k.k (length c.args.keys.now / 2) c.loop-k-test.true (sym c.key_rises.ensures ∙ c.if-not-key_rises.true) in
    sym stop ∙ c.loop-k.invariant

pub loop-k-preserved : goal.loop-k-preserved
loop-k-preserved c =
    each_goes (key_rises c.args.keys.now) c.loop-k.k (length c.args.keys.now / 2) c.loop-k-test.true (sym c.key_rises.ensures ∙ c.if-not-key_rises.false) ∙ c.loop-k.invariant

pub returns : goal.returns
returns c = sym (each_done (key_rises c.args.keys.now) c.loop-k.k (length c.args.keys.now / 2) c.loop-k-test.false) ∙ c.loop-k.invariant
