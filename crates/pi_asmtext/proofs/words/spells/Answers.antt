use Rattle.std.proofs.Common.{◌∙◌, sym, ap}
use Rattle.pi_asmtext.specs.Derivatives.{ends}
use Rattle.pi_asmtext.proofs.Spelling.{goes_on, stops}
use Rattle.pi_asmtext.proofs.words.spells.Goals as goal

pub loop-unit-preserved : goal.loop-unit-preserved
loop-unit-preserved c =
    sym (goes_on c.loop-unit.spell c.in-Some.next c.args.units.now c.loop-unit.unit-index c.loop-unit-test.true (sym c.in-Some.is ∙ c.next.ensures))
    ∙ c.loop-unit.invariant

pub returns-in-None : goal.returns-in-None
returns-in-None c =
    ap ends (sym (stops c.loop-unit.spell c.args.units.now c.loop-unit.unit-index c.loop-unit-test.true (sym c.in-None.is ∙ c.next.ensures))
    ∙ c.loop-unit.invariant)
