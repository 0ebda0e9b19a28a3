use Rattle.pi_dexids.proofs.Known.{type_in_range}
use Rattle.pi_dexids.proofs.types.Types.new.Goals as goal

pub invariant_of-result : goal.invariant_of-result
invariant_of-result c = record {
  tables = c.requires.tables;
  strings = λ t lt. type_in_range c.args.file.now t c.requires.types lt;
  facts = c.in_ok-letters.ensures;
  definitions = c.in_ok-firsts.ensures;
}
