use Rattle.pi_dexsizes.proofs.Numbers.{line_sized}
use Rattle.pi_dexsizes.proofs.codes.LineInRange.read.Goals as goal

pub returns : goal.returns
returns c = line_sized c.args.self.now c.read.ensures
