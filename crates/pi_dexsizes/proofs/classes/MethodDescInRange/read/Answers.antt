use Rattle.std.proofs.Common.{arith}
use Rattle.pi_dexsizes.proofs.Numbers.{some_by}
use Rattle.pi_dexsizes.proofs.classes.MethodDescInRange.read.Goals as goal

pub returns : goal.returns
returns c text = record {
  flags = omega arith;
  code = some_by c.args.self.now.code c.read.ensures text;
}
