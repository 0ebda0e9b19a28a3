use Rattle.std.proofs.Common.{arith}
use Rattle.pi_contents.specs.Named.{line_content, catch_content}
use Rattle.pi_classtables.specs.Sized.{LineSized, CatchSized}
use Rattle.pi_dexsizes.proofs.Numbers.{all_by}
use Rattle.pi_dexsizes.proofs.codes.CodeInRange.read.Goals as goal

pub returns : goal.returns
returns c text = record {
  regs = omega arith;
  ins = omega arith;
  outs = omega arith;
  units = omega arith;
  lines = all_by LineSized line_content c.args.self.now.insns c.read.ensures text;
  catches = all_by CatchSized catch_content c.args.self.now.tries c.read-2.ensures text;
}
