use Rattle.std.proofs.Common.{arith}
use Rattle.pi_codeitem.proofs.Items.{code_in_file}
use Rattle.pi_codeitem.proofs.heads.units.Goals as goal

pub overflow_add-at : goal.overflow_add-at
overflow_add-at c = omega (arith, code_in_file c.args.file.now c.args.at c.requires)

pub overflow_add-at-2 : goal.overflow_add-at-2
overflow_add-at-2 c = omega (arith, code_in_file c.args.file.now c.args.at c.requires)

pub word-requires : goal.word-requires
word-requires c = omega (arith, code_in_file c.args.file.now c.args.at c.requires)

pub halves-requires : goal.halves-requires
halves-requires c = omega (arith, code_in_file c.args.file.now c.args.at c.requires)
