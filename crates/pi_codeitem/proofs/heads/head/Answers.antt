use Rattle.std.proofs.Common.{arith}
use Rattle.pi_codeitem.proofs.Items.{code_in_file}
use Rattle.pi_codeitem.proofs.heads.head.Goals as goal

pub half-requires : goal.half-requires
half-requires c = omega (arith, code_in_file c.args.file.now c.args.at c.requires)

pub overflow_add-at : goal.overflow_add-at
overflow_add-at c = omega (arith, code_in_file c.args.file.now c.args.at c.requires)

pub half-requires-2 : goal.half-requires-2
half-requires-2 c = omega (arith, code_in_file c.args.file.now c.args.at c.requires)

pub overflow_add-at-2 : goal.overflow_add-at-2
overflow_add-at-2 c = omega (arith, code_in_file c.args.file.now c.args.at c.requires)

pub half-requires-3 : goal.half-requires-3
half-requires-3 c = omega (arith, code_in_file c.args.file.now c.args.at c.requires)

pub overflow_add-at-3 : goal.overflow_add-at-3
overflow_add-at-3 c = omega (arith, code_in_file c.args.file.now c.args.at c.requires)

pub half-requires-4 : goal.half-requires-4
half-requires-4 c = omega (arith, code_in_file c.args.file.now c.args.at c.requires)

pub overflow_add-at-4 : goal.overflow_add-at-4
overflow_add-at-4 c = omega (arith, code_in_file c.args.file.now c.args.at c.requires)

pub word-requires : goal.word-requires
word-requires c = omega (arith, code_in_file c.args.file.now c.args.at c.requires)
