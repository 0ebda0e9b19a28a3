use Rattle.std.proofs.Common.{rules}
use Rattle.pi_partrows.proofs.memory.add.Goals as goal

pub add-requires-clause-free : goal.add-requires-clause-free
add-requires-clause-free c = c.is_free.ensures.0 (search rules)
