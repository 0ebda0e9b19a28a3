use Rattle.std.proofs.Common.{rules}
use Rattle.pi_memory.proofs.Kept.{restored}
use Rattle.pi_memory.proofs.memory.Memory.abort.Goals as goal

pub invariant_of-self : goal.invariant_of-self
invariant_of-self c = restored c.self.inside.ranges.items c.self.inside.saved _ c.saved.inside.space.0 c.saved.inside.bytes.items c.index_mut.result.now _ c.self.invariant (search rules) (search rules) c.index_mut.ensures.value (search rules)
