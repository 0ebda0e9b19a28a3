use Rattle.std.proofs.Common.{ap}
use Rattle.pi_memory.proofs.Kept.{has_bytes}
use Rattle.pi_memory.proofs.memory.Memory.part.Goals as goal

pub part-requires : goal.part-requires
part-requires c = has_bytes _ _ _ _ _ _ (ap (λ v. v.spaces) c.self.view_is) c.holder.ensures c.requires c.index.ensures
