use Rattle.std.proofs.Common.{ap}
use Rattle.pi_memory.proofs.Kept.{has_bytes, written, written_undo}
use Rattle.pi_memory.proofs.memory.Memory.write.Goals as goal

pub put-requires : goal.put-requires
put-requires c = has_bytes _ _ _ _ _ _ (ap (λ v. v.spaces) c.self.view_is) c.holder-k.ensures c.requires.below c.index_mut.ensures.value

pub invariant_of-self : goal.invariant_of-self
invariant_of-self c = written _ _ _ _ _ _ _ _ (ap (λ v. v.spaces) c.self.view_is) c.self.invariant c.holder-k.ensures c.requires.below c.index_mut.ensures.value c.put.ensures

pub returns-clause-pending : goal.returns-clause-pending
returns-clause-pending c = written_undo _ _ _ _ _ _ _ _ _ (ap (λ v. v.spaces) c.self.view_is) (ap (λ v. v.undo) c.self.view_is) c.holder-k.ensures c.requires.below c.requires.inside c.index_mut.ensures.value c.put.ensures
