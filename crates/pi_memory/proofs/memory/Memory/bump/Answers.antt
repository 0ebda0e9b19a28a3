use Rattle.std.proofs.Common.{rules, ap}
use Rattle.pi_memory.proofs.Kept.{raised, raised_undo}
use Rattle.pi_memory.proofs.memory.Memory.bump.Goals as goal

pub invariant_of-self-2 : goal.invariant_of-self-2
invariant_of-self-2 c = raised _ _ c.args.s.0 c.args.n _ _ _ c.self.invariant (search rules) c.index_mut-range.ensures.value c.requires.whole (search rules) (search rules) c.grow.ensures

pub returns-clause-pending : goal.returns-clause-pending
returns-clause-pending c = raised_undo _ _ _ c.args.s.0 _ _ _ (ap (λ v. v.undo) c.self.view_is) (search rules) c.requires.inside c.index_mut-range.ensures.value c.grow.ensures
