use Rattle.std.proofs.Common.{ap, ◌∙◌, subst}
use Rattle.pi_memory.specs.Memory.{IsBegun}
use Rattle.pi_memory.proofs.Kept.{begun_is}
use Rattle.pi_memory.proofs.memory.Memory.keeps.Goals as goal

pub returns-clause-begun : goal.returns-clause-begun
returns-clause-begun c = λ u e. subst (λ ss. IsBegun ss u) (ap (λ v. v.spaces) c.self.view_is) (begun_is c.self.inside.ranges.items c.self.inside.saved u c.self.invariant (ap (λ v. v.undo) c.self.view_is ∙ e))
