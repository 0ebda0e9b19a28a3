use Rattle.std.proofs.Common.{rules, ap, ◌∙◌}
use Rattle.pi_memory.proofs.Kept.{added}
use Rattle.pi_memory.proofs.memory.Memory.add.Goals as goal

pub invariant_of-self-2 : goal.invariant_of-self-2
invariant_of-self-2 c = added _ _ _ _ c.in_ok-range.range c.args.base.0 c.args.end.0 c.args.bytes.now (ap (λ v. v.spaces) c.self.view_is) c.self.invariant (ap (λ v. v.undo) c.self.view_is ∙ c.requires.idle) c.requires.few (search rules) (search rules) (record { base_is_whole = c.requires.base_is_whole; bytes_are_whole = c.requires.bytes_are_whole; fits = c.requires.fits; low = c.requires.low }) c.requires.free
