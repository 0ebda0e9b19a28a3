use Rattle.pi_frames.proofs.Laid.{kept_register, with_register_at}
use Rattle.pi_frames.proofs.frames.Frames.set.Goals as goal

pub invariant_of-self : goal.invariant_of-self
invariant_of-self c =
    let has = rw (← c.self.view_is) at c.requires in
    kept_register c.self.inside.words.items c.self.inside.top c.self.inside.depth c.args.i c.args.v has c.self.invariant

pub returns-clause-frames : goal.returns-clause-frames
returns-clause-frames c =
    let has = rw (← c.self.view_is) at c.requires in
    rw (← c.self.view_is) (with_register_at c.self.inside.words.items c.self.inside.top c.self.inside.depth c.args.i c.args.v has c.self.invariant)
