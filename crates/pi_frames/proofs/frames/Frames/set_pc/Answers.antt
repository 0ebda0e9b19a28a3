use Rattle.pi_frames.proofs.Laid.{kept_pc, with_pc_at}
use Rattle.pi_frames.proofs.frames.Frames.set_pc.Goals as goal

pub invariant_of-self : goal.invariant_of-self
invariant_of-self c =
    let some = rw (← c.self.view_is) at c.requires in
    kept_pc c.self.inside.words.items c.self.inside.top c.self.inside.depth c.args.at some c.self.invariant

pub returns-clause-frames : goal.returns-clause-frames
returns-clause-frames c =
    let some = rw (← c.self.view_is) at c.requires in
    rw (← c.self.view_is) (with_pc_at c.self.inside.words.items c.self.inside.top c.self.inside.depth c.args.at some c.self.invariant)
