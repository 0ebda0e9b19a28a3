use Rattle.pi_frames.proofs.Laid.{register_at}
use Rattle.pi_frames.proofs.frames.Frames.reg.Goals as goal

pub returns : goal.returns
returns c =
    let has = rw (← c.self.view_is) at c.requires in
    rw (← c.self.view_is) (register_at c.self.inside.words.items c.self.inside.top c.self.inside.depth c.args.i c.index.result.now has c.self.invariant c.index.ensures)
