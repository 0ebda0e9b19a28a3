use Rattle.std.proofs.Common.{sym}
use Rattle.pi_frames.proofs.Laid.{length-frames_in}
use Rattle.pi_frames.proofs.frames.Frames.depth.Goals as goal

pub returns : goal.returns
returns c = rw (← c.self.view_is) (sym (length-frames_in c.self.inside.depth _))
