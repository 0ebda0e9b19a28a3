use Rattle.pi_frames.proofs.Laid.{kept_popped, rest_popped}
use Rattle.pi_frames.proofs.frames.Frames.pop.Goals as goal

pub invariant_of-self : goal.invariant_of-self
invariant_of-self c =
    let some = rw (← c.self.view_is) at c.requires in
    kept_popped c.self.inside.words.items c.self.inside.top c.self.inside.depth c.index.result.now some c.self.invariant c.index.ensures

pub returns-clause-rest : goal.returns-clause-rest
returns-clause-rest c =
    let some = rw (← c.self.view_is) at c.requires in
    rw (← c.self.view_is) (rest_popped c.self.inside.words.items c.self.inside.top c.self.inside.depth c.index.result.now some c.self.invariant c.index.ensures)
