use Rattle.std.proofs.Common.{rules, length, arith, refl, ap, ◌∙◌}
use Rattle.pi_frames.proofs.Laid.{words_taken, room_for_depth, frames_pushed}
use Rattle.pi_frames.proofs.frames.Frames.push.Goals as goal

pub returns-then-size-self-clause-full : goal.returns-then-size-self-clause-full
returns-then-size-self-clause-full c =
    let taken = words_taken c.self.inside.words.items c.self.inside.top c.self.inside.depth c.self.invariant in
    rw (← c.self.view_is) (λ _. omega (arith, taken), λ _. refl)

pub overflow_add-self : goal.overflow_add-self
overflow_add-self c =
    let room = room_for_depth c.self.inside.words.items c.self.inside.top c.self.inside.depth c.self.invariant in
    search (rules, room)

pub returns-clause-pushed : goal.returns-clause-pushed
returns-clause-pushed c =
    let is = c.as_mut_slice.ensures.value in
    let laid = rw is at c.lay.ensures.laid in
    rw (← c.self.view_is) (frames_pushed c.lay.new.words c.self.inside.words.items c.self.inside.top c.self.inside.depth c.args.regs c.self.inside.words.len c.args.m (omega arith) (c.lay.ensures.len ∙ ap length is) (search rules) laid c.self.invariant)

pub returns-clause-full : goal.returns-clause-full
returns-clause-full c =
    let taken = words_taken c.self.inside.words.items c.self.inside.top c.self.inside.depth c.self.invariant in
    rw (← c.self.view_is) (λ e. absurd cc, λ full. absurd (omega (arith, taken, full)))
