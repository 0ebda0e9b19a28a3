use Rattle.std.proofs.Common.{rules, ◌≡◌, ℕ, ◌+◌, replicate}
use Rattle.pi_frames.proofs.Laid.{laid_is}
use Rattle.pi_frames.proofs.frames.lay.Goals as goal

pub returns-clause-laid : goal.returns-clause-laid
returns-clause-laid c =
    let zeros : c.fill.new.self ≡ replicate {A = ℕ} (c.args.regs + 4) 0 = search rules in
    laid_is c.args.words.now c.fill.new.self c.args.top c.args.regs c.args.m.0 c.requires zeros
