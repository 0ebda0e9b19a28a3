use Rattle.std.proofs.Common.{◌≡◌, ◌+◌, ◌-◌, length, ◌∙◌, arith}
use Rattle.pi_small.proofs.Lines.{ends_last}
use Rattle.pi_small.proofs.small.end_in_return.Goals as goal

pub returns-in-len1-up : goal.returns-in-len1-up
returns-in-len1-up c =
    let lines = c.args.lines.now in
    let nonempty = c.in-len1-up.len_at_least in
    let is = c.last-item.is in
    let at : length lines - 1 + 1 ≡ length lines = omega arith in
    c.returns.ensures ∙ ends_last lines (length lines - 1) c.last-item.result at is
