use Rattle.std.proofs.Common.{◌∙◌, sym}
use Rattle.pi_bytes.proofs.Halves.{halves_go, halves_end}
use Rattle.pi_bytes.proofs.numbers.halves.Goals as goal

pub loop-i-preserved : goal.loop-i-preserved
loop-i-preserved c =
    let items = c.in_ok-push.ensures.items in
    rw (items, c.half.ensures) (halves_go c.args.file.now c.loop-i.list.items c.args.at c.loop-i.i c.args.n c.loop-i-test.true ∙ c.loop-i.invariant)

pub returns : goal.returns
returns c = sym (halves_end c.args.file.now c.loop-i.list.items c.args.at c.loop-i.i c.args.n c.loop-i-test.false) ∙ c.loop-i.invariant
