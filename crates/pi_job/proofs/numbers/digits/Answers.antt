use Rattle.std.proofs.Common.{◌+◌, ◌*◌, drop, refl, sym, ◌∙◌}
use Rattle.std.proofs.Math.ListN.{drop_of_length-le}
use Rattle.pi_job.proofs.Digits.{takes, fails, too_far, in_limits}
use Rattle.pi_job.proofs.numbers.digits.Goals as goal

pub returns-then-above-high : goal.returns-then-above-high
returns-then-above-high c =
    let step = takes c.args.base c.loop-b.above c.args.text.now c.loop-b.b-index c.in-Some.d c.loop-b-test.true (sym c.in-Some.ensures.value) in
    let far = too_far c.args.base (c.loop-b.above * c.args.base + c.in-Some.d) c.args.high (drop (c.loop-b.b-index + 1) c.args.text.now) c.requires.base c.if-above-high.true in
    sym (rw (← c.loop-b.invariant.so_far, step) far)

pub returns-in_default : goal.returns-in_default
returns-in_default c =
    let none = fails c.args.base c.loop-b.above c.args.text.now c.loop-b.b-index c.loop-b-test.true (sym c.digit_of.ensures.value ∙ c.in_default.is) in
    rw (← c.loop-b.invariant.so_far, none) refl

pub loop-b-preserved : goal.loop-b-preserved
loop-b-preserved c =
    let step = takes c.args.base c.loop-b.above c.args.text.now c.loop-b.b-index c.in-Some.d c.loop-b-test.true (sym c.in-Some.ensures.value) in
    record { small = c.if-above-high.false; so_far = sym step ∙ c.loop-b.invariant.so_far }

pub returns : goal.returns
returns c =
    rw (← c.loop-b.invariant.so_far, drop_of_length-le c.args.text.now c.loop-b-test.false)
    (in_limits c.args.high c.loop-b.above c.loop-b.invariant.small)
