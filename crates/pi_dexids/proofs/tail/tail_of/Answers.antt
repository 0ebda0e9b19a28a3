use Rattle.std.proofs.Common.{◌≡◌, ◌<◌, ◌-◌, ℕ, length, drop, sym, ap, ◌∙◌, arith}
use Rattle.pi_dexids.specs.Tails.{tail_of}
use Rattle.pi_dexids.proofs.KnownTexts.{unit_before}
use Rattle.pi_dexids.proofs.tail.tail_of.Goals as goal

pub loop-done-preserved : goal.loop-done-preserved
loop-done-preserved c =
    let us = c.args.units.now in
    let done = c.loop-done.done in
    let lt : done < length us = c.loop-done-test.true in
    c.with_unit-tail.ensures (drop (length us - done) us) c.loop-done.invariant ∙ ap tail_of (sym (unit_before us done lt))

pub returns : goal.returns
returns c =
    let us = c.args.units.now in
    let end : length us - c.loop-done.done ≡ 0 = omega (arith, c.loop-done-test.false) in
    c.loop-done.invariant ∙ ap (λ (k : ℕ). tail_of (drop k us)) end
