use Rattle.std.proofs.Common.{◌≡◌, ◌+◌, ◌%◌, ◌<◌, ℕ, length, slice_get, Some, refl, arith}
use borrow.Author.Count.{below_more}
use Rattle.pi_dexforms.proofs.Rows.{row_whole, row_follows, row_next}
use Rattle.pi_dexforms.proofs.registers.is_row.Goals as goal

pub loop-place-init : goal.loop-place-init
loop-place-init c = record { next = omega arith; follow = λ k lt. absurd (omega (arith, lt)) }

pub returns-then-at-next : goal.returns-then-at-next
returns-then-at-next c = (
  λ no. cc,
  λ whole.
      let inside : c.loop-place.place < length c.args.regs.now = omega arith in
      let at = row_follows c.args.first c.args.regs.now c.loop-place.place inside whole in
      absurd (c.if-at-next.true (cc)),
)

pub loop-place-preserved : goal.loop-place-preserved
loop-place-preserved c =
    let follow : (k : ℕ) → k < c.loop-place.place + 1 → slice_get c.args.regs.now k ≡ Some ((c.args.first + k) % 65536) =
    below_more (λ k. slice_get c.args.regs.now k ≡ Some ((c.args.first + k) % 65536)) c.loop-place.place
    c.loop-place.invariant.follow (cc) in
    let next = row_next c.args.first c.loop-place.place in
    record { next = cc; follow = follow }

pub returns : goal.returns
returns c =
    (λ _. row_whole c.args.first c.args.regs.now (λ k lt. c.loop-place.invariant.follow k (omega arith)), λ _. refl)
