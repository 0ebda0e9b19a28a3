use Rattle.std.proofs.Common.{◌≡◌, ℕ, ◌+◌, ◌≤◌, length, take, drop, sym, ap, ◌∙◌, arith}
use Rattle.std.specs.Prelude.{◌==◌}
use Rattle.std.specs.List.{position_or_len}
use Rattle.pi_dexraw.proofs.Zeros.{zero_stops, zero_goes, zero_ends, all_taken}
use Rattle.pi_dexraw.proofs.known.before_zero.Goals as goal

pub returns-then-bytes-i-eq0 : goal.returns-then-bytes-i-eq0
returns-then-bytes-i-eq0 c =
    let bytes = c.args.bytes.now in
    let so_far : position_or_len (λ b. b == 0) (drop c.loop-i.i bytes) + c.loop-i.i ≡ position_or_len (λ b. b == 0) bytes = c.loop-i.invariant in
    let stop = zero_stops bytes c.loop-i.i c.loop-i-test.true c.if-bytes-i-eq0.true in
    let place : c.loop-i.i ≡ position_or_len (λ b. b == 0) bytes = omega (arith, stop, so_far) in
    c.split_at.ensures.front ∙ ap (λ (n : ℕ). take n bytes) place

pub loop-i-preserved : goal.loop-i-preserved
loop-i-preserved c =
    let bytes = c.args.bytes.now in
    let so_far : position_or_len (λ b. b == 0) (drop c.loop-i.i bytes) + c.loop-i.i ≡ position_or_len (λ b. b == 0) bytes = c.loop-i.invariant in
    let go = zero_goes bytes c.loop-i.i c.loop-i-test.true c.if-bytes-i-eq0.false in
    let next : position_or_len (λ b. b == 0) (drop (c.loop-i.i + 1) bytes) + (c.loop-i.i + 1) ≡ position_or_len (λ b. b == 0) bytes = omega (arith, go, so_far) in
    next

pub returns : goal.returns
returns c =
    let bytes = c.args.bytes.now in
    let so_far : position_or_len (λ b. b == 0) (drop c.loop-i.i bytes) + c.loop-i.i ≡ position_or_len (λ b. b == 0) bytes = c.loop-i.invariant in
    let none = zero_ends bytes c.loop-i.i c.loop-i-test.false in
    let place : length bytes ≤ position_or_len (λ b. b == 0) bytes = omega (arith, none, so_far, c.loop-i-test.false) in
    sym (all_taken bytes (position_or_len (λ b. b == 0) bytes) place)
