use Rattle.std.proofs.Common.{◌≡◌, ◌<◌, ◌-◌, drop, Ok, sym, arith}
use Rattle.std.proofs.lemmas.Int.{ints}
use Rattle.std.proofs.lemmas.List.{take_rest}
use Rattle.pi_bytes.specs.Leb.{sleb_by}
use Rattle.pi_bytes.proofs.Signed.{above_fits, sleb_more, summed}
use Rattle.pi_bytes.proofs.leb.«+signed_by».Goals as goal

pub overflow_mul-result : goal.overflow_mul-result
overflow_mul-result t c =
    let some : 0 < c.args.more = omega arith in
    let rest : sleb_by (c.args.more - 1) (drop 1 c.args.bytes.now) ≡ Ok (c.in_ok-above.above, c.in_ok-above.taken) =
    rw (take_rest c.args.bytes.now 1) at (sym c.in_ok-above.ensures.value) in
    let near = above_fits c.args.more (drop 1 c.args.bytes.now) (c.in_ok-above.above, c.in_ok-above.taken) some c.requires rest in
    omega (arith, ints, near.0, near.1)

pub returns-clause-value : goal.returns-clause-value
returns-clause-value t c =
    let some : 0 < c.args.more = omega arith in
    let rest : sleb_by (c.args.more - 1) (drop 1 c.args.bytes.now) ≡ Ok (c.in_ok-above.above, c.in_ok-above.taken) =
    rw (take_rest c.args.bytes.now 1) at (sym c.in_ok-above.ensures.value) in
    let near = above_fits c.args.more (drop 1 c.args.bytes.now) (c.in_ok-above.above, c.in_ok-above.taken) some c.requires rest in
    let whole = sleb_more c.args.more c.args.bytes.now (c.in_ok-above.above, c.in_ok-above.taken) some c.in-len1-up.len_at_least c.if-first-lt128.false rest in
    let sum = summed c.low_bits.result c.in_ok-above.above c.low_bits.ensures.bound near.0 near.1 in
    rw (sum, c.low_bits.ensures.value) (sym whole)
