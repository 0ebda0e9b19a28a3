use Rattle.std.proofs.Common.{◌≡◌, Some, drop, sym, ◌∙◌, arith}
use Rattle.pi_bytes.specs.Mutf8.{unit_at}
use Rattle.pi_bytes.proofs.Texts.{goes_on}
use Rattle.pi_bytes.proofs.mutf8.mutf8_units.Goals as goal

pub loop-read-preserved : goal.loop-read-preserved
loop-read-preserved c =
    let found : unit_at (drop c.loop-read.at c.args.bytes.now) ≡ Some (c.in-Some.unit, c.in-Some.taken) =
    rw c.split_at.ensures.back at (sym c.in-Some.ensures.value) in
    let step = goes_on c.args.count c.loop-read.read c.loop-read.at c.args.bytes.now c.loop-read.units (c.in-Some.unit, c.in-Some.taken) c.loop-read-test.true found in
    record {
      within = omega (arith, c.in-Some.ensures.within, c.split_at.ensures.back_len);
      so_far = rw c.in_ok-push.ensures.ok (sym step ∙ c.loop-read.invariant.so_far);
    }
