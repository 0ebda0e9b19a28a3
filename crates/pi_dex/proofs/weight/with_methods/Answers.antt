use Rattle.std.proofs.Common.{rules, ℕ, ◌+◌, drop, ap, ◌∙◌}
use Rattle.std.specs.Prelude.{sum_by}
use Rattle.pi_dex.specs.Weight.{method_weight}
use Rattle.pi_dex.proofs.Weights.{sum_goes}
use Rattle.pi_dex.proofs.weight.with_methods.Goals as goal

pub loop-i-preserved : goal.loop-i-preserved
loop-i-preserved c =
    let rows = c.args.rows.now in
    let f = method_weight c.args.raw.now in (
      ap (λ (s : ℕ). s + sum_by f (drop (c.loop-i.i + 1) rows)) c.in_ok-sum.ensures.sum
          ∙ sum_goes f c.loop-i.sum rows c.loop-i.i c.index-rows-i.result (search rules) c.index-rows-i.is
          ∙ c.loop-i.invariant.0,
      c.in_ok-sum.ensures.most,
    )
