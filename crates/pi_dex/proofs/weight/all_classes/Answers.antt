use Rattle.std.proofs.Common.{ℕ, ◌+◌, ◌-◌, ap, ◌∙◌, arith}
use Rattle.std.specs.Prelude.{sum_by}
use Rattle.pi_format.specs.Tables.{count_at, class_defs}
use Rattle.pi_format.specs.Rules.Lowest.{tabulation}
use Rattle.pi_dex.specs.Weight.{class_weight}
use Rattle.pi_dex.proofs.Weights.{number_goes}
use Rattle.pi_dex.proofs.weight.all_classes.Goals as goal

pub loop-i-preserved : goal.loop-i-preserved
loop-i-preserved c =
    let file = c.args.raw.now in
    let f = class_weight file in
    let n : ℕ = count_at file class_defs in (
      ap (λ (s : ℕ). s + sum_by f (tabulation (λ k. k) (c.loop-i.i + 1) (n - (c.loop-i.i + 1)))) c.in_ok-sum.ensures.sum
          ∙ number_goes f c.loop-i.sum c.loop-i.i n (omega (arith, c.class_defs-i-end.ensures))
          ∙ c.loop-i.invariant.0,
      c.in_ok-sum.ensures.most,
    )
