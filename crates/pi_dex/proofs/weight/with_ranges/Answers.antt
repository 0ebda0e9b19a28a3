use Rattle.std.proofs.Common.{◌≡◌, ℕ, ◌+◌, ◌-◌, ap, ◌∙◌, arith}
use Rattle.std.specs.Prelude.{sum_by}
use Rattle.pi_format.specs.Rules.CodeItems.{CodeHead}
use Rattle.pi_format.specs.Rules.Lowest.{tabulation}
use Rattle.pi_dex.specs.Weight.{range_handlers}
use Rattle.pi_dex.proofs.Weights.{number_goes}
use Rattle.pi_dex.proofs.weight.with_ranges.Goals as goal

pub loop-k-preserved : goal.loop-k-preserved
loop-k-preserved c =
    let f = range_handlers c.args.file.now c.args.at c.args.head.now c.args.lists.now in
    let n : c.head.inside.tries ≡ c.args.head.now.tries = ap (λ (h : CodeHead). h.tries) c.head.view_is in (
      ap (λ (s : ℕ). s + sum_by f (tabulation (λ i. i) (c.loop-k.k + 1) (c.args.head.now.tries - (c.loop-k.k + 1)))) c.in_ok-sum.ensures.sum
          ∙ number_goes f c.loop-k.sum c.loop-k.k c.args.head.now.tries (omega (arith, n))
          ∙ c.loop-k.invariant.0,
      c.in_ok-sum.ensures.most,
    )
