use Rattle.std.proofs.Common.{ℕ, ◌+◌, drop, ap, ◌∙◌}
use Rattle.std.specs.Prelude.{sum_by}
use Rattle.pi_dex.specs.Weight.{piece_weight}
use Rattle.pi_dex.proofs.Weights.{piece_goes}
use Rattle.pi_dex.proofs.weight.with_pieces.Goals as goal

pub loop-k-preserved : goal.loop-k-preserved
loop-k-preserved c =
    let pieces = c.args.walk.now.pieces in
    let f = piece_weight c.args.raw.now pieces in (
      ap (λ (s : ℕ). s + sum_by f (drop (c.loop-k.k + 1) pieces)) c.in_ok-sum.ensures.sum
          ∙ piece_goes f c.loop-k.sum pieces c.loop-k.k c.piece.result c.piece.ensures
          ∙ c.loop-k.invariant.0,
      c.in_ok-sum.ensures.most,
    )
