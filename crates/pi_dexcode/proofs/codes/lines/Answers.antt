use Rattle.std.proofs.Common.{◌∙◌}
use Rattle.pi_format.specs.Says.Codes.{line_of}
use Rattle.pi_dexcode.proofs.Listing.{rest_go}
use Rattle.pi_dexcode.proofs.codes.lines.Goals as goal

pub loop-k-preserved : goal.loop-k-preserved
loop-k-preserved c =
    rw c.in_ok-add_line.ensures (rest_go (line_of c.args.names.now c.args.walk.now.pieces) c.loop-k.lines c.args.walk.now.pieces c.loop-k.k c.piece.result c.piece.ensures ∙ c.loop-k.invariant)
