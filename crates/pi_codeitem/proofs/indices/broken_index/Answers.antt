use Rattle.std.proofs.Common.{Some, sym, ap, ◌∙◌}
use Rattle.pi_format.specs.Rules.Pieces.{Piece, index_holds}
use Rattle.pi_codeitem.proofs.Askers.{insn_goes, insn_stops}
use Rattle.pi_codeitem.proofs.indices.broken_index.Goals as goal

pub returns-then-not-passes : goal.returns-then-not-passes
returns-then-not-passes c =
    let stop = insn_stops (λ at i. index_holds c.args.file.now i.body) c.args.walk.now.pieces c.loop-k.k c.piece-piece.result c.piece-piece.ensures (sym c.passes.ensures ∙ c.if-not-passes.true) in
    ap (λ (p : Piece). Some p.at) c.piece.view_is ∙ sym stop ∙ c.loop-k.invariant

pub loop-k-preserved : goal.loop-k-preserved
loop-k-preserved c =
    insn_goes (λ at i. index_holds c.args.file.now i.body) c.args.walk.now.pieces c.loop-k.k c.piece-piece.result c.piece-piece.ensures (sym c.passes.ensures ∙ c.if-not-passes.false) ∙ c.loop-k.invariant
