use Rattle.std.proofs.Common.{length, drop, sym, ap, ◌∙◌, add-one, arith}
use Rattle.std.proofs.lemmas.List.{drop-drop, drop_all}
use Rattle.pi_job.proofs.Cuts.{cut_at, cut_nowhere}
use Rattle.pi_job.proofs.lines.cut.Goals as goal

pub returns-then-bytes-at-clause-front : goal.returns-then-bytes-at-clause-front
returns-then-bytes-at-clause-front c =
    c.split_at.ensures.front
    ∙ sym (cut_at c.args.mark c.args.bytes.now c.loop-at.at c.loop-at-test.true c.loop-at.invariant c.if-bytes-at.true).0

pub returns-then-bytes-at-clause-behind : goal.returns-then-bytes-at-clause-behind
returns-then-bytes-at-clause-behind c =
    c.split_at-then-bytes-at.ensures.back ∙ ap (drop 1) c.split_at.ensures.back ∙ drop-drop 1 c.loop-at.at c.args.bytes.now
    ∙ rw (add-one) (sym (cut_at c.args.mark c.args.bytes.now c.loop-at.at c.loop-at-test.true c.loop-at.invariant c.if-bytes-at.true).1)

pub returns-clause-front : goal.returns-clause-front
returns-clause-front c =
    sym (cut_nowhere c.args.mark c.args.bytes.now (λ k below. c.loop-at.invariant k (omega arith))).0

pub returns-clause-behind : goal.returns-clause-behind
returns-clause-behind c =
    c.split_at-2.ensures.back ∙ drop_all (length c.args.bytes.now) c.args.bytes.now (omega arith)
    ∙ sym (cut_nowhere c.args.mark c.args.bytes.now (λ k below. c.loop-at.invariant k (omega arith))).1
