use Rattle.std.proofs.Common.{ℕ, ◌≡◌, arith, subst}
use Rattle.pi_format.specs.Tables.{count_at, type_ids}
use Rattle.pi_dexids.specs.Facts.{AreFacts, letter_of}
use Rattle.pi_dexids.proofs.Lists.{facts_pushed}
use Rattle.pi_dexids.proofs.types.letters.Goals as goal

pub loop-t-preserved : goal.loop-t-preserved
loop-t-preserved c =
    let items = c.in_ok-push.ensures.items in
    rw items (facts_pushed (letter_of c.args.file.now) c.loop-t.t c.loop-t.list.items c.letter.result c.loop-t.invariant c.letter.ensures)

pub returns : goal.returns
returns c =
    let all : c.loop-t.t ≡ count_at c.args.file.now type_ids = omega (arith, c.count-t-end.ensures.value) in
    subst (λ (n : ℕ). AreFacts (letter_of c.args.file.now) n c.loop-t.list.items) all c.loop-t.invariant
