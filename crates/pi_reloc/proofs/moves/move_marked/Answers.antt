use Rattle.std.proofs.Common.{◌≡◌, true, w64, to_z, of_z, pos, ◌+ℤ◌, arith, ap, ◌∙◌}
use Rattle.std.proofs.lemmas.Int.{to_z-of_z}
use Rattle.std.proofs.lemmas.Option.{slice_get_within}
use Rattle.pi_reloc.specs.Patch.{word_at}
use Rattle.pi_reloc.proofs.Words.{moved_word, moved_past, moved_one, not_both}
use Rattle.pi_reloc.proofs.moves.move_marked.Goals.{then-has+in-Some, else-has}
use Rattle.pi_reloc.proofs.moves.move_marked.Goals as goal

pub unreachable-requires : goal.unreachable-requires
unreachable-requires c =
    let e = to_z-of_z w64 c.args.delta c.ranges.delta in
    let leaves = rw e at c.in-None.ensures.leaves in
    let stands : c.word_of.result ≡ word_at c.args.bytes.now c.loop-k.k =
    c.word_of.ensures ∙ moved_word c.args.map.now _ c.loop-k.k c.args.bytes.now c.loop-k.bytes c.loop-k.invariant in
    not_both c.word_of.result c.args.delta leaves (rw stands (c.requires.stay c.loop-k.k c.if-has.ensures))

pub loop-k-preserved : goal.loop-k-preserved
loop-k-preserved c =
    elim c.if-has.branch [
      | then-has+in-Some w ↦
          let sum = w.in-Some.ensures.sum ∙ ap (λ v. pos v +ℤ to_z w64 (of_z w64 c.args.delta)) w.word_of.ensures in
          rw w.bytes-is (moved_one c.args.map.now _ c.loop-k.k c.args.bytes.now c.loop-k.bytes w.set_word.new.bytes w.in-Some.word c.loop-k.invariant w.if-has.ensures sum w.set_word.ensures.len w.set_word.ensures.written w.set_word.ensures.others)
      | else-has w ↦ rw w.bytes-is (moved_past c.args.map.now _ c.loop-k.k c.args.bytes.now c.loop-k.bytes c.loop-k.invariant w.if-has.ensures)
    ]

pub returns-clause-moved : goal.returns-clause-moved
returns-clause-moved c =
    let e = to_z-of_z w64 c.args.delta c.ranges.delta in
    λ k marked.
    let below = slice_get_within c.args.map.now k true marked in
    rw (← e) (c.loop-k.invariant.moved k (omega (arith, below)) marked)
