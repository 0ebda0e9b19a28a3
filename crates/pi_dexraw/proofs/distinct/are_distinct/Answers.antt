use Rattle.std.proofs.Common.{◌≡◌, ℕ, ◌+◌, ◌-◌, ◌<◌, List, length, drop, get_or, refl, sym, ◌∙◌, arith, subst}
use Rattle.std.proofs.lemmas.Grind.{get_or_default_zero}
use Rattle.pi_dexraw.proofs.Marks.{AreMarked, none_marked, marked_again, mark_more}
use Rattle.pi_dexraw.proofs.distinct.are_distinct.Goals as goal

pub loop-done-init : goal.loop-done-init
loop-done-init c = none_marked c.args.mark (length c.args.marks.now.items) c.args.list.now c.args.marks.now.items (length c.args.list.now - 0) (omega arith) refl c.requires.fresh

pub returns-then-index-mark-clause-value : goal.returns-then-index-mark-clause-value
returns-then-index-mark-clause-value c =
    let list = c.args.list.now in
    let marks = c.loop-done.marks.items in
    let n = length c.args.marks.now.items in
    let i = length list - 1 - c.loop-done.done in
    let lt : i < length list = omega (arith, c.loop-done-test.true) in
    let place : length list - c.loop-done.done ≡ i + 1 = omega (arith, c.loop-done-test.true) in
    let m = subst (λ (j : ℕ). AreMarked c.args.mark n (drop j list) marks) place c.loop-done.invariant in
    let k = get_or list i 0 in
    let within : k < length marks = omega (arith, c.requires.range.below i lt, c.loop-done.invariant.counted) in
    let zero = get_or_default_zero marks k c.index.result.now within in
    sym (marked_again c.args.mark n list marks i lt m (c.requires.range.below i lt) (sym zero ∙ sym c.index.ensures ∙ c.if-index-mark.true))

pub loop-done-preserved : goal.loop-done-preserved
loop-done-preserved c =
    let list = c.args.list.now in
    let marks = c.loop-done.marks.items in
    let n = length c.args.marks.now.items in
    let i = length list - 1 - c.loop-done.done in
    let lt : i < length list = omega (arith, c.loop-done-test.true) in
    let place : length list - c.loop-done.done ≡ i + 1 = omega (arith, c.loop-done-test.true) in
    let next : i ≡ length list - (c.loop-done.done + 1) = omega (arith, c.loop-done-test.true) in
    let m = subst (λ (j : ℕ). AreMarked c.args.mark n (drop j list) marks) place c.loop-done.invariant in
    let k = get_or list i 0 in
    let within : k < length marks = omega (arith, c.requires.range.below i lt, c.loop-done.invariant.counted) in
    let zero = get_or_default_zero marks k c.index.result.now within in
    let more = mark_more c.args.mark n list marks i lt m (c.requires.range.below i lt) (λ e. c.if-index-mark.false (c.index.ensures ∙ zero ∙ e)) in
    subst (λ (j : ℕ). AreMarked c.args.mark n (drop j list) c.note.new.list.items) next
    (subst (λ (xs : List ℕ). AreMarked c.args.mark n (drop i list) xs) (sym c.note.ensures) more)
