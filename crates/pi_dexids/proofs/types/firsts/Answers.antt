use Rattle.std.proofs.Common.{◌≡◌, ℕ, ◌+◌, ◌-◌, ◌<◌, List, sym, ap, ◌∙◌, arith, subst}
use Rattle.std.specs.Prelude.{slice_set}
use Rattle.pi_format.specs.Tables.{count_at, type_ids, class_defs}
use Rattle.pi_format.specs.Rules.Classes.{class_entry}
use Rattle.pi_dexids.specs.Facts.{AreFacts, first_definition}
use Rattle.pi_dexids.proofs.Firsts.{none_defined, definition_noted}
use Rattle.pi_dexids.proofs.types.firsts.Goals as goal

pub loop-done-init : goal.loop-done-init
loop-done-init c =
    let file = c.args.file.now in
    let list = c.in_ok-list.list.items in
    none_defined file (count_at file type_ids) list
    (subst (λ (n : ℕ). AreFacts (λ k. n) (count_at file type_ids) list) c.count-all.ensures.value
    (subst (λ (m : ℕ). AreFacts (λ k. c.count-all.result) m list) c.count.ensures.value c.in_ok-list.ensures))

pub loop-done-preserved : goal.loop-done-preserved
loop-done-preserved c =
    let file = c.args.file.now in
    let all = count_at file class_defs in
    let n = count_at file type_ids in
    let done = c.loop-done.done in
    let list = c.loop-done.list.items in
    let i = all - (done + 1) in
    let lt : done < all = omega (arith, c.count-all.ensures.value) in
    let inside : i < all = omega arith in
    let place : all - done ≡ i + 1 = omega arith in
    let same : c.count-all.result - 1 - done ≡ i = omega (arith, c.count-all.ensures.value) in
    let new = c.note.ensures ∙ ap (λ (k : ℕ). slice_set list k (c.count-all.result - 1 - done)) c.class_def_at.ensures.class
    ∙ ap (λ (j : ℕ). slice_set list (class_entry file j).class j) same in
    subst (λ (xs : List ℕ). AreFacts (first_definition file i) n xs) (sym new)
    (definition_noted file n i list inside (subst (λ (j : ℕ). AreFacts (first_definition file j) n list) place c.loop-done.invariant))

pub returns : goal.returns
returns c =
    let file = c.args.file.now in
    let end : count_at file class_defs - c.loop-done.done ≡ 0 = omega (arith, c.count-all.ensures.value) in
    subst (λ (j : ℕ). AreFacts (first_definition file j) (count_at file type_ids) c.loop-done.list.items) end c.loop-done.invariant
