use Rattle.std.proofs.Common.{sym, ◌∙◌, ap, subst, arith, ◌<◌, Some, length}
use Rattle.pi_classtables.specs.Whole.{class_row, pools_for}
use Rattle.pi_dexwrite.specs.declared.part.Part.{Part}
use Rattle.pi_dexwrite.specs.Held.{added_by}
use Rattle.pi_dexwrite.specs.Ready.{IsReady}
use Rattle.pi_dexwrite.proofs.RowLists.{rows_more, rows_none}
use Rattle.pi_dexwrite.proofs.rows.rows_of.Goals as goal

pub returns-in-Ok-None-clause-full : goal.returns-in-Ok-None-clause-full
returns-in-Ok-None-clause-full c is es ready =
    let part = c.part-item.result in
    let parts = c.args.parts.now in
    let place = c.loop-part.part-index in
    let within : place < length parts = omega arith in
    let one = subst (λ (p : Part). IsReady es c.args.ranks.now p) (sym c.part-item.is) (ready place part within) in
    let none = ap (λ (p : Part). class_row (pools_for es) (added_by p)) (sym c.part-item.is) ∙ sym (c.in-Ok-None.ensures es one) ∙ c.in-Ok-None.field-0-is in
    rows_none (class_row (pools_for es)) added_by parts place part within none

pub loop-part-preserved : goal.loop-part-preserved
loop-part-preserved c es ready =
    let part = c.part-item.result in
    let parts = c.args.parts.now in
    let place = c.loop-part.part-index in
    let within : place < length parts = omega arith in
    let one = subst (λ (p : Part). IsReady es c.args.ranks.now p) (sym c.part-item.is) (ready place part within) in
    let row = ap (λ (p : Part). class_row (pools_for es) (added_by p)) (sym c.part-item.is) ∙ sym (c.in-Ok-Some.ensures es one) ∙ c.in-Ok-Some.field-0-is in
    rows_more (class_row (pools_for es)) added_by parts place part c.loop-part.rows c.in-Ok-Some.row within (c.loop-part.invariant es ready) row
    ∙ ap Some (sym c.in_ok-push-in-Ok-Some.ensures.ok)
