use Rattle.std.proofs.Common.{◌≡◌, suc, zero, ◌+◌, ◌-◌, ◌++◌, ◌∷◌, [], Some, None, sym, ◌∙◌, arith}
use Rattle.pi_format.specs.Rules.Rows.{MemberRow}
use Rattle.pi_classdata.specs.Held.{held_row}
use Rattle.pi_classdata.proofs.Chains.{rows_more, rows_stop, rows_done, rows_rise}
use Rattle.pi_classdata.proofs.read.rows.Goals as goal

pub returns-in_default-clause-value : goal.returns-in_default-clause-value
returns-in_default-clause-value c =
    let left : c.args.count - c.loop.counter ≡ suc (c.args.count - (c.loop.counter + 1)) = omega arith in
    let none : held_row c.args.raw.now c.args.owner.now c.args.list c.loop.before c.loop.cursor ≡ None = c.in_default.ensures in
    sym c.loop.invariant ∙ rows_stop c.args.raw.now c.args.owner.now c.args.list c.loop.rows _ _ c.loop.before c.loop.cursor left none

pub loop-preserved : goal.loop-preserved
loop-preserved c =
    let left : c.args.count - c.loop.counter ≡ suc (c.args.count - (c.loop.counter + 1)) = omega arith in
    let row : MemberRow = c.in-Some.row in
    let is : held_row c.args.raw.now c.args.owner.now c.args.list c.loop.before c.loop.cursor ≡ Some (row, c.row.new.cursor) = c.in-Some.ensures in
    let items : c.push.new.self ≡ c.loop.rows ++ row ∷ [] = c.in_ok-push.ensures.ok in
    let id : c.row-in-loop.inside.id ≡ row.id = cc in
    rw (items, id)
    (rows_more c.args.raw.now c.args.owner.now c.args.list c.loop.rows _ _ c.loop.before c.loop.cursor c.row.new.cursor row left is ∙ c.loop.invariant)

pub returns-clause-rising : goal.returns-clause-rising
returns-clause-rising c =
    let done : c.args.count - c.loop.counter ≡ zero = omega arith in
    rows_rise c.args.raw.now c.args.owner.now c.args.list c.args.count c.args.cursor.now c.loop.rows c.loop.cursor
    (sym c.loop.invariant ∙ rows_done c.args.raw.now c.args.owner.now c.args.list c.loop.rows _ c.loop.before c.loop.cursor done)
