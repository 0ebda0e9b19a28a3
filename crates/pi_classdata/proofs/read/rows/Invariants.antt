use Rattle.std.proofs.Common.{◌≡◌, ◌-◌, None}
use Rattle.pi_format.specs.Rules.Rows.{rows_from}
use Rattle.pi_format.specs.Rules.ClassData.{row_holds}
use Rattle.pi_classdata.proofs.Chains.{with_others}
use Rattle.pi_classdata.proofs.read.rows.Given as goal

abbrev pub invariant-loop : goal.invariant-loop
invariant-loop l =
    with_others l.rows (rows_from (row_holds l.raw l.owner l.list) l.list (l.count - l.counter) l.before l.cursor)
    ≡ rows_from (row_holds l.raw l.owner l.list) l.list l.count None l.fn.cursor
