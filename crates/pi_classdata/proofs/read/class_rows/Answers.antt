use Rattle.std.proofs.Common.{◌≡◌, ◌≢◌, ℕ, ◌≤◌, List, length, sym, ap, ◌∙◌, arith}
use Rattle.pi_format.specs.Rules.ClassData.{Owner, class_data_at, owner, rows_at, class_rows}
use Rattle.pi_classdata.proofs.Places.{place, rows_behind, rows_there, ok_along}
use Rattle.pi_classdata.proofs.read.class_rows.Goals as goal

pub returns-then-file-at : goal.returns-then-file-at
returns-then-file-at c =
    let file = c.args.raw.now in
    let some : class_data_at file c.args.i ≢ 0 = λ no. absurd (omega (arith, c.class_entry-at.ensures.data, no)) in
    let past : length file ≤ class_data_at file c.args.i = omega (arith, c.class_entry-at.ensures.data, ap length c.file-file.ensures.value) in
    sym (rows_there file c.args.i some ∙ rows_behind file (owner file c.args.i) (class_data_at file c.args.i) past)

pub returns : goal.returns
returns c =
    let file = c.args.raw.now in
    let some : class_data_at file c.args.i ≢ 0 = λ no. absurd (omega (arith, c.class_entry-at.ensures.data, no)) in
    let there = rows_there file c.args.i some in
    let at = c.new.ensures ∙ ap (λ (f : List ℕ). place f c.class_entry-at.result.data_at) c.file-file.ensures.value ∙ ap (place file) c.class_entry-at.ensures.data in
    let same : rows_at file c.owner_of.result c.new.result ≡ class_rows file c.args.i =
    ap (λ (o : Owner). rows_at file o c.new.result) c.owner_of.ensures ∙ ap (rows_at file (owner file c.args.i)) at ∙ sym there in
    ok_along c.rows_at.result _ _ same c.rows_at.ensures
