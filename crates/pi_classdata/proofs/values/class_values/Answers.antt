use Rattle.std.proofs.Common.{◌≡◌, ◌≢◌, ℕ, ◌<◌, ◌≤◌, List, length, sym, ap, subst, ◌∙◌, arith}
use Rattle.std.specs.List.{All}
use Rattle.pi_format.specs.Tables.{count_at, field_ids}
use Rattle.pi_format.specs.Rules.Rows.{MemberRow}
use Rattle.pi_format.specs.Rules.ClassData.{ClassRows, class_values_at, rows_of}
use Rattle.pi_format.specs.Rules.Values.{values_at, class_values}
use Rattle.pi_classdata.proofs.Members.{statics_there}
use Rattle.pi_classdata.proofs.Places.{place, values_behind, values_there, ok_along}
use Rattle.pi_classdata.proofs.values.class_values.Goals as goal

pub returns-then-file-at : goal.returns-then-file-at
returns-then-file-at c =
    let file = c.args.raw.now in
    let some : class_values_at file c.args.i ≢ 0 = λ no. absurd (omega (arith, c.class_entry-at.ensures.values, no)) in
    let past : length file ≤ class_values_at file c.args.i = omega (arith, c.class_entry-at.ensures.values, ap length c.file-file.ensures.value) in
    sym (values_there file c.args.i some ∙ values_behind file (rows_of file c.args.i).statics (class_values_at file c.args.i) past)

pub values_at-requires : goal.values_at-requires
values_at-requires c =
    let file = c.args.raw.now in
    let rows = c.as_slice.ensures ∙ ap (λ (rows : ClassRows). rows.statics) (c.rows.view_is ∙ c.requires.rows) in
    subst (λ (fields : List MemberRow). All (λ (field : MemberRow). field.id < count_at file field_ids) fields) (sym rows) (statics_there file c.args.i)

pub returns : goal.returns
returns c =
    let file = c.args.raw.now in
    let some : class_values_at file c.args.i ≢ 0 = λ no. absurd (omega (arith, c.class_entry-at.ensures.values, no)) in
    let there = values_there file c.args.i some in
    let rows = c.as_slice.ensures ∙ ap (λ (rows : ClassRows). rows.statics) (c.rows.view_is ∙ c.requires.rows) in
    let at = c.new-2.ensures ∙ ap (λ (f : List ℕ). place f c.class_entry-at.result.values_at) c.file-file.ensures.value ∙ ap (place file) c.class_entry-at.ensures.values in
    let same : values_at file c.as_slice.result.now c.new-2.result ≡ class_values file c.args.i =
    ap (λ (fields : List MemberRow). values_at file fields c.new-2.result) rows ∙ ap (values_at file (rows_of file c.args.i).statics) at ∙ sym there in
    ok_along c.values_at.result _ _ same c.values_at.ensures
