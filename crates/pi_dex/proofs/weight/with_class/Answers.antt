use Rattle.std.proofs.Common.{rules, ◌≡◌, ◌+◌, List, length, sym, ap, ◌∙◌, subst, arith}
use Rattle.std.specs.Prelude.{sum_by}
use Rattle.std.specs.List.{All}
use Rattle.std.proofs.lemmas.List.Sums.{sum_by-append}
use Rattle.pi_format.specs.Rules.Classes.{class_entry}
use Rattle.pi_format.specs.Rules.Entries.{list_at}
use Rattle.pi_format.specs.Rules.Rows.{MemberRow}
use Rattle.pi_format.specs.Rules.ClassData.{ClassRows, rows_of, methods_in}
use Rattle.pi_dex.specs.Judged.{SaysMethod}
use Rattle.pi_dex.specs.Weight.{method_weight}
use Rattle.pi_dex.proofs.Sayable.{says_rows}
use Rattle.pi_dex.proofs.Weights.{sum_is}
use Rattle.pi_dex.proofs.weight.with_class.Goals as goal

pub with_methods-requires-clause-says : goal.with_methods-requires-clause-says
with_methods-requires-clause-says c =
    let file = c.args.raw.now in
    let rows = c.members-rows.result.now in
    let says = says_rows file c.args.i rows c.members-rows.ensures.rows c.requires.says in
    let directs : c.as_slice.result.now ≡ rows.directs = c.as_slice.ensures ∙ ap (λ (r : ClassRows). r.directs) c.rows.view_is in
    subst (λ (rs : List MemberRow). All (SaysMethod file) rs) (sym directs) says.directs

pub with_methods-requires-2-clause-says : goal.with_methods-requires-2-clause-says
with_methods-requires-2-clause-says c =
    let file = c.args.raw.now in
    let rows = c.members-rows.result.now in
    let says = says_rows file c.args.i rows c.members-rows.ensures.rows c.requires.says in
    let virtuals : c.as_slice-2.result.now ≡ rows.virtuals = c.as_slice-2.ensures ∙ ap (λ (r : ClassRows). r.virtuals) c.rows.view_is in
    subst (λ (rs : List MemberRow). All (SaysMethod file) rs) (sym virtuals) says.virtuals

pub returns-clause-sum : goal.returns-clause-sum
returns-clause-sum c =
    let file = c.args.raw.now in
    let i = c.args.i in
    let f = method_weight file in
    let rows = c.members-rows.result.now in
    let directs : c.as_slice.result.now ≡ rows.directs = c.as_slice.ensures ∙ ap (λ (r : ClassRows). r.directs) c.rows.view_is in
    let virtuals : c.as_slice-2.result.now ≡ rows.virtuals = c.as_slice-2.ensures ∙ ap (λ (r : ClassRows). r.virtuals) c.rows.view_is in
    let items : c.len.result ≡ length c.in_ok-faces.field-0.items = search rules in
    let faces : c.len.result ≡ length (list_at file (class_entry file i).faces) = items ∙ ap length c.in_ok-faces.ensures.value in
    let both : sum_by f (methods_in (rows_of file i)) ≡ sum_by f rows.directs + sum_by f rows.virtuals =
    ap (λ (r : ClassRows). sum_by f (methods_in r)) (sym c.members-rows.ensures.rows) ∙ sum_by-append f rows.directs rows.virtuals in
    sum_is c.with_methods-2.result _ _
    (omega (arith, c.in_ok-total.ensures.sum, c.in_ok-total-2.ensures.sum, ap (λ (rs : List MemberRow). sum_by f rs) directs, ap (λ (rs : List MemberRow). sum_by f rs) virtuals, faces, both))
    c.with_methods-2.ensures.sum
