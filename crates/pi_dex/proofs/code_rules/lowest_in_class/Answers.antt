use Rattle.std.proofs.Common.{◌≡◌, List, sym, ap, ◌∙◌, subst}
use Rattle.std.specs.List.{All}
use Rattle.pi_format.specs.Rules.Rows.{MemberRow}
use Rattle.pi_format.specs.Rules.ClassData.{ClassRows}
use Rattle.pi_dex.specs.Judged.{IsMethod}
use Rattle.pi_dex.specs.Shared.{words_place}
use Rattle.pi_dex.proofs.Lowest.{of_append}
use Rattle.pi_dex.proofs.code_rules.lowest_in_class.Goals as goal

pub lowest_words-requires : goal.lowest_words-requires
lowest_words-requires c =
    let rows : c.as_slice.result.now ≡ c.args.rows.now.directs = c.as_slice.ensures ∙ ap (λ (r : ClassRows). r.directs) c.rows.view_is in
    subst (λ (rs : List MemberRow). All (IsMethod c.args.raw.now) rs) (sym rows) c.requires.directs

pub lowest_words-requires-2 : goal.lowest_words-requires-2
lowest_words-requires-2 c =
    let rows : c.as_slice-2.result.now ≡ c.args.rows.now.virtuals = c.as_slice-2.ensures ∙ ap (λ (r : ClassRows). r.virtuals) c.rows.view_is in
    subst (λ (rs : List MemberRow). All (IsMethod c.args.raw.now) rs) (sym rows) c.requires.virtuals

pub returns : goal.returns
returns c =
    let rows = c.args.rows.now in
    let directs : c.as_slice.result.now ≡ rows.directs = c.as_slice.ensures ∙ ap (λ (r : ClassRows). r.directs) c.rows.view_is in
    let virtuals : c.as_slice-2.result.now ≡ rows.virtuals = c.as_slice-2.ensures ∙ ap (λ (r : ClassRows). r.virtuals) c.rows.view_is in
    c.lower.ensures ∙ rw (c.in_ok-direct.ensures, c.in_ok-virtual_.ensures, directs, virtuals) (sym (of_append (words_place c.args.raw.now) rows.directs rows.virtuals))
