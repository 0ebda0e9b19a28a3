use Rattle.std.proofs.Common.{◌≡◌, ◌++◌, ap, sym, ◌∙◌, append_assoc}
use Rattle.pi_format.specs.Rules.ClassData.{ClassRows}
use Rattle.pi_dex.specs.Shared.{offsets_in}
use Rattle.pi_dex.proofs.Shared.{offsets_join}
use Rattle.pi_dex.proofs.offsets.add_class_offsets.Goals as goal

pub returns : goal.returns
returns c =
    let rows = c.args.rows.now in
    let old = c.args.offsets.now.items in
    let directs : c.as_slice.result.now ≡ rows.directs = c.as_slice.ensures ∙ ap (λ (r : ClassRows). r.directs) c.rows.view_is in
    let virtuals : c.as_slice-2.result.now ≡ rows.virtuals = c.as_slice-2.ensures ∙ ap (λ (r : ClassRows). r.virtuals) c.rows.view_is in
    c.in_ok-add_offsets-2.ensures
    ∙ rw (c.in_ok-add_offsets.ensures, directs, virtuals)
    (append_assoc old (offsets_in rows.directs) (offsets_in rows.virtuals) ∙ ap (λ xs. old ++ xs) (sym (offsets_join rows.directs rows.virtuals)))
