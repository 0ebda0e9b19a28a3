use Rattle.std.proofs.Common.{◌≡◌, List, sym, ap, ◌∙◌, subst}
use Rattle.std.specs.List.{All}
use Rattle.pi_format.specs.Rules.Rows.{MemberRow}
use Rattle.pi_format.specs.Rules.ClassData.{ClassRows}
use Rattle.pi_dex.specs.Judged.{SaysMethod}
use Rattle.pi_dex.proofs.classes.methods.Goals as goal

pub add_methods-requires : goal.add_methods-requires
add_methods-requires c =
    let rows : c.as_slice.result.now ≡ c.args.rows.now.directs = c.as_slice.ensures ∙ ap (λ (r : ClassRows). r.directs) c.rows.view_is in
    subst (λ (rs : List MemberRow). All (SaysMethod c.args.names.now.file) rs) (sym rows) c.requires.directs

pub add_methods-requires-2 : goal.add_methods-requires-2
add_methods-requires-2 c =
    let rows : c.as_slice-2.result.now ≡ c.args.rows.now.virtuals = c.as_slice-2.ensures ∙ ap (λ (r : ClassRows). r.virtuals) c.rows.view_is in
    subst (λ (rs : List MemberRow). All (SaysMethod c.args.names.now.file) rs) (sym rows) c.requires.virtuals
