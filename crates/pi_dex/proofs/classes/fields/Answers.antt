use Rattle.std.proofs.Common.{◌≡◌, List, sym, ap, ◌∙◌, subst}
use Rattle.std.specs.List.{All}
use Rattle.pi_format.specs.Rules.Rows.{MemberRow}
use Rattle.pi_format.specs.Rules.ClassData.{ClassRows}
use Rattle.pi_dex.specs.Judged.{IsField}
use Rattle.pi_dex.proofs.classes.fields.Goals as goal

pub add_statics-requires-clause-rows : goal.add_statics-requires-clause-rows
add_statics-requires-clause-rows c =
    let rows : c.as_slice.result.now ≡ c.args.rows.now.statics = c.as_slice.ensures ∙ ap (λ (r : ClassRows). r.statics) c.rows.view_is in
    subst (λ (rs : List MemberRow). All (IsField c.args.names.now.file) rs) (sym rows) c.requires.statics

pub add_instances-requires : goal.add_instances-requires
add_instances-requires c =
    let rows : c.as_slice-2.result.now ≡ c.args.rows.now.instances = c.as_slice-2.ensures ∙ ap (λ (r : ClassRows). r.instances) c.rows.view_is in
    subst (λ (rs : List MemberRow). All (IsField c.args.names.now.file) rs) (sym rows) c.requires.instances
