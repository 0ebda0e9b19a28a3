use Rattle.std.proofs.Common.{List, Option, Some, option_map, sym, ap, ◌∙◌, subst}
use Rattle.pi_model.specs.declared.describe.FieldDesc.{FieldDesc}
use Rattle.pi_contents.specs.Named.{text_in}
use Rattle.pi_dexrows.specs.declared.rows.MethodLists.{MethodLists}
use Rattle.pi_dexrows.specs.Heads.{row_of}
use Rattle.pi_dexrows.specs.Taken.{behind_fields}
use Rattle.pi_dexrows.proofs.Whole.{FieldsSay, ListsSay, row_made}
use Rattle.pi_dexrows.proofs.row.class_row.Goals as goal

pub returns-in_default : goal.returns-in_default
returns-in_default c = λ es here counted are.
    ap (λ (lists : Option MethodLists). option_map (row_of c.args.class.now.flags c.in_ok-head.head c.in_ok-fields.fields) lists) (sym c.in_default.is) ∙
    row_made (text_in c.args.prog.now) c.args.class.now c.args.sparse.now c.args.numbers.now c.behind_head-members.result.now c.behind_fields-left.result.now
    c.in_ok-head.head c.in_ok-fields.fields c.in_ok-methods.field-0
    c.in_ok-head.ensures c.behind_head-members.ensures
    (c.behind_fields-left.ensures ∙ ap (λ (fs : List FieldDesc). behind_fields fs c.behind_head-members.result.now) c.as_slice-2.ensures)
    (subst (FieldsSay (text_in c.args.prog.now) c.behind_head-members.result.now c.in_ok-fields.fields) c.as_slice.ensures c.in_ok-fields.ensures)
    (subst (ListsSay (text_in c.args.prog.now) c.behind_fields-left.result.now c.args.sparse.now c.in_ok-methods.field-0) c.as_slice-3.ensures c.in_ok-methods.ensures)
    es here counted are

pub returns : goal.returns
returns c = λ es here counted are.
    ap Some c.row_of.ensures ∙
    ap (λ (lists : Option MethodLists). option_map (row_of c.args.class.now.flags c.in_ok-head.head c.in_ok-fields.fields) lists) (sym c.in-Some.is) ∙
    row_made (text_in c.args.prog.now) c.args.class.now c.args.sparse.now c.args.numbers.now c.behind_head-members.result.now c.behind_fields-left.result.now
    c.in_ok-head.head c.in_ok-fields.fields c.in_ok-methods.field-0
    c.in_ok-head.ensures c.behind_head-members.ensures
    (c.behind_fields-left.ensures ∙ ap (λ (fs : List FieldDesc). behind_fields fs c.behind_head-members.result.now) c.as_slice-2.ensures)
    (subst (FieldsSay (text_in c.args.prog.now) c.behind_head-members.result.now c.in_ok-fields.fields) c.as_slice.ensures c.in_ok-fields.ensures)
    (subst (ListsSay (text_in c.args.prog.now) c.behind_fields-left.result.now c.args.sparse.now c.in_ok-methods.field-0) c.as_slice-3.ensures c.in_ok-methods.ensures)
    es here counted are
