use Rattle.std.proofs.Common.{get_or, refl}
use Rattle.pi_model.specs.declared.describe.FieldDesc.{FieldDesc}
use Rattle.pi_model.specs.declared.describe.Init.TheVariants.{Zero}
use Rattle.pi_contents.specs.Named.{text_in, field_content}
use Rattle.pi_contents.specs.Naming.{named_by_field}
use Rattle.pi_dexnames.proofs.Together.{names_next}
use Rattle.pi_dexnames.proofs.members.name_fields.Goals as goal

pub loop-field-preserved : goal.loop-field-preserved
loop-field-preserved c =
    let none : FieldDesc = record { name = record { 0 = 0 }; ty = record { 0 = 0 }; flags = 0; init = Zero } in
    let this : FieldDesc = get_or c.args.fields.now c.loop-field.field-index none in
    names_next (λ (member : FieldDesc). named_by_field (text_in c.args.prog.now c.args.class) (field_content (text_in c.args.prog.now) member))
    c.args.fields.now c.loop-field.field-index this none c.loop-field-test.true refl c.loop-field.invariant
    c.in_ok-name_field.ensures
