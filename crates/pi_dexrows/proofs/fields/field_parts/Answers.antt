use Rattle.pi_contents.specs.Named.{text_in}
use Rattle.pi_dexrows.proofs.FieldSteps.{field_made}
use Rattle.pi_dexrows.proofs.fields.field_parts.Goals as goal

pub loop-field-preserved : goal.loop-field-preserved
loop-field-preserved c = λ p class rest are.
    field_made p (text_in c.args.prog.now) class c.args.fields.now rest c.loop-field.field-index _ c.loop-field.left.now c.behind_field-left.result.now
    c.loop-field.parts c.push.new.self c.field_part.result c.loop-field-test.true c.behind_field-left.ensures (c.field_part.ensures p class) c.in_ok-push.ensures.ok
    (c.loop-field.invariant p class rest are)
