use Rattle.pi_model.specs.declared.describe.MethodDesc.{MethodDesc}
use Rattle.pi_contents.specs.Named.{text_in, method_content}
use Rattle.pi_contents.specs.Naming.{named_by_method}
use Rattle.pi_dexnames.proofs.Together.{names_next}
use Rattle.pi_dexnames.proofs.members.name_methods.Goals as goal

pub loop-method-preserved : goal.loop-method-preserved
loop-method-preserved c =
    names_next (λ (member : MethodDesc). named_by_method (text_in c.args.prog.now c.args.class) (method_content (text_in c.args.prog.now) member))
    c.args.methods.now c.loop-method.method-index c.method-item.result c.method-item.result c.loop-method-test.true c.method-item.is c.loop-method.invariant
    c.in_ok-name_method.ensures
