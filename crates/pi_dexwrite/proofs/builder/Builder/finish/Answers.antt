use Rattle.std.proofs.Common.{◌∙◌, ap, subst, List}
use Rattle.std.specs.Prelude.{IfOk}
use Rattle.pi_classlaws.specs.Written.{SaysAgain}
use Rattle.pi_classtables.specs.Whole.{Added}
use Rattle.pi_dexwrite.specs.Held.{all_added}
use Rattle.pi_dexwrite.proofs.builder.Builder.finish.Goals as goal

pub returns-clause-said : goal.returns-clause-said
returns-clause-said c =
    subst (λ (es : List Added). IfOk c.file_of.result (λ file. SaysAgain es file.items)) (ap all_added c.as_slice.ensures.value ∙ c.self.view_is)
    c.file_of.ensures.said
