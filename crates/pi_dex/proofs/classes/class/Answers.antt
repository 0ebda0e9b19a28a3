use Rattle.std.proofs.Common.{ℕ, List, sym, ap, ◌∙◌, subst}
use Rattle.std.specs.List.{All}
use Rattle.pi_format.specs.Rules.Values.{EncodedValue, class_values}
use Rattle.pi_format.specs.Says.Classes.{values_in}
use Rattle.pi_dex.specs.Judged.{IsInit}
use Rattle.pi_dex.proofs.Sayable.{says_rows}
use Rattle.pi_dex.proofs.classes.class.Goals as goal

pub fields-requires-clause-statics : goal.fields-requires-clause-statics
fields-requires-clause-statics c = (says_rows c.args.names.now.file c.args.i c.args.rows.now c.requires.rows c.requires.says).statics

pub fields-requires-clause-instances : goal.fields-requires-clause-instances
fields-requires-clause-instances c = (says_rows c.args.names.now.file c.args.i c.args.rows.now c.requires.rows c.requires.says).instances

pub fields-requires-clause-values : goal.fields-requires-clause-values
fields-requires-clause-values c =
    let file = c.args.names.now.file in
    let values = c.values_of.ensures ∙ ap values_in (c.in_ok-values.ensures ∙ ap (λ (f : List ℕ). class_values f c.args.i) c.raw-raw.ensures) in
    subst (λ (vs : List EncodedValue). All (IsInit file) vs) (sym values) c.requires.says.values

pub methods-requires-clause-directs : goal.methods-requires-clause-directs
methods-requires-clause-directs c = (says_rows c.args.names.now.file c.args.i c.args.rows.now c.requires.rows c.requires.says).directs

pub methods-requires-clause-virtuals : goal.methods-requires-clause-virtuals
methods-requires-clause-virtuals c = (says_rows c.args.names.now.file c.args.i c.args.rows.now c.requires.rows c.requires.says).virtuals
