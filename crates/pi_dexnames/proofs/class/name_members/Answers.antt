use Rattle.pi_contents.specs.Named.{text_in}
use Rattle.pi_dexnames.proofs.Together.{names_then}
use Rattle.pi_dexnames.proofs.Parts.{names_fields, names_methods}
use Rattle.pi_dexnames.proofs.class.name_members.Goals as goal

pub returns : goal.returns
returns c =
    let text = text_in c.args.prog.now in
    let class = c.args.class.now in
    names_then
    (names_fields text (text class.name) c.as_slice-fields.result.now class.fields c.as_slice-fields.ensures c.in_ok-name_fields.ensures)
    (names_methods text (text class.name) c.as_slice-methods.result.now class.methods c.as_slice-methods.ensures c.name_methods.ensures)
