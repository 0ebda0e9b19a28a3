use Rattle.std.proofs.Common.{◌∙◌}
use Rattle.pi_dexforms.proofs.FormSteps.{table_has}
use Rattle.pi_dexforms.proofs.forms.form_of.Goals as goal

pub first_opcode-requires : goal.first_opcode-requires
first_opcode-requires c =
    table_has c.args.place.now.sparse c.in-Some.body c.args.body c.as_slice.result.now c.in-Some.is c.requires
    (c.as_slice.ensures ∙ c.opcodes_of-opcodes.ensures)
