use Rattle.pi_contents.specs.Named.{text_in}
use Rattle.pi_dexnames.proofs.Parts.{names_code}
use Rattle.pi_dexnames.proofs.codes.name_code.Goals as goal

pub returns : goal.returns
returns c =
    names_code (text_in c.args.prog.now) c.args.code.now c.in-Some.code c.as_slice.result.now c.as_slice-2.result.now c.in-Some.is
    c.as_slice.ensures c.as_slice-2.ensures c.in_ok-name_lines.ensures c.name_catches.ensures
