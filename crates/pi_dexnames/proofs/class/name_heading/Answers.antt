use Rattle.pi_contents.specs.Named.{text_in}
use Rattle.pi_dexnames.proofs.Together.{names_then}
use Rattle.pi_dexnames.proofs.Parts.{names_types}
use Rattle.pi_dexnames.proofs.class.name_heading.Goals as goal

pub returns : goal.returns
returns c =
    names_then c.in_ok-name_type.ensures (names_then c.in_ok-name_optional_type.ensures
    (names_types (text_in c.args.prog.now) c.as_slice.result.now c.args.class.now.faces c.as_slice.ensures c.name_types.ensures))
