use Rattle.pi_contents.specs.Named.{content_in}
use Rattle.pi_dexnames.proofs.Together.{names_then}
use Rattle.pi_dexnames.proofs.Parts.{names_same, class_in_parts}
use Rattle.pi_dexnames.proofs.class.name_parts.Goals as goal

pub returns : goal.returns
returns c =
    names_same (class_in_parts (content_in c.args.prog.now c.args.class.now))
    (names_then c.in_ok-name_heading.ensures c.name_members.ensures)
