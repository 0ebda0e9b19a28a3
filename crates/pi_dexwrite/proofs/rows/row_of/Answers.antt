use Rattle.std.proofs.Common.{sym, subst, List, ℕ}
use Rattle.pi_contents.specs.Named.{class_content, text_in}
use Rattle.pi_dexdata.specs.Numbers.{no_text}
use Rattle.pi_classtables.specs.Spelled.{IsSpelled}
use Rattle.pi_dexwrite.proofs.rows.row_of.Goals as goal

pub class_row-requires-clause-spelled : goal.class_row-requires-clause-spelled
class_row-requires-clause-spelled c =
    subst (λ (s : List (List ℕ)). IsSpelled (record { class = class_content no_text c.args.part.now.class.now; sparse = s })) (sym c.as_slice-2.ensures)
    (c.whatever_the_names.ensures (text_in c.args.part.now.prog.now) no_text c.args.part.now.class.now c.args.part.now.sparse c.requires.spelled)
