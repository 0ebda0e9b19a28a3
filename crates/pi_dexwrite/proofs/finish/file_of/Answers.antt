use Rattle.pi_dexwrite.specs.Held.{all_added}
use Rattle.pi_dexwrite.proofs.finish.file_of.Goals as goal

pub returns-clause-kept : goal.returns-clause-kept
returns-clause-kept c =
    c.classes_are_written.ensures.kept (all_added c.args.parts.now) c.in-Ok.tables c.in-Ok-write.file.items c.requires.spelled c.requires.sized
    c.in-Ok.ensures.made c.in-Ok.ensures.writable c.in-Ok-write.ensures.said

pub returns-clause-said : goal.returns-clause-said
returns-clause-said c =
    c.classes_are_written.ensures.said (all_added c.args.parts.now) c.in-Ok.tables c.in-Ok-write.file.items c.requires.spelled c.requires.sized
    c.in-Ok.ensures.made c.in-Ok.ensures.writable c.in-Ok-write.ensures.said
