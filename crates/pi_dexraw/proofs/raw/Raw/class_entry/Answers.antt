use Rattle.pi_dexraw.proofs.Kept.{class_there, parent_there}
use Rattle.pi_dexraw.proofs.raw.Raw.class_entry.Goals as goal

pub returns-clause-class_there : goal.returns-clause-class_there
returns-clause-class_there c =
    rw (c.class_def_at.ensures.class, c.file.ensures.value) (class_there c.args.self.now c.args.i c.file.ensures.kept c.requires)

pub returns-clause-parent_there : goal.returns-clause-parent_there
returns-clause-parent_there c =
    rw (c.class_def_at.ensures.parent, c.file.ensures.value) (parent_there c.args.self.now c.args.i c.file.ensures.kept c.requires)
