use Rattle.std.proofs.Common.{rules, arith, []}
use Rattle.std.proofs.lemmas.Grind.{common_steps}
use Rattle.pi_job.specs.Lines.{lines}
use Rattle.pi_job.specs.Selection.{class_added, whole_selection}
use Rattle.pi_job.proofs.Takings.{ok_law, line_law}
use Rattle.pi_job.proofs.selection.read_selection.Goals as goal

pub returns-in_default-clause-exact : goal.returns-in_default-clause-exact
returns-in_default-clause-exact c = search rules

pub returns-then-not-branch-clause-exact : goal.returns-then-not-branch-clause-exact
returns-then-not-branch-clause-exact c = search rules

pub returns-clause-exact : goal.returns-clause-exact
returns-clause-exact c = grind (arith, common_steps)

pub returns-in_default-clause-line : goal.returns-in_default-clause-line
returns-in_default-clause-line c =
    (line_law (class_added c.args.prog.now c.args.file.0) whole_selection [] (lines c.args.bytes.now) c.loop-rest.n).0
    (returns-in_default-clause-exact c)

pub returns-then-not-branch-clause-line : goal.returns-then-not-branch-clause-line
returns-then-not-branch-clause-line c =
    (line_law (class_added c.args.prog.now c.args.file.0) whole_selection [] (lines c.args.bytes.now) c.loop-rest.n).0
    (returns-then-not-branch-clause-exact c)

pub returns-clause-ok : goal.returns-clause-ok
returns-clause-ok c =
    (ok_law (class_added c.args.prog.now c.args.file.0) whole_selection [] (lines c.args.bytes.now) c.loop-rest.classes).0
    (returns-clause-exact c)
