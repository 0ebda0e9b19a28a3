use Rattle.std.proofs.Common.{rules, arith}
use Rattle.std.proofs.lemmas.Grind.{common_steps}
use Rattle.pi_job.specs.Lines.{lines}
use Rattle.pi_job.specs.Job.{line_added, whole_job, nothing_said}
use Rattle.pi_job.proofs.Takings.{ok_law, line_law}
use Rattle.pi_job.proofs.reading.read_job.Goals as goal

pub returns-then-not-branch-clause-exact : goal.returns-then-not-branch-clause-exact
returns-then-not-branch-clause-exact c = search rules

pub returns-in-Some-clause-exact : goal.returns-in-Some-clause-exact
returns-in-Some-clause-exact c = grind (arith, common_steps)

pub returns-in-None-clause-exact : goal.returns-in-None-clause-exact
returns-in-None-clause-exact c = grind (arith, common_steps)

pub returns-then-not-branch-clause-line : goal.returns-then-not-branch-clause-line
returns-then-not-branch-clause-line c =
    (line_law (line_added c.args.name.now) whole_job nothing_said (lines c.args.bytes.now) c.loop-rest.n).0
    (returns-then-not-branch-clause-exact c)

pub returns-in-Some-clause-ok : goal.returns-in-Some-clause-ok
returns-in-Some-clause-ok c =
    (ok_law (line_added c.args.name.now) whole_job nothing_said (lines c.args.bytes.now) c.in-Some.job).0 (returns-in-Some-clause-exact c)

pub returns-in-None-clause-line : goal.returns-in-None-clause-line
returns-in-None-clause-line c =
    (line_law (line_added c.args.name.now) whole_job nothing_said (lines c.args.bytes.now) c.loop-rest.n).0 (returns-in-None-clause-exact c)
