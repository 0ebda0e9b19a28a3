use Rattle.std.proofs.Common.{[]}
use Rattle.pi_job.specs.Lines.{lines}
use Rattle.pi_job.specs.Job.{line_added, whole_job, nothing_said}
use Rattle.pi_job.specs.Selection.{class_added, whole_selection}
use Rattle.pi_job.proofs.Takings.{ok_law, line_law}
use Rattle.pi_job.proofs.laws.first_broken_line.Goals as goal

pub returns-clause-job : goal.returns-clause-job
returns-clause-job c name bytes = ok_law (line_added name) whole_job nothing_said (lines bytes)

pub returns-clause-job_line : goal.returns-clause-job_line
returns-clause-job_line c name bytes = line_law (line_added name) whole_job nothing_said (lines bytes)

pub returns-clause-selection : goal.returns-clause-selection
returns-clause-selection c p file bytes = ok_law (class_added p file) whole_selection [] (lines bytes)

pub returns-clause-selection_line : goal.returns-clause-selection_line
returns-clause-selection_line c p file bytes = line_law (class_added p file) whole_selection [] (lines bytes)
