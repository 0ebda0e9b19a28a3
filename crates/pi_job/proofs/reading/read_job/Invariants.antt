use Rattle.std.proofs.Common.{◌≡◌, length}
use Rattle.pi_job.specs.Lines.{lines}
use Rattle.pi_job.specs.Telling.{told_from}
use Rattle.pi_job.specs.Job.{line_added, whole_job, job_of}
use Rattle.pi_job.proofs.reading.read_job.Given as goal

abbrev pub invariant-loop-rest : goal.invariant-loop-rest
invariant-loop-rest l = told_from (line_added l.name) whole_job l.draft l.n (lines l.rest) ≡ job_of l.name l.bytes

abbrev pub decreases-loop-rest : goal.decreases-loop-rest
decreases-loop-rest l = length l.rest
