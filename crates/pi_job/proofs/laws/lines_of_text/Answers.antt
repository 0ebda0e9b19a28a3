use Rattle.pi_job.proofs.Cuts.{ended_line, last_line}
use Rattle.pi_job.proofs.laws.lines_of_text.Goals as goal

pub returns-clause-ended : goal.returns-clause-ended
returns-clause-ended c = ended_line

pub returns-clause-last : goal.returns-clause-last
returns-clause-last c = last_line
