use Rattle.pi_job.proofs.Cuts.{lines_cut}
use Rattle.pi_job.proofs.lines.first_line.Goals as goal

pub returns-clause-lines : goal.returns-clause-lines
returns-clause-lines c = rw (c.cut.ensures.front, c.cut.ensures.behind) (lines_cut c.args.bytes.now c.requires)
