use Rattle.pi_said.proofs.Fold.{said_program}
use Rattle.pi_said.proofs.files_say_a_program.Goals as goal

pub returns : goal.returns
returns c = said_program
