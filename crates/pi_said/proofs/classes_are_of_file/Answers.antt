use Rattle.pi_said.proofs.Facts.{classes_are_of_file}
use Rattle.pi_said.proofs.classes_are_of_file.Goals as goal

pub returns : goal.returns
returns c = classes_are_of_file
