use Rattle.pi_saidkeeps.proofs.Files.{files_are_of_format}
use Rattle.pi_saidkeeps.proofs.files_are_of_format.Goals as goal

pub returns : goal.returns
returns c = files_are_of_format
