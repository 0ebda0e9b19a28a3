-- The law stands in Images.
use Rattle.pi_machine.proofs.Images.{image_bytes_grow as law}
use Rattle.pi_machine.proofs.image_bytes_grow.Goals as goal

pub returns : goal.returns
returns c = law
