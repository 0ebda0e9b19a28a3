-- The law stands in Sounds.
use Rattle.pi_machine.proofs.Sounds.{steps_keep_sound as law}
use Rattle.pi_machine.proofs.steps_keep_sound.Goals as goal

pub returns : goal.returns
returns c = law
