-- The law stands in SoundStarts.
use Rattle.pi_machine.proofs.SoundStarts.{starts_are_sound as law}
use Rattle.pi_machine.proofs.starts_are_sound.Goals as goal

pub returns : goal.returns
returns c = law
