use Rattle.pi_format.specs.Says.{with_said}
use Rattle.pi_said.proofs.Names.{string_said}
use Rattle.pi_said.proofs.names_are_texts.Goals as goal

pub returns : goal.returns
unfolding with_said
returns c = λ p file i lt. string_said p.names file i lt
