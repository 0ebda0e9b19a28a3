use Rattle.std.proofs.Common.{arith}
use Rattle.std.proofs.lemmas.Map.Text.{text_keys}
use Rattle.pi_base.proofs.mem_store.set_content.Goals as goal

pub returns-clause-others_stand : goal.returns-clause-others_stand
returns-clause-others_stand c = λ other differs. grind (arith, text_keys)
