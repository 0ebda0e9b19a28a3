use Rattle.pi_top.proofs.Owing.{usage_gives}
use Rattle.pi_top.proofs.answer.answer.Goals as goal

pub returns-in-None-clause-gives : goal.returns-in-None-clause-gives
returns-in-None-clause-gives g c = usage_gives _ _ _ c.in-None.ensures
