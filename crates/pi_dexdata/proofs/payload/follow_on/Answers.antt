use Rattle.std.proofs.Common.{sym, ◌∙◌}
use Rattle.pi_dexdata.proofs.Payloads.{few_follow}
use Rattle.pi_dexdata.proofs.payload.follow_on.Goals as goal

pub returns : goal.returns
returns c = sym (few_follow c.loop-rest.rest.now c.in_default.len_below) ∙ c.loop-rest.invariant
