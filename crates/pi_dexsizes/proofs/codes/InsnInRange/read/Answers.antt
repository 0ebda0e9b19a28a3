use Rattle.std.proofs.Common.{◌<◌, ◌^◌, inl, inr, arith}
use Rattle.pi_contents.specs.Named.{bare}
use Rattle.pi_dexsizes.proofs.Bare.{others_sized}
use Rattle.pi_dexsizes.proofs.codes.InsnInRange.read.Goals as goal

pub returns-in-Switch : goal.returns-in-Switch
unfolding bare
returns-in-Switch c = rw c.in-Switch.is c.read.ensures

pub returns-in_default : goal.returns-in_default
returns-in_default c = others_sized c.args.self.now c.in_default.not-Goto c.in_default.not-If c.in_default.not-IfZ c.in_default.not-Switch

pub returns-in-Goto : goal.returns-in-Goto
unfolding bare
returns-in-Goto c =
    let small : c.in-Goto.to < 2 ^ 32 = omega arith in
    elim c.in-Goto.is [ inl e ↦ rw e small | inr other ↦ elim other [ inl branch ↦ rw branch.3 small | inr branch ↦ rw branch.2 small ] ]
