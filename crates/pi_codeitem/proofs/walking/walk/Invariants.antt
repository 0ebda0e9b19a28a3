use Rattle.std.proofs.Common.{◌-◌, length}
use Rattle.pi_codeitem.proofs.Walked.{AreWalked}
use Rattle.pi_codeitem.proofs.walking.walk.Given as goal

abbrev pub invariant-loop-at : goal.invariant-loop-at
invariant-loop-at l = AreWalked l.units l.at l.starts.items l.askers.items

abbrev pub decreases-loop-at : goal.decreases-loop-at
decreases-loop-at l = length l.units - l.at
