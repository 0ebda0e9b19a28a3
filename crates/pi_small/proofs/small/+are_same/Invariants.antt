use Rattle.std.proofs.Common.{length}
use Rattle.pi_small.proofs.small.+are_same.Given as goal

abbrev pub decreases-are_same : goal.decreases-are_same
decreases-are_same l = length l.a.now
