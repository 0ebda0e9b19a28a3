use Rattle.std.proofs.Common.{◌≡◌, ◌-◌, ◌++◌, Some}
use Rattle.std.specs.List.{flat_map}
use Rattle.pi_format.specs.Rules.Lowest.{tabulation}
use Rattle.pi_format.specs.Says.Codes.{catches_at, catches_of}
use Rattle.pi_dexcode.proofs.codes.catches.Given as goal

abbrev pub invariant-loop-k : goal.invariant-loop-k
invariant-loop-k l =
    l.tries ++ flat_map (catches_at l.names l.at l.fn.head l.lists) (tabulation (λ k. k) l.k (l.fn.head.tries - l.k)) ≡ catches_of l.names l.at l.fn.head (Some l.lists)
