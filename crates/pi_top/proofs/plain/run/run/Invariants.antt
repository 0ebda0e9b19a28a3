-- From each moment of the loop the run ends as it does from its start.
use Rattle.std.proofs.Common.{◌-◌, ◌≡◌}
use Rattle.pi_top.proofs.PlainLaws.{SoFar}
use Rattle.pi_top.specs.Seen.{view_of, plain_of}
use Rattle.pi_top.proofs.plain.run.run.Given as goal

pub record Invariant (so_far quiet : Type 0) : Type 0 where
  pub run : so_far
  pub faults : quiet

abbrev pub invariant-steps : goal.invariant-steps
invariant-steps g l = Invariant
    (SoFar (view_of l.small) l.limit (plain_of l.initial.place) (plain_of l.place) l.made (g.O.Sink.view l.initial.out).bytes (g.O.Sink.view l.out).bytes)
    ((g.O.Sink.view l.out).faults ≡ (g.O.Sink.view l.initial.out).faults)

abbrev pub decreases-steps : goal.decreases-steps
decreases-steps g l = l.limit - l.made
