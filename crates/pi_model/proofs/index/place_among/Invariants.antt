use Rattle.std.proofs.Common.{◌-◌, ◌<◌, ◌≤◌, length, slice_index_or}
use Rattle.pi_model.proofs.index.place_among.Given as goal

abbrev pub invariant-loop-high : goal.invariant-loop-high
invariant-loop-high l = record {
  within : l.low < l.high;
  upto : l.high ≤ length l.starts;
  at : slice_index_or l.starts l.low 0 ≤ l.number;
  next : l.high < length l.starts → l.number < slice_index_or l.starts l.high 0;
}

abbrev pub decreases-loop-high : goal.decreases-loop-high
decreases-loop-high l = l.high - l.low
