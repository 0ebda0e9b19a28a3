use Rattle.std.proofs.Common.{ℕ, ◌-◌, ◌<◌, ◌≤◌, length, get_or}
use Rattle.pi_model.proofs.Orders.{rank}
use Rattle.pi_model.proofs.order.find_in.Given as goal

abbrev pub invariant-loop-low : goal.invariant-loop-low
invariant-loop-low l = record {
  high : l.high ≤ length l.order;
  met : l.low ≤ l.high;
  below : (k : ℕ) → k < l.low → rank l.names l.text (get_or l.order k 0) < 1;
  above : (k : ℕ) → l.high ≤ k → k < length l.order → 1 ≤ rank l.names l.text (get_or l.order k 0);
}

abbrev pub decreases-loop-low : goal.decreases-loop-low
decreases-loop-low l = l.high - l.low
