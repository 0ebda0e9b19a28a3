use Rattle.std.proofs.Common.{◌≡◌, ◌++◌, take, map}
use Rattle.pi_dexnumbers.specs.Rows.{rank_at}
use Rattle.pi_dexnumbers.proofs.lookup.put_numbers.Given as goal

abbrev pub invariant-loop-place : goal.invariant-loop-place
invariant-loop-place l = l.row ≡ l.fn.row ++ map (rank_at l.ranks) (take l.place-index l.places)
