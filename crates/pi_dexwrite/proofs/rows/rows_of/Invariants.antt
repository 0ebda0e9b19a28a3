use Rattle.std.proofs.Common.{◌≡◌, List, take, Some}
use Rattle.std.specs.List.{All}
use Rattle.pi_classtables.specs.Whole.{Added, class_row, for_each, pools_for}
use Rattle.pi_dexwrite.specs.Held.{all_added}
use Rattle.pi_dexwrite.specs.Ready.{IsReady}
use Rattle.pi_dexwrite.proofs.rows.rows_of.Given as goal

abbrev pub invariant-loop-part : goal.invariant-loop-part
invariant-loop-part l =
    (es : List Added) → All (IsReady es l.ranks) l.parts → for_each (class_row (pools_for es)) (all_added (take l.part-index l.parts)) ≡ Some l.rows
