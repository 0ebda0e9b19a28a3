-- Rule X23: what points at a payload points at one that fits.
use Rattle.std.proofs.Common.{◌≡◌, ℕ, List, None, refl}
use Rattle.std.specs.List.{All}
use Rattle.pi_format.specs.Rules.Rows.{MemberRow}
use Rattle.pi_format.specs.Rules.Pieces.{code_walk, unit_of, first_insn, points_well, broken_payload}
use Rattle.pi_dextables.specs.declared.tables.Tables.{Tables}
use Rattle.pi_dextables.specs.Rows.{all_bodies}
use Rattle.pi_dextables.specs.Said.{IsSaid}
use Rattle.pi_dextables.specs.Writable.{IsWritable}
use Rattle.pi_tablesaid.specs.Closed.{IsClosed}
use Rattle.pi_tablesaid.specs.Kept.{PointsWell}
use Rattle.pi_tablesaid.proofs.EachCode.{none_in_bodies, classes_have}

pub payloads_kept : (file : List ℕ) (t : Tables) → IsSaid file t → IsWritable t → IsClosed t → All PointsWell (all_bodies t.classes) → broken_payload file ≡ None
payloads_kept file t said fits closed points =
    none_in_bodies file t (λ (row : MemberRow). unit_of row.code (first_insn (points_well (code_walk file row.code).pieces) (code_walk file row.code).pieces)) PointsWell said
    (λ row b body none. rw (body.units, none) refl) (classes_have PointsWell t.classes points)
