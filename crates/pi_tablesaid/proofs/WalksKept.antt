-- Rule X21: the pieces of each code stand one behind the other with no rest.
use Rattle.std.proofs.Common.{◌≡◌, ℕ, List, None, refl}
use Rattle.std.specs.List.{All}
use Rattle.pi_format.specs.Rules.Rows.{MemberRow}
use Rattle.pi_format.specs.Rules.Pieces.{code_walk, unit_of, broken_walk}
use Rattle.pi_dextables.specs.declared.tables.Tables.{Tables}
use Rattle.pi_dextables.specs.Rows.{all_bodies}
use Rattle.pi_dextables.specs.Said.{IsSaid}
use Rattle.pi_dextables.specs.Writable.{IsWritable}
use Rattle.pi_tablesaid.specs.Closed.{IsClosed}
use Rattle.pi_tablesaid.specs.Kept.{WalkEnds}
use Rattle.pi_tablesaid.proofs.EachCode.{none_in_bodies, classes_have}

pub walks_kept : (file : List ℕ) (t : Tables) → IsSaid file t → IsWritable t → IsClosed t → All WalkEnds (all_bodies t.classes) → broken_walk file ≡ None
walks_kept file t said fits closed ends =
    none_in_bodies file t (λ (row : MemberRow). unit_of row.code (code_walk file row.code).stop) WalkEnds said
    (λ row b body stop. rw (body.units, stop) refl) (classes_have WalkEnds t.classes ends)
