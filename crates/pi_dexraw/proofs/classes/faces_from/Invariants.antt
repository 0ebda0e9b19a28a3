use Rattle.std.proofs.Common.{◌≡◌, ℕ, ◌<◌, ◌≤◌, drop, get_or}
use Rattle.std.specs.Prelude.{◌&&◌, nat_le}
use Rattle.std.specs.List.{list_all}
use Rattle.pi_format.specs.Tables.{count_at, class_defs, type_ids}
use Rattle.pi_format.specs.Rules.Classes.{is_class_id, stands_earlier}
use Rattle.pi_dexraw.proofs.classes.faces_from.Given as goal

abbrev pub invariant-loop-k : goal.invariant-loop-k
invariant-loop-k l = record {
  few : l.from ≤ count_at l.types class_defs;
  range : (j : ℕ) → j < l.k → get_or l.faces j 0 < count_at l.types type_ids;
  so_far : (i : ℕ) → i < count_at l.types class_defs
      → list_all (λ t. is_class_id l.types t && stands_earlier l.types i t) l.faces
      ≡ (nat_le l.from i && list_all (λ t. is_class_id l.types t && stands_earlier l.types i t) (drop l.k l.faces));
}
