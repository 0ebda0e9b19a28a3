use Rattle.std.proofs.Common.{◌≡◌, ◌+◌, ◌-◌, length}
use Rattle.pi_format.specs.Tables.{count_at, class_defs, type_ids}
use Rattle.pi_format.specs.Rules.Entries.{first_bad}
use Rattle.pi_format.specs.Rules.Classes.{class_holds}
use Rattle.pi_dexraw.specs.Interfaces.{AreInRange, AreKnown}
use Rattle.pi_dexraw.proofs.classes.classes_rule.Given as goal

abbrev pub invariant-loop-i : goal.invariant-loop-i
invariant-loop-i l = record {
  same : length l.marks.items ≡ count_at l.types type_ids;
  fresh : AreInRange (l.i + 1) l.marks.items;
  known : AreKnown l.types l.known.items;
  so_far : first_bad (class_holds l.types) l.i (count_at l.types class_defs - l.i) ≡ first_bad (class_holds l.types) 0 (count_at l.types class_defs);
}
