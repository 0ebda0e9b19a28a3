use Rattle.std.proofs.Common.{◌≡◌, ◌-◌, ◌≤◌}
use Rattle.std.specs.Prelude.{option_map}
use Rattle.pi_format.specs.Rules.CodeItems.{handlers_from}
use Rattle.pi_codeitem.proofs.Readers.{in_front}
use Rattle.pi_codeitem.proofs.reading.typed.Given as goal

abbrev pub invariant-loop-i : goal.invariant-loop-i
invariant-loop-i l = record {
  same : l.cursor.bytes ≡ l.fn.cursor.bytes;
  behind : l.fn.cursor.at ≤ l.cursor.at;
  so_far : option_map (in_front l.list.items) (handlers_from l.file l.units (l.n - l.i) l.cursor) ≡ handlers_from l.file l.units l.n l.fn.cursor;
}
