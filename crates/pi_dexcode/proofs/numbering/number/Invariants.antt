use Rattle.std.proofs.Common.{◌≡◌, ◌+◌, ◌-◌, ◌≤◌, ◌++◌, length}
use Rattle.pi_format.specs.Tables.{count_at, string_ids}
use Rattle.pi_format.specs.Rules.Strings.{string_units}
use Rattle.pi_format.specs.Rules.Lowest.{tabulation}
use Rattle.pi_format.specs.Says.Names.{texts_of, new_names, numbers_from, name_numbers}
use Rattle.pi_dexcode.proofs.numbering.number.Given as goal

abbrev pub invariant-loop-i : goal.invariant-loop-i
invariant-loop-i l = record {
  few : length l.new ≤ l.i;
  names : l.new ++ new_names l.prog.names (tabulation (string_units l.raw) l.i (count_at l.raw string_ids - l.i)) ≡ new_names l.prog.names (texts_of l.raw);
  numbers : l.numbers ++ numbers_from l.prog.names (length l.prog.names + length l.new) (tabulation (string_units l.raw) l.i (count_at l.raw string_ids - l.i))
      ≡ name_numbers l.prog.names l.raw;
}
