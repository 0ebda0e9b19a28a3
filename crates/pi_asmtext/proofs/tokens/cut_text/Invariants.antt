use Rattle.std.proofs.Common.{◌≡◌, ◌+◌, ◌≤◌}
use Rattle.pi_asmtext.specs.Cutting.{at_start, text_steps}
use Rattle.pi_asmtext.proofs.tokens.cut_text.Given as goal

abbrev pub invariant-loop-c : goal.invariant-loop-c
invariant-loop-c l = record {
  so_far : l.cutter ≡ text_steps at_start l.yielded;
  number : l.cutter.number + goal.iterator-loop-c.remaining l.c-iterator ≤ goal.iterator-loop-c.remaining l.initial.c-iterator + 1;
  column : l.cutter.column + goal.iterator-loop-c.remaining l.c-iterator ≤ goal.iterator-loop-c.remaining l.initial.c-iterator + 1;
}
