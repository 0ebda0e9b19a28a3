use Rattle.std.proofs.Common.{◌≡◌, drop}
use Rattle.pi_asmtext.specs.Grammar.{text}
use Rattle.pi_asmtext.specs.Rest.{rest_of}
use Rattle.pi_asmtext.specs.Places.{file_symbols}
use Rattle.pi_asmtext.specs.Walking.{AllSmall, walk}
use Rattle.pi_asmtext.proofs.reading.walk_lines.Given as goal

abbrev pub invariant-loop-line : goal.invariant-loop-line
invariant-loop-line l = record {
  so_far : walk (rest_of l.state) (file_symbols (drop l.line-index l.lines)) ≡ walk text (file_symbols l.lines);
  small : AllSmall (drop l.line-index l.lines);
}
