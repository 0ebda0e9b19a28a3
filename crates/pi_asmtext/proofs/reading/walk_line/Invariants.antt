use Rattle.std.proofs.Common.{◌≡◌, drop}
use Rattle.pi_asmtext.specs.Rest.{rest_of}
use Rattle.pi_asmtext.specs.Places.{line_symbols}
use Rattle.pi_asmtext.specs.Walking.{Small, walk}
use Rattle.pi_asmtext.proofs.reading.walk_line.Given as goal

abbrev pub invariant-loop-token : goal.invariant-loop-token
invariant-loop-token l = record {
  so_far : walk (rest_of l.state) (line_symbols l.fn.number l.column (drop l.token-index l.tokens)) ≡ walk (rest_of l.fn.start) (line_symbols l.fn.number 1 l.tokens);
  small : Small (drop l.token-index l.tokens);
}
