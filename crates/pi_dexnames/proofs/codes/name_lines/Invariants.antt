use Rattle.std.proofs.Common.{take, Ok}
use Rattle.std.specs.List.{flat_map}
use Rattle.std.specs.declared.alloc.AllocError.{AllocError}
use Rattle.pi_model.specs.declared.describe.Line.{Line}
use Rattle.pi_contents.specs.Named.{text_in, line_content}
use Rattle.pi_contents.specs.Naming.{named_by_line}
use Rattle.pi_dexnames.specs.Named.{Names}
use Rattle.pi_dexnames.proofs.codes.name_lines.Given as goal

abbrev pub invariant-loop-line : goal.invariant-loop-line
invariant-loop-line l =
    Names {A = Unit {0}} {E = AllocError} (Ok tt) l.fn.pools l.fn.places l.pools l.places
    (flat_map (λ (line : Line). named_by_line (line_content (text_in l.prog) line)) (take l.line-index l.lines))
