use Rattle.pi_model.specs.declared.describe.Line.{Line}
use Rattle.pi_contents.specs.Named.{text_in, line_content}
use Rattle.pi_contents.specs.Naming.{named_by_line}
use Rattle.pi_dexnames.proofs.Together.{names_next}
use Rattle.pi_dexnames.proofs.codes.name_lines.Goals as goal

pub loop-line-preserved : goal.loop-line-preserved
loop-line-preserved c =
    names_next (λ (line : Line). named_by_line (line_content (text_in c.args.prog.now) line)) c.args.lines.now c.loop-line.line-index
    c.line-item.result c.line-item.result c.loop-line-test.true c.line-item.is c.loop-line.invariant c.in_ok-name_insn.ensures
