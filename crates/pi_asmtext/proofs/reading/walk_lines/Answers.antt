use Rattle.std.proofs.Common.{List, Ok, Err, sym, ap, subst, ◌∙◌}
use Rattle.pi_asmtext.specs.declared.file.Token.{Token}
use Rattle.pi_asmtext.specs.Walking.{Small, walk}
use Rattle.pi_asmtext.specs.Places.{line_symbols}
use Rattle.pi_asmtext.specs.Rest.{rest_of}
use Rattle.pi_asmtext.proofs.Walking.{all_rest, line_step}
use Rattle.pi_asmtext.proofs.reading.walk_lines.Goals as goal

pub walk_line-requires : goal.walk_line-requires
walk_line-requires c =
    let P : List Token → Type 0 = λ ts. Small ts in
    subst P (sym c.as_slice.ensures) (all_rest c.args.lines.now c.loop-line.line-index c.line-item.result c.loop-line-test.true c.line-item.is c.loop-line.invariant.small).0

pub returns-in-Err : goal.returns-in-Err
returns-in-Err c =
    let tokens = ap (λ ts. walk (rest_of c.loop-line.state) (line_symbols c.line-item.result.number 1 ts)) (sym c.as_slice.ensures) in
    sym c.loop-line.invariant.so_far
    ∙ line_step (rest_of c.loop-line.state) (Err (c.line-item.result.number, c.in-Err.column)) c.args.lines.now c.loop-line.line-index
    c.line-item.result c.loop-line-test.true c.line-item.is (tokens ∙ c.in-Err.ensures)

pub loop-line-preserved : goal.loop-line-preserved
loop-line-preserved c =
    let tokens = ap (λ ts. walk (rest_of c.loop-line.state) (line_symbols c.line-item.result.number 1 ts)) (sym c.as_slice.ensures) in
    record {
      so_far = sym (line_step (rest_of c.loop-line.state) (Ok (rest_of c.in-Ok.next)) c.args.lines.now c.loop-line.line-index c.line-item.result
          c.loop-line-test.true c.line-item.is (tokens ∙ c.in-Ok.ensures)) ∙ c.loop-line.invariant.so_far;
      small = (all_rest c.args.lines.now c.loop-line.line-index c.line-item.result c.loop-line-test.true c.line-item.is c.loop-line.invariant.small).1;
    }
