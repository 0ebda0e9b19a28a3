use Rattle.std.proofs.Common.{Some, None, ◌+◌, drop, sym, ap, ◌∙◌}
use Rattle.std.proofs.Math.ListN.{drop_of_length-le}
use Rattle.pi_asmtext.specs.Walking.{walk}
use Rattle.pi_asmtext.specs.Places.{line_symbols}
use Rattle.pi_asmtext.specs.Rest.{rest_of}
use Rattle.pi_asmtext.specs.Steps.{next_of}
use Rattle.pi_asmtext.proofs.Walking.{token_step, end_step, small_rest}
use Rattle.pi_asmtext.proofs.reading.walk_line.Goals as goal

pub column_behind-column-requires : goal.column_behind-column-requires
column_behind-column-requires c =
    (small_rest c.args.tokens.now c.loop-token.token-index c.token-item.result c.loop-token-test.true c.token-item.is c.loop-token.invariant.small).0

pub loop-token-preserved : goal.loop-token-preserved
loop-token-preserved c =
    let step = ap (next_of c.loop-token.state) (sym c.as_slice.ensures) ∙ sym c.next.ensures ∙ c.in-Some.is in
    let on = token_step c.loop-token.state (Some c.in-Some.next) c.args.number c.loop-token.column c.args.tokens.now c.loop-token.token-index
    c.token-item.result c.loop-token-test.true c.token-item.is step in
    record {
      so_far = ap (λ column. walk (rest_of c.in-Some.next) (line_symbols c.args.number column (drop (c.loop-token.token-index + 1) c.args.tokens.now))) c.column_behind-column.ensures
          ∙ sym on ∙ c.loop-token.invariant.so_far;
      small = (small_rest c.args.tokens.now c.loop-token.token-index c.token-item.result c.loop-token-test.true c.token-item.is c.loop-token.invariant.small).1;
    }

pub returns-in-None : goal.returns-in-None
returns-in-None c =
    let step = ap (next_of c.loop-token.state) (sym c.as_slice.ensures) ∙ sym c.next.ensures ∙ c.in-None.is in
    sym c.loop-token.invariant.so_far ∙ token_step c.loop-token.state None c.args.number c.loop-token.column c.args.tokens.now c.loop-token.token-index
    c.token-item.result c.loop-token-test.true c.token-item.is step

pub returns-in-None-end : goal.returns-in-None-end
returns-in-None-end c =
    sym c.loop-token.invariant.so_far ∙ ap (λ ts. walk (rest_of c.loop-token.state) (line_symbols c.args.number c.loop-token.column ts)) (drop_of_length-le c.args.tokens.now c.loop-token-test.false)
    ∙ end_step c.loop-token.state None c.args.number c.loop-token.column (sym c.end.ensures ∙ c.in-None-end.is)
