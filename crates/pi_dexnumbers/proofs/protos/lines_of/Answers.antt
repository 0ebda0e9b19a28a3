use Rattle.std.proofs.Common.{◌≡◌, ◌++◌, ◌∷◌, [], length, length-append, arith, rules, Some, None, refl}
use Rattle.std.specs.Slice.Iter.{iter_rest}
use Rattle.std.specs.Iterator.Adapters.{zip_first, zip_second}
use Rattle.std.proofs.lemmas.Slice.Zip.{zip_turn, zip_end}
use Rattle.pi_dexnumbers.proofs.Lines.{lines_step, lines_end}
use Rattle.pi_dexnumbers.proofs.protos.lines_of.Goals as goal

pub loop-number-preserved : goal.loop-number-preserved
loop-number-preserved c =
    let args = c.args in
    let done = c.loop-number.yielded in
    let begun = c.into_iter-number-iterator.result in
    let first : iter_rest (zip_first begun) ≡ args.ranks.now = search rules in
    let second : iter_rest (zip_second begun) ≡ args.protos.now = search rules in
    let turn = zip_turn args.ranks.now args.protos.now done begun c.loop-number.number-iterator c.next.new.self (Some (c.in-Some.number, c.in-Some.proto))
    first second c.loop-number.yielded_by (c.in-Some.number, c.in-Some.proto) refl c.in-Some.ensures.steps in
    lines_step args.texts.now args.types.now args.ranks.now args.protos.now (length done) (length (done ++ (c.in-Some.number, c.in-Some.proto) ∷ []))
    c.in-Some.number.now c.in-Some.proto.now c.loop-number.lines c.push.new.self c.in_ok-line_of.field-0
    (omega (arith, length-append done ((c.in-Some.number, c.in-Some.proto) ∷ []))) turn.0 turn.1 (turn.2 c.in-Some.number.now) (turn.3 c.in-Some.proto.now)
    c.loop-number.invariant c.in_ok-line_of.ensures c.in_ok-push.ensures.ok

pub returns : goal.returns
returns c =
    let args = c.args in
    let done = c.loop-number.yielded in
    let begun = c.into_iter-number-iterator.result in
    let first : iter_rest (zip_first begun) ≡ args.ranks.now = search rules in
    let second : iter_rest (zip_second begun) ≡ args.protos.now = search rules in
    lines_end args.texts.now args.types.now args.ranks.now args.protos.now (length done) c.loop-number.lines
    (zip_end args.ranks.now args.protos.now done begun c.loop-number.number-iterator c.next.new.self None first second c.loop-number.yielded_by refl c.in-None.ensures.steps)
    c.loop-number.invariant
