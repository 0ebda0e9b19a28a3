use Rattle.std.proofs.Common.{Bool, sym, ap, ◌∙◌}
use Rattle.pi_contents.specs.Named.{text_in}
use Rattle.pi_classtables.specs.Spelled.{MethodSpelled}
use Rattle.pi_dexdata.specs.Numbers.{no_text}
use Rattle.pi_dexrows.specs.Rows.{with_row}
use Rattle.pi_dexrows.proofs.ListSteps.{own_of, numbers_first, none_made, one_made}
use Rattle.pi_dexrows.proofs.rows.rows_of.Goals as goal

pub method_row-requires : goal.method_row-requires
method_row-requires c =
    own_of no_text MethodSpelled c.args.methods.now c.args.sparse.now c.loop-place.place c.index-methods-place.result c.sparse_at.result.now
    c.requires.spelled c.loop-place-test.true c.index-methods-place.is c.sparse_at.ensures

pub returns-in_default : goal.returns-in_default
returns-in_default c = λ p class few are.
    let text = text_in c.args.prog.now in
    let before = c.loop-place.invariant p class few are in
    let own = numbers_first p text class c.args.methods.now c.args.sparse.now c.loop-place.place c.loop-place.left.now c.loop-place.lists
    c.index-methods-place.result c.index-methods-place.is c.sparse_at.result.now c.sparse_at.ensures c.loop-place-test.true before in
    none_made p text class c.args.methods.now c.args.sparse.now c.loop-place.place c.loop-place.left.now c.loop-place.lists
    c.index-methods-place.result c.index-methods-place.is c.sparse_at.result.now c.sparse_at.ensures c.loop-place-test.true before
    (sym (c.in_ok-row.ensures p text class _ few own) ∙ c.in_default.is)

pub loop-place-preserved : goal.loop-place-preserved
loop-place-preserved c = λ p class few are.
    let text = text_in c.args.prog.now in
    let before = c.loop-place.invariant p class few are in
    let own = numbers_first p text class c.args.methods.now c.args.sparse.now c.loop-place.place c.loop-place.left.now c.loop-place.lists
    c.index-methods-place.result c.index-methods-place.is c.sparse_at.result.now c.sparse_at.ensures c.loop-place-test.true before in
    one_made p text class c.args.methods.now c.args.sparse.now c.loop-place.place c.loop-place.left.now c.loop-place.lists
    c.index-methods-place.result c.index-methods-place.is c.sparse_at.result.now c.sparse_at.ensures c.loop-place-test.true before
    c.in-Some.row c.behind_method-left.result.now c.add_row.new.lists (sym (c.in_ok-row.ensures p text class _ few own) ∙ c.in-Some.is)
    (c.in_ok-add_row.ensures ∙ ap (λ (direct : Bool). with_row direct c.in-Some.row c.loop-place.lists) c.is_direct.ensures) c.behind_method-left.ensures
