use Rattle.std.proofs.Common.{sym, ◌∙◌, arith}
use Rattle.pi_codeitem.proofs.Readers.{typed_goes, typed_stops}
use Rattle.pi_codeitem.proofs.reading.typed.Goals as goal

pub returns-in-None-clause-exact : goal.returns-in-None-clause-exact
returns-in-None-clause-exact c =
    sym c.loop-i.invariant.so_far ∙ typed_stops c.args.file.now c.args.units c.loop-i.i c.args.n c.loop-i.cursor c.loop-i.list.items c.loop-i-test.true c.in-None.ensures.exact

pub loop-i-preserved : goal.loop-i-preserved
loop-i-preserved c =
    let behind = c.in-Some.ensures.behind in
    record {
      same = c.in-Some.ensures.same ∙ c.loop-i.invariant.same;
      behind = omega (arith, behind, c.loop-i.invariant.behind);
      so_far = rw c.in_ok-push-in-Some.ensures.items (typed_goes c.args.file.now c.args.units c.loop-i.i c.args.n c.loop-i.cursor c.held.new.cursor c.loop-i.list.items c.in-Some.handler c.loop-i-test.true c.in-Some.ensures.exact
          ∙ c.loop-i.invariant.so_far);
    }
