-- The plain run of the program's class from its start is the machine's run.
use Rattle.std.proofs.Common.{[], subst, sym}
use Rattle.pi_top.specs.Plain.{Plain, plain_start, PlainEnds, Fits}
use Rattle.pi_top.specs.Seen.{view_of}
use Rattle.pi_top.proofs.SmallRun.{small_has_main, small_fits, small_room, small_run}
use Rattle.pi_top.proofs.plain.run_small.Goals as goal

pub view-small-requires-clause-main : goal.view-small-requires-clause-main
view-small-requires-clause-main g c = small_has_main c.requires.0 c.args.prog.now c.requires.1

pub start-requires : goal.start-requires
start-requires g c = small_room c.requires.0 c.args.prog.now (view_of c.view-small.result) c.requires.1 c.view-small.ensures

pub run-requires : goal.run-requires
run-requires g c =
    let fits : Fits (view_of c.view-small.result) (plain_start (view_of c.view-small.result)) =
    small_fits c.requires.0 c.args.prog.now (view_of c.view-small.result) c.requires.1 c.view-small.ensures in
    record { fits = subst (Fits (view_of c.view-small.result)) (sym c.in_ok-place.ensures) fits }

pub returns-clause-ends : goal.returns-clause-ends
returns-clause-ends g c = λ main small.
    let r = c.run.ensures.ends in
    let e : PlainEnds (view_of c.view-small.result) c.args.steps (plain_start (view_of c.view-small.result)) 0 [] r.0 =
    subst (λ (s : Plain). PlainEnds (view_of c.view-small.result) c.args.steps s 0 [] r.0) c.in_ok-place.ensures r.1.0 in
    (r.0, (small_run main c.args.prog.now (view_of c.view-small.result) c.args.steps r.0 small c.view-small.ensures e, r.1.1))
