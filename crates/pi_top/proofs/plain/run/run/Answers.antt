-- Where the loop ends the run ends as it does from there; a fault leaves a front of the output.
use Rattle.std.proofs.Common.{◌≡◌, true, false, refl, ◌∙◌}
use Rattle.pi_machine.specs.Ends.{Returned, StepLimit}
use Rattle.pi_top.specs.Plain.{finish_of, is_over, PlainEnds}
use Rattle.pi_top.specs.Seen.{view_of, plain_of}
use Rattle.pi_top.proofs.PlainLaws.{ends_over, ends_limited, so_far_on, breaks_off}
use Rattle.pi_top.proofs.plain.run.run.Goals as goal

pub returns-then-made-limit-clause-ends : goal.returns-then-made-limit-clause-ends
returns-then-made-limit-clause-ends g c =
    let goes : is_over c.steps.place.stage ≡ false = cc in
    let end : PlainEnds (view_of c.args.small.now) c.args.limit (plain_of c.steps.place) c.steps.made c.steps.invariant.run.out (finish_of StepLimit c.steps.invariant.run.out c.steps.made) =
    ends_limited _ _ _ _ _ goes c.if-made-limit.true in
    (finish_of StepLimit c.steps.invariant.run.out c.steps.made, (c.steps.invariant.run.back _ end, (refl, refl, record { bytes = c.steps.invariant.run.printed; faults = c.steps.invariant.faults })))

pub returns-clause-ends : goal.returns-clause-ends
returns-clause-ends g c =
    let over : is_over c.steps.place.stage ≡ true = cc in
    let end : PlainEnds (view_of c.args.small.now) c.args.limit (plain_of c.steps.place) c.steps.made c.steps.invariant.run.out (finish_of Returned c.steps.invariant.run.out c.steps.made) =
    ends_over _ _ _ _ _ over in
    (finish_of Returned c.steps.invariant.run.out c.steps.made, (c.steps.invariant.run.back _ end, (refl, refl, record { bytes = c.steps.invariant.run.printed; faults = c.steps.invariant.faults })))

pub steps-preserved : goal.steps-preserved
steps-preserved g c =
    let goes : is_over c.steps.place.stage ≡ false = cc in
    record {
      run = so_far_on _ _ _ _ _ _ _ _ _ c.steps.invariant.run goes c.if-made-limit.false c.in-Ok.ensures.state c.in-Ok.ensures.puts.bytes;
      faults = c.in-Ok.ensures.puts.faults ∙ c.steps.invariant.faults;
    }

pub returns-in-Err-clause-ends : goal.returns-in-Err-clause-ends
returns-in-Err-clause-ends g c =
    let goes : is_over c.steps.place.stage ≡ false = cc in
    breaks_off _ _ _ _ _ _ _ _ c.steps.invariant.run c.steps.invariant.faults goes c.if-made-limit.false c.in-Err.ensures.puts
