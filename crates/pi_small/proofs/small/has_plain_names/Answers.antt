use Rattle.std.proofs.Common.{◌≡◌, true, false, sym, ap, ◌∙◌}
use Rattle.pi_duty.specs.Small.{is_plain_text}
use Rattle.pi_small.proofs.Lines.{stops_at, goes_on}
use Rattle.pi_small.proofs.small.has_plain_names.Goals as goal

pub returns-then-not-is_short_ascii : goal.returns-then-not-is_short_ascii
returns-then-not-is_short_ascii c =
    let fails : is_plain_text c.name.result.now ≡ false = sym (ap is_plain_text c.as_slice.ensures) ∙ (sym c.is_short_ascii.ensures ∙ c.if-not-is_short_ascii.true) in
    stops_at is_plain_text c.args.prog.now.names c.loop-n.n c.name.result.now c.name.ensures fails c.loop-n.invariant

pub loop-n-preserved : goal.loop-n-preserved
loop-n-preserved c =
    let holds : is_plain_text c.name.result.now ≡ true = sym (ap is_plain_text c.as_slice.ensures) ∙ (sym c.is_short_ascii.ensures ∙ c.if-not-is_short_ascii.false) in
    goes_on is_plain_text c.args.prog.now.names c.loop-n.n c.name.result.now c.name.ensures holds c.loop-n.invariant
