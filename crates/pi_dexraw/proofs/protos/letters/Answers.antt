use Rattle.std.proofs.Common.{sym, ◌∙◌}
use Rattle.pi_format.specs.Rules.Descriptors.{short_letter}
use Rattle.pi_format.specs.Rules.Strings.{type_units}
use Rattle.pi_dexraw.proofs.Params.{map_goes, map_ends}
use Rattle.pi_dexraw.proofs.protos.letters.Goals as goal

pub loop-i-preserved : goal.loop-i-preserved
loop-i-preserved c =
    let items = c.in_ok-push-2.ensures.items in
    let file = c.args.types.now in
    rw (items, c.short-in-loop-i.ensures) (map_goes (λ t. short_letter (type_units file t)) c.loop-i.list.items c.args.params.now c.loop-i.i c.loop-i-test.true ∙ c.loop-i.invariant)

pub returns : goal.returns
returns c = sym (map_ends (λ t. short_letter (type_units c.args.types.now t)) c.loop-i.list.items c.args.params.now c.loop-i.i c.loop-i-test.false) ∙ c.loop-i.invariant
