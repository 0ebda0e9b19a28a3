use Rattle.pi_dexnames.proofs.Together.{names_one}
use Rattle.pi_dexnames.proofs.named.name_field_ref.Goals as goal

pub returns : goal.returns
returns c =
    names_one c.push.result _ c.args.pools.now c.field.new.self c.args.places.now c.push.new.self c.in_ok-place.place
    c.in_ok-place.ensures.gathered c.in_ok-place.ensures.place c.in_ok-place.ensures.grown c.push.ensures.ok
