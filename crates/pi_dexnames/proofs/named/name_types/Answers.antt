use Rattle.std.proofs.Common.{[], ◌∷◌, get_or, refl}
use Rattle.pi_model.specs.declared.numbers.NameNo.{NameNo}
use Rattle.pi_contents.specs.Contents.{OfType}
use Rattle.pi_contents.specs.Named.{text_in}
use Rattle.pi_dexnames.proofs.Together.{names_next}
use Rattle.pi_dexnames.proofs.named.name_types.Goals as goal

pub loop-ty-preserved : goal.loop-ty-preserved
loop-ty-preserved c =
    let none : NameNo = record { 0 = 0 } in
    let this : NameNo = get_or c.args.types.now c.loop-ty.ty-index none in
    names_next (λ (ty : NameNo). OfType (text_in c.args.prog.now ty) ∷ []) c.args.types.now c.loop-ty.ty-index this none
    c.loop-ty-test.true refl c.loop-ty.invariant c.in_ok-name_type.ensures
