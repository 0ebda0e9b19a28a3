use Rattle.std.proofs.Common.{[], ◌∷◌, take, Ok}
use Rattle.std.specs.List.{flat_map}
use Rattle.std.specs.declared.alloc.AllocError.{AllocError}
use Rattle.pi_model.specs.declared.numbers.NameNo.{NameNo}
use Rattle.pi_contents.specs.Contents.{OfType}
use Rattle.pi_contents.specs.Named.{text_in}
use Rattle.pi_dexnames.specs.Named.{Names}
use Rattle.pi_dexnames.proofs.named.name_types.Given as goal

abbrev pub invariant-loop-ty : goal.invariant-loop-ty
invariant-loop-ty l =
    Names {A = Unit {0}} {E = AllocError} (Ok tt) l.fn.pools l.fn.places l.pools l.places
    (flat_map (λ (ty : NameNo). OfType (text_in l.prog ty) ∷ []) (take l.ty-index l.types))
