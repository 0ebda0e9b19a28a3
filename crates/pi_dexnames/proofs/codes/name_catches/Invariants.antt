use Rattle.std.proofs.Common.{take, Ok}
use Rattle.std.specs.List.{flat_map}
use Rattle.std.specs.declared.alloc.AllocError.{AllocError}
use Rattle.pi_model.specs.declared.describe.Catch.{Catch}
use Rattle.pi_contents.specs.Named.{text_in, catch_content}
use Rattle.pi_contents.specs.Naming.{named_by_catch}
use Rattle.pi_dexnames.specs.Named.{Names}
use Rattle.pi_dexnames.proofs.codes.name_catches.Given as goal

abbrev pub invariant-loop-catch : goal.invariant-loop-catch
invariant-loop-catch l =
    Names {A = Unit {0}} {E = AllocError} (Ok tt) l.fn.pools l.fn.places l.pools l.places
    (flat_map (λ (c : Catch). named_by_catch (catch_content (text_in l.prog) c)) (take l.catch-index l.catches))
