use Rattle.std.proofs.Common.{take, Ok}
use Rattle.std.specs.List.{flat_map}
use Rattle.std.specs.declared.alloc.AllocError.{AllocError}
use Rattle.pi_model.specs.declared.describe.MethodDesc.{MethodDesc}
use Rattle.pi_contents.specs.Named.{text_in, method_content}
use Rattle.pi_contents.specs.Naming.{named_by_method}
use Rattle.pi_dexnames.specs.Named.{Names}
use Rattle.pi_dexnames.proofs.members.name_methods.Given as goal

abbrev pub invariant-loop-method : goal.invariant-loop-method
invariant-loop-method l =
    Names {A = Unit {0}} {E = AllocError} (Ok tt) l.fn.pools l.fn.places l.pools l.places
    (flat_map (λ (member : MethodDesc). named_by_method (text_in l.prog l.class) (method_content (text_in l.prog) member)) (take l.method-index l.methods))
