use Rattle.std.proofs.Common.{take, Ok}
use Rattle.std.specs.List.{flat_map}
use Rattle.std.specs.declared.alloc.AllocError.{AllocError}
use Rattle.pi_model.specs.declared.describe.FieldDesc.{FieldDesc}
use Rattle.pi_contents.specs.Named.{text_in, field_content}
use Rattle.pi_contents.specs.Naming.{named_by_field}
use Rattle.pi_dexnames.specs.Named.{Names}
use Rattle.pi_dexnames.proofs.members.name_fields.Given as goal

abbrev pub invariant-loop-field : goal.invariant-loop-field
invariant-loop-field l =
    Names {A = Unit {0}} {E = AllocError} (Ok tt) l.fn.pools l.fn.places l.pools l.places
    (flat_map (λ (member : FieldDesc). named_by_field (text_in l.prog l.class) (field_content (text_in l.prog) member)) (take l.field-index l.fields))
