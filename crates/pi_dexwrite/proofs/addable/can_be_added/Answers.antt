use Rattle.std.proofs.Common.{◌≡◌, ℕ, List, Bool, sym, subst}
use Rattle.std.specs.Prelude.{◌↔◌, Result, Ok, Err, IfOk, IsTrue, Option, Some, IsSomeAnd}
use Rattle.pi_model.specs.declared.describe.ClassDesc.{ClassDesc}
use Rattle.pi_model.specs.declared.numbers.NameNo.{NameNo}
use Rattle.pi_model.specs.Program.{Program}
use Rattle.pi_model.specs.Search.{class_at}
use Rattle.pi_contents.specs.Named.{class_content, text_in}
use Rattle.pi_classtables.specs.Spelled.{IsSpelled}
use Rattle.pi_dexwrite.specs.Built.{added_in, CanBeAdded}
use Rattle.pi_dexwrite.proofs.addable.can_be_added.Goals as goal

-- a class of a program, found at its number
told : {E : Type 0} (r : Result Bool E) (p : Program) (c : ℕ) (d : ClassDesc) (listed sparse : List (List ℕ)) → class_at p c ≡ Some d → listed ≡ sparse
    → IfOk r (λ b. (text : NameNo → List ℕ) → IsTrue b ↔ IsSpelled (record { class = class_content text d; sparse = listed }))
    → IfOk r (λ b. IsTrue b ↔ CanBeAdded p c sparse)
told (Err e) p c d listed sparse at same h = tt
told (Ok b) p c d listed sparse at same h =
    subst (λ (o : Option ClassDesc). IsTrue b ↔ IsSomeAnd o (λ d. IsSpelled (added_in p sparse d))) (sym at)
    (subst (λ (s : List (List ℕ)). IsTrue b ↔ IsSpelled (record { class = class_content (text_in p) d; sparse = s })) same (h (text_in p)))

pub returns : goal.returns
returns c =
    told c.is_spelled.result c.args.prog.now c.args.class.0 c.class-described.result.now c.as_slice.result.now c.args.sparse.now
    c.class-described.ensures.value c.as_slice.ensures c.is_spelled.ensures
