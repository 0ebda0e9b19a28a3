use Rattle.std.proofs.Common.{◌≡◌, ℕ, List, Bool, sym, ◌∙◌}
use Rattle.std.specs.Prelude.{◌↔◌, Result, Ok, Err, IfOk, IsTrue}
use Rattle.pi_model.specs.declared.describe.ClassDesc.{ClassDesc}
use Rattle.pi_model.specs.declared.numbers.NameNo.{NameNo}
use Rattle.pi_contents.specs.Named.{class_content}
use Rattle.pi_classtables.specs.Spelled.{IsSpelled}
use Rattle.pi_classtables.specs.Whole.{Added}
use Rattle.pi_dexdata.specs.Numbers.{no_text}
use Rattle.pi_dexspelled.specs.Tests.{class_spelled}
use Rattle.pi_dexspelled.proofs.Spelled.{spelled_is, is_spelled_of}
use Rattle.pi_dexspelled.proofs.class.is_spelled.Goals as goal

-- a class by the texts of its names
abbrev added : (NameNo → List ℕ) → ClassDesc → List (List ℕ) → Added
added text d sparse = record { class = class_content text d; sparse = sparse }

abbrev WhateverNames : Type 0
WhateverNames = (one other : NameNo → List ℕ) (d : ClassDesc) (sparse : List (List ℕ)) → IsSpelled (added one d sparse) → IsSpelled (added other d sparse)

told : {E : Type 0} (r : Result Bool E) (d : ClassDesc) (sparse : List (List ℕ)) → WhateverNames
    → IfOk r (λ b. b ≡ class_spelled (added no_text d sparse))
    → IfOk r (λ b. (text : NameNo → List ℕ) → IsTrue b ↔ IsSpelled (added text d sparse))
told (Err e) d sparse whatever h = tt
told (Ok b) d sparse whatever h =
    λ text. (
      λ t. whatever no_text text d sparse (spelled_is (added no_text d sparse) (sym h ∙ t)),
      λ spelled. h ∙ is_spelled_of (added no_text d sparse) (whatever text no_text d sparse spelled),
    )

pub returns : goal.returns
returns c = told c.passes.result c.args.class.now c.args.sparse.now c.whatever_the_names.ensures c.passes.ensures
