-- What a line of a selection adds.
use Rattle.std.proofs.Common.{◌≡◌, ℕ, List, [], ◌∷◌, ◌++◌, Some, None, true, false, refl}
use Rattle.std.specs.List.{list_any}
use Rattle.pi_model.specs.declared.numbers.ClassNo.{ClassNo}
use Rattle.pi_model.specs.Program.{Program}
use Rattle.pi_job.specs.Selection.{class_on, is_class, class_added}

pub adds : (p : Program) (file : ℕ) (before : List ClassNo) (line : List ℕ) (c : ClassNo) → class_on p file line ≡ Some c
    → list_any (is_class c.0) before ≡ false → class_added p file before line ≡ Some (before ++ c ∷ [])
adds p file before line c e new = rw (e, new) refl

pub named_twice : (p : Program) (file : ℕ) (before : List ClassNo) (line : List ℕ) (c : ClassNo) → class_on p file line ≡ Some c
    → list_any (is_class c.0) before ≡ true → class_added p file before line ≡ None
named_twice p file before line c e old = rw (e, old) refl

pub names_none : (p : Program) (file : ℕ) (before : List ClassNo) (line : List ℕ) → class_on p file line ≡ None
    → class_added p file before line ≡ None
names_none p file before line e = rw e refl
