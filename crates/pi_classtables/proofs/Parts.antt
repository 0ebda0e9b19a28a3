-- What tables of classes are: those of the pools of what the classes name, with a row for each class.
use Rattle.std.proofs.Common.{◌≡◌, Bool, true, false, List, Option, Some, None, refl}
use Rattle.std.specs.Prelude.{if◌then◌else◌}
use Rattle.pi_insn.specs.Chain.{◌>>=◌}
use Rattle.pi_insn.proofs.Steps.{bind_some}
use Rattle.pi_dextables.specs.declared.tables.Class.{Class}
use Rattle.pi_dextables.specs.declared.tables.Tables.{Tables}
use Rattle.pi_classtables.specs.Whole.{Added, class_row, for_each, tables_with, is_counted, pools_for, tables_of}

-- what is given under a test is given where it holds
under_test : {A : Type 0} (b : Bool) (m : Option A) (y : A) → (if b then m else None) ≡ Some y → (b ≡ true) × (m ≡ Some y)
under_test true m y e = (refl, e)
under_test false m y e = cc

pub tables_parts : (es : List Added) (t : Tables) → tables_of es ≡ Some t
    → (classes : List Class) × (for_each (class_row (pools_for es)) es ≡ Some classes) × (t ≡ tables_with (pools_for es) classes) × (is_counted (pools_for es) ≡ true)
unfolding tables_of
tables_parts es t e =
    let tested = under_test (is_counted (pools_for es)) (for_each (class_row (pools_for es)) es >>= (λ classes. Some (tables_with (pools_for es) classes))) t e in
    let rows = bind_some (for_each (class_row (pools_for es)) es) (λ classes. Some (tables_with (pools_for es) classes)) t tested.1 in
    let same : t ≡ tables_with (pools_for es) rows.0 = cc (rows.1.1) in
    (rows.0, rows.1.0, same, tested.0)
