-- Places in a file, and behind its end.
use Rattle.std.proofs.Common.{◌≡◌, ◌≢◌, ℕ, ◌≤◌, List, [], length, drop, Option, None, false, refl, ◌∙◌, arith, drop_of_length-le}
use Rattle.std.specs.Prelude.{◌==◌, is_some, Result, Ok, Err, IfOk}
use Rattle.std.proofs.lemmas.Bool.Decides.{nat_tests}
use Rattle.pi_bytes.specs.Place.{Place}
use Rattle.pi_bytes.specs.Leb.{uleb_at}
use Rattle.pi_format.specs.Rules.Header.{unless}
use Rattle.pi_format.specs.Rules.Rows.{MemberRow, readable}
use Rattle.pi_format.specs.Rules.Values.{values_at, class_values}
use Rattle.pi_format.specs.Rules.ClassData.{Owner, owner, class_data_at, class_values_at, rows_of, row_counts, rows_at, class_rows}

-- the place of that offset in a file
abbrev pub place : List ℕ → ℕ → Place
place file at = record { bytes = file; at = at }

-- no number stands behind the end
pub none_behind : (file : List ℕ) (at : ℕ) → length file ≤ at → readable (uleb_at (place file at)) ≡ None
unfolding uleb_at
none_behind file at le =
    let none : drop at file ≡ [] = drop_of_length-le file le in
    rw none refl

pub rows_behind : (file : List ℕ) (o : Owner) (at : ℕ) → length file ≤ at → rows_at file o (place file at) ≡ None
unfolding rows_at row_counts
rows_behind file o at le = rw (none_behind file at le) refl

pub rows_there : (file : List ℕ) (i : ℕ) → class_data_at file i ≢ 0 → class_rows file i ≡ rows_at file (owner file i) (place file (class_data_at file i))
unfolding class_rows
rows_there file i some =
    let no : (class_data_at file i == 0) ≡ false = grind (arith, nat_tests) in
    rw no refl

pub ok_along : {A E : Type 0} (r : Result A E) (a b : A) → a ≡ b → IfOk r (λ x. x ≡ a) → IfOk r (λ x. x ≡ b)
ok_along (Ok x) a b e p = p ∙ e
ok_along (Err x) a b e p = _

pub values_behind : (file : List ℕ) (fields : List MemberRow) (at : ℕ) → length file ≤ at → values_at file fields (place file at) ≡ None
unfolding values_at
values_behind file fields at le = rw (none_behind file at le) refl

pub values_there : (file : List ℕ) (i : ℕ) → class_values_at file i ≢ 0
    → class_values file i ≡ values_at file (rows_of file i).statics (place file (class_values_at file i))
unfolding class_values
values_there file i some =
    let no : (class_values_at file i == 0) ≡ false = grind (arith, nat_tests) in
    rw no refl

-- the place that a class has where it does not hold
abbrev pub data_place : List ℕ → ℕ → Option ℕ
data_place file i = unless (is_some (class_rows file i)) (class_data_at file i)

abbrev pub values_place : List ℕ → ℕ → Option ℕ
values_place file i = unless (is_some (class_values file i)) (class_values_at file i)
