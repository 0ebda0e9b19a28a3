-- The test in parts, and what it tells.
use Rattle.std.proofs.Common.{◌≡◌, ℕ, ◌^◌, List, [], length, Bool, true, false, refl, arith, zero-add}
use Rattle.std.specs.Prelude.{◌&&◌, nat_lt, sum_by}
use Rattle.std.specs.List.{list_all}
use Rattle.std.proofs.lemmas.Bool.{and_from, ltb-true, lt-ltb}
use Rattle.pi_model.specs.declared.describe.ClassDesc.{ClassDesc}
use Rattle.pi_model.specs.Distinct.{all_distinct}
use Rattle.pi_model.specs.Texts.{same_text}
use Rattle.pi_model.specs.Program.{no_files, field_count, method_count}
use Rattle.pi_model.specs.Uses.{class_below}
use Rattle.pi_model.specs.Valid.{of_file, FitsBehind}
use Rattle.pi_fits.specs.Tests.{are_few, are_first}

both : (a b : Bool) → (a && b) ≡ true → (a ≡ true) × (b ≡ true)
both true true e = (refl, refl)
both true false e = cc
both false b e = cc

pub passing_fit : (names : List (List ℕ)) (classes : List ClassDesc) → are_few names classes ≡ true → are_first names classes ≡ true
    → all_distinct same_text names ≡ true → FitsBehind no_files names [] classes
passing_fit names classes few first distinct =
    let (names_few, more) = both (nat_lt (length names) (2 ^ 32)) (nat_lt (length classes) (2 ^ 32)
    && (nat_lt (sum_by field_count classes) (2 ^ 32) && nat_lt (sum_by method_count classes) (2 ^ 32))) few in
    let (classes_few, members) = both (nat_lt (length classes) (2 ^ 32))
    (nat_lt (sum_by field_count classes) (2 ^ 32) && nat_lt (sum_by method_count classes) (2 ^ 32)) more in
    let (fields, methods) = both (nat_lt (sum_by field_count classes) (2 ^ 32)) (nat_lt (sum_by method_count classes) (2 ^ 32)) members in
    let (filed, named) = both (list_all (of_file 0) classes) (list_all (class_below (length names)) classes) first in
    record {
      files = omega arith;
      names_count = rw zero-add (ltb-true (length names) (2 ^ 32) names_few);
      types_count = omega arith;
      classes_count = rw zero-add (ltb-true (length classes) (2 ^ 32) classes_few);
      fields_count = rw zero-add (ltb-true (sum_by field_count classes) (2 ^ 32) fields);
      methods_count = rw zero-add (ltb-true (sum_by method_count classes) (2 ^ 32) methods);
      names_distinct = distinct;
      types_distinct = refl;
      types_named = refl;
      classes_filed = filed;
      classes_named = rw zero-add named;
    }

pub fitting_pass : (names : List (List ℕ)) (classes : List ClassDesc) → FitsBehind no_files names [] classes
    → (are_few names classes ≡ true) × ((are_first names classes ≡ true) × (all_distinct same_text names ≡ true))
fitting_pass names classes fits =
    let names_few = rw zero-add at fits.names_count in
    let classes_few = rw zero-add at fits.classes_count in
    let fields = rw zero-add at fits.fields_count in
    let methods = rw zero-add at fits.methods_count in
    let members = and_from (nat_lt (sum_by field_count classes) (2 ^ 32)) (nat_lt (sum_by method_count classes) (2 ^ 32))
    (lt-ltb (sum_by field_count classes) (2 ^ 32) fields) (lt-ltb (sum_by method_count classes) (2 ^ 32) methods) in
    let named = rw zero-add at fits.classes_named in (
      and_from (nat_lt (length names) (2 ^ 32)) (nat_lt (length classes) (2 ^ 32)
          && (nat_lt (sum_by field_count classes) (2 ^ 32) && nat_lt (sum_by method_count classes) (2 ^ 32)))
          (lt-ltb (length names) (2 ^ 32) names_few)
          (and_from (nat_lt (length classes) (2 ^ 32)) (nat_lt (sum_by field_count classes) (2 ^ 32) && nat_lt (sum_by method_count classes) (2 ^ 32))
          (lt-ltb (length classes) (2 ^ 32) classes_few) members),
      (and_from (list_all (of_file 0) classes) (list_all (class_below (length names)) classes) fits.classes_filed named, fits.names_distinct),
    )
