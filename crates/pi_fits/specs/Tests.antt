-- The test whether names and classes fit behind no file, in parts.
use Rattle.std.specs.Prelude.{ℕ, ◌^◌, ◌&&◌, nat_lt, List, length, sum_by, Bool}
use Rattle.std.specs.List.{list_all}
use Rattle.pi_model.specs.declared.describe.ClassDesc.{ClassDesc}
use Rattle.pi_model.specs.Program.{field_count, method_count}
use Rattle.pi_model.specs.Uses.{class_below}
use Rattle.pi_model.specs.Valid.{of_file}

abbrev pub are_few : List (List ℕ) → List ClassDesc → Bool
are_few names classes =
    nat_lt (length names) (2 ^ 32) && (nat_lt (length classes) (2 ^ 32)
    && (nat_lt (sum_by field_count classes) (2 ^ 32) && nat_lt (sum_by method_count classes) (2 ^ 32)))

abbrev pub are_first : List (List ℕ) → List ClassDesc → Bool
are_first names classes = list_all (of_file 0) classes && list_all (class_below (length names)) classes
