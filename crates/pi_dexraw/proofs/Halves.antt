-- Type lists.
use Rattle.std.proofs.Common.{◌≡◌, ◌≢◌, ℕ, ◌+◌, ◌*◌, ◌≤◌, List, length, true, false, refl, arith}
use Rattle.std.specs.Prelude.{◌==◌}
use Rattle.std.proofs.lemmas.Bool.Decides.{nat_tests}
use Rattle.pi_bytes.specs.Numbers.{word_at, halves_at}
use Rattle.pi_bytes.proofs.Halves.{length_halves}
use Rattle.pi_format.specs.Rules.Entries.{list_fits, list_at}

pub list_length : (file : List ℕ) (at : ℕ) → at ≢ 0 → length (list_at file at) ≡ word_at file at
list_length file at some =
    let no : (at == 0) ≡ false = grind (arith, nat_tests) in
    rw no (length_halves file (at + 4) (word_at file at))

pub some_list : (file : List ℕ) (at : ℕ) → at ≢ 0 → list_at file at ≡ halves_at file (at + 4) (word_at file at)
some_list file at some =
    let no : (at == 0) ≡ false = grind (arith, nat_tests) in
    rw no refl

pub list_in_file : (file : List ℕ) (at : ℕ) → list_fits file at ≡ true → at ≢ 0 → at + 4 + 2 * word_at file at ≤ length file
list_in_file file at fits some = grind (arith, nat_tests)
