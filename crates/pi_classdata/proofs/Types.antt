-- The types of the parameters of a method.
use Rattle.std.proofs.Common.{◌≡◌, ◌≢◌, ℕ, zero, suc, ◌+◌, ◌<◌, ◌≤◌, List, [], ◌∷◌, length, None, true, false, refl, arith}
use Rattle.std.specs.Prelude.{◌==◌}
use Rattle.std.proofs.lemmas.Bool.Decides.{nat_tests}
use Rattle.pi_bytes.specs.Numbers.{word_at, halves_at}
use Rattle.pi_format.specs.Tables.{count_at, proto_ids}
use Rattle.pi_format.specs.Rules.{broken_tables_rule}
use Rattle.pi_format.specs.Rules.Entries.{list_fits, list_at}
use Rattle.pi_format.specs.Rules.Members.{proto_entry}
use Rattle.pi_format.specs.Rules.ClassData.{ListedMethod, has_no_params}
use Rattle.pi_format.proofs.Held.{tables_hold, proto_kept}

pub list_in_file : (file : List ℕ) (at : ℕ) → list_fits file at ≡ true → at ≢ 0 → at + 4 ≤ length file
list_in_file file at fits some = grind (arith, nat_tests)

halves_count : (file : List ℕ) (at n : ℕ) → (length (halves_at file at n) == 0) ≡ (n == 0)
halves_count file at zero = refl
halves_count file at (suc n) = grind (arith, nat_tests)

pub no_types : (file : List ℕ) (at : ℕ) → at ≢ 0 → (length (list_at file at) == 0) ≡ (word_at file at == 0)
no_types file at some =
    let no : (at == 0) ≡ false = grind (arith, nat_tests) in
    rw no (halves_count file (at + 4) (word_at file at))

pub params_fit : (file : List ℕ) (i : ℕ) → broken_tables_rule file ≡ None → i < count_at file proto_ids → list_fits file (proto_entry file i).params ≡ true
params_fit file i kept lt = (proto_kept file i (tables_hold file kept).protos lt).list

none_listed : (name ret params : List ℕ) (flags code : ℕ)
    → has_no_params (record { name = name; ret = ret; params = params; flags = flags; code = code }) ≡ (length params == 0)
none_listed name ret [] flags code = refl
none_listed name ret (t ∷ ts) flags code = grind (arith, nat_tests)

pub no_params : (m : ListedMethod) → has_no_params m ≡ (length m.params == 0)
no_params m = none_listed m.name m.ret m.params m.flags m.code
