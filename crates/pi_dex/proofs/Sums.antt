-- Sums of the words of parameters.
use Rattle.std.proofs.Common.{◌≡◌, ℕ, ◌+◌, ◌<◌, ◌≤◌, List, length, drop, get_or, None, refl, sym}
use Rattle.std.specs.Prelude.{sum_by}
use Rattle.std.proofs.Math.ListN.{drop_of_length-le}
use Rattle.std.proofs.lemmas.List.Sums.{sum_by-drop_more}
use Rattle.pi_format.specs.Tables.{count_at, proto_ids}
use Rattle.pi_format.specs.Rules.{broken_tables_rule}
use Rattle.pi_format.specs.Rules.Entries.{list_at}
use Rattle.pi_format.specs.Rules.Descriptors.{words_of_type}
use Rattle.pi_format.specs.Rules.Strings.{type_units}
use Rattle.pi_format.specs.Rules.Members.{proto_entry}
use Rattle.pi_format.proofs.Held.{tables_hold, proto_kept}

pub sum_goes : (f : ℕ → ℕ) (xs : List ℕ) (i : ℕ) → i < length xs → f (get_or xs i 0) + sum_by f (drop (i + 1) xs) ≡ sum_by f (drop i xs)
sum_goes f xs i lt = sym (sum_by-drop_more f xs i 0 lt)

pub sum_ends : (f : ℕ → ℕ) (xs : List ℕ) (i : ℕ) → length xs ≤ i → sum_by f (drop i xs) ≡ 0
sum_ends f xs i le = rw (drop_of_length-le xs le) refl

-- parameters of a prototype have few words
pub few_words : (file : List ℕ) (proto : ℕ) → broken_tables_rule file ≡ None → proto < count_at file proto_ids
    → sum_by (λ t. words_of_type (type_units file t)) (list_at file (proto_entry file proto).params) ≤ 255
few_words file proto kept lt = (proto_kept file proto (tables_hold file kept).protos lt).words
