-- The lowest places at which three rules are broken, one after another.
use Rattle.std.proofs.Common.{◌≡◌, ℕ, ◌+◌, ◌<◌, ◌≤◌, List, length, drop, get_or, Option, refl}
use Rattle.pi_dex.specs.declared.walk_rules.Faults.{Faults}
use Rattle.pi_dex.specs.Judged.{walk_place, index_place, payload_place, code_faults, both_faults}
use Rattle.pi_format.specs.Rules.Lowest.{lowest_of}
use Rattle.pi_dex.proofs.Lowest.{same_default, items_go, items_end}

abbrev pub of_three : Option ℕ → Option ℕ → Option ℕ → Faults
of_three walk index payload = record { walk = walk; index = index; payload = payload }

pub same_three : (a b c d e f : Option ℕ) → a ≡ d → b ≡ e → c ≡ f → of_three a b c ≡ of_three d e f
same_three a b c d e f p q r = rw (p, q, r) refl

-- the faults of code items
abbrev pub faults_of : List ℕ → List ℕ → Faults
faults_of file codes = record {
  walk = lowest_of (walk_place file) codes;
  index = lowest_of (index_place file) codes;
  payload = lowest_of (payload_place file) codes;
}

pub faults_go : (file : List ℕ) (low : Faults) (codes : List ℕ) (i : ℕ) → i < length codes
    → both_faults (both_faults low (code_faults file (get_or codes i 0))) (faults_of file (drop (i + 1) codes)) ≡ both_faults low (faults_of file (drop i codes))
faults_go file low codes i lt =
    let at = get_or codes i 0 in
    let is : at ≡ get_or codes i at = same_default codes i 0 at lt in
    same_three _ _ _ _ _ _ (items_go (walk_place file) low.walk codes i at lt is) (items_go (index_place file) low.index codes i at lt is)
    (items_go (payload_place file) low.payload codes i at lt is)

pub faults_end : (file : List ℕ) (low : Faults) (codes : List ℕ) (i : ℕ) → length codes ≤ i → both_faults low (faults_of file (drop i codes)) ≡ low
faults_end file low codes i le =
    same_three _ _ _ _ _ _ (items_end (walk_place file) low.walk codes i le) (items_end (index_place file) low.index codes i le)
    (items_end (payload_place file) low.payload codes i le)
