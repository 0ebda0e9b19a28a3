-- The items of the map.
use Rattle.std.proofs.Common.{◌≡◌, ◌≢◌, ℕ, suc, ◌+◌, ◌*◌, ◌<◌, ◌≤◌, List, length, Bool, true, false, refl, sym, ap, ◌∙◌, arith}
use Rattle.std.specs.Prelude.{◌==◌, ◌||◌, slice_set}
use Rattle.std.proofs.lemmas.Bool.Decides.{nat_tests}
use Rattle.pi_format.specs.Rules.Entries.{some_from}
use Rattle.pi_format.specs.Rules.Map.{map_at, map_lies, item_count}
use Rattle.pi_format.proofs.Loops.{some_last}
use Rattle.pi_dexids.specs.Facts.{AreFacts}
use Rattle.pi_dexids.proofs.Lists.{facts_set}

-- a kind that one more item has
pub kinds_marked : (kind : ℕ → ℕ) (i n : ℕ) (list : List Bool) → AreFacts (λ t. some_from (λ k. kind k == t) 0 i) n list → kind i < n
    → AreFacts (λ t. some_from (λ k. kind k == t) 0 (i + 1)) n (slice_set list (kind i) true)
kinds_marked kind i n list facts lt =
    facts_set (λ t. some_from (λ k. kind k == t) 0 i) (λ t. some_from (λ k. kind k == t) 0 (i + 1)) n (kind i) list true facts
    (here (kind i) (nat_self (kind i))) others
  where
    nat_self : (k : ℕ) → (k == k) ≡ true
    nat_self k = grind (arith, nat_tests)

    or_true : (a b : Bool) → b ≡ true → true ≡ (a || b)
    or_true true b e = refl
    or_true false b e = sym e

    or_no : (a b : Bool) → b ≡ false → a ≡ (a || b)
    or_no true b e = refl
    or_no false b e = sym e

    last : (t : ℕ) → some_from (λ k. kind k == t) 0 (i + 1) ≡ (some_from (λ k. kind k == t) 0 i || (kind i == t))
    last t =
        let place : 0 + i ≡ i = omega arith in
        let more : i + 1 ≡ suc i = omega arith in
        ap (some_from (λ k. kind k == t) 0) more ∙ some_last (λ k. kind k == t) 0 i ∙ ap (λ j. some_from (λ k. kind k == t) 0 i || (kind j == t)) place

    here : (t : ℕ) → (kind i == t) ≡ true → true ≡ some_from (λ k. kind k == t) 0 (i + 1)
    here t e = or_true (some_from (λ k. kind k == t) 0 i) (kind i == t) e ∙ sym (last t)

    others : (t : ℕ) → t ≢ kind i → some_from (λ k. kind k == t) 0 i ≡ some_from (λ k. kind k == t) 0 (i + 1)
    others t apart =
        let no : (kind i == t) ≡ false = grind (arith, nat_tests) in
        or_no (some_from (λ k. kind k == t) 0 i) (kind i == t) no ∙ sym (last t)

-- a map that lies in the file ends there
pub map_ends : (file : List ℕ) → map_lies file ≡ true → map_at file + 4 + 12 * item_count file ≤ length file
map_ends file e = grind (arith, nat_tests)
