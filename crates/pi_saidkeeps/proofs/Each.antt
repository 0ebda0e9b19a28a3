-- What holds of each of some numbers: of those that a test passes, and of those that give no place.
use Rattle.std.proofs.Common.{◌≡◌, ℕ, zero, suc, ◌+◌, ◌<◌, ◌≤◌, Option, Some, None, Bool, true, false, inl, inr, refl, subst, arith}
use Rattle.std.specs.Prelude.{nat_le, if◌then◌else◌}
use Rattle.std.proofs.lemmas.Bool.{and_parts, cases_lt}
use Rattle.pi_format.specs.Rules.Entries.{each_from}
use Rattle.pi_format.specs.Rules.Lowest.{lower, lowest_from}

-- where no place is the lowest, nothing has a place
pub none_lower : (a b : Option ℕ) → lower a b ≡ None → (a ≡ None) × (b ≡ None)
none_lower None b e = (refl, e)
none_lower (Some x) None e = cc
none_lower (Some x) (Some y) e = by_order (nat_le x y) e
  where
    by_order : (t : Bool) → (if t then Some x else Some y) ≡ None → (Some x ≡ None) × (Some y ≡ None)
    by_order true e = cc
    by_order false e = cc

pub none_at : (place : ℕ → Option ℕ) (i n : ℕ) → lowest_from place i n ≡ None → (k : ℕ) → i ≤ k → k < i + n → place k ≡ None
none_at place i zero none k le lt = absurd (omega arith)
none_at place i (suc n) none k le lt =
    let parts = none_lower (place i) (lowest_from place (i + 1) n) none in
    elim (cases_lt i k) [
      | inl later ↦ none_at place (i + 1) n parts.1 k (omega arith) (omega arith)
      | inr here ↦ let same : i ≡ k = omega arith in subst (λ (j : ℕ). place j ≡ None) same parts.0
    ]

pub each_at : (test : ℕ → Bool) (i n : ℕ) → each_from test i n ≡ true → (k : ℕ) → i ≤ k → k < i + n → test k ≡ true
each_at test i zero all k le lt = absurd (omega arith)
each_at test i (suc n) all k le lt =
    let parts = and_parts (test i) (each_from test (i + 1) n) all in
    elim (cases_lt i k) [
      | inl later ↦ each_at test (i + 1) n parts.1 k (omega arith) (omega arith)
      | inr here ↦ let same : i ≡ k = omega arith in subst (λ (j : ℕ). test j ≡ true) same parts.0
    ]
