use Rattle.std.proofs.Common.{List, ℕ, sym, subst}
use Rattle.std.specs.List.{Contains}
use Rattle.std.specs.List.Sorted.{IsStrictlyIncreasing}
use Rattle.std.proofs.lemmas.List.Filters.{dedup_is}
use Rattle.std.proofs.lemmas.List.Kept.{Contains-dedup_nat, Contains-from_dedup}
use Rattle.std.proofs.lemmas.List.Sorted.{Contains-permutation, IsPermutation-sym}
use Rattle.std.proofs.lemmas.Map.Keys.{IsStrictlyIncreasing-dedup}
use Rattle.pi_dex.proofs.offsets.code_offsets.Goals as goal

pub returns : goal.returns
returns c =
    let all = c.in_ok-offsets.offsets.items in
    let sorted = c.sort_unstable.new.self.items in
    let moved = c.sort_unstable.ensures.permutation in
    let is = dedup_is _ sorted c.dedup.new.self.items c.dedup.ensures.filtered in
    record {
      rise = subst IsStrictlyIncreasing (sym is) (IsStrictlyIncreasing-dedup sorted c.sort_unstable.ensures.sorted);
      had = λ at there.
          subst (λ (xs : List ℕ). Contains xs at) c.in_ok-offsets.ensures
          (Contains-permutation sorted all at (IsPermutation-sym all sorted moved) (Contains-from_dedup _ sorted at (subst (λ (xs : List ℕ). Contains xs at) is there)));
      all = λ at there.
          subst (λ (xs : List ℕ). Contains xs at) (sym is)
          (Contains-dedup_nat sorted at (Contains-permutation all sorted at moved (subst (λ (xs : List ℕ). Contains xs at) (sym c.in_ok-offsets.ensures) there)));
    }
