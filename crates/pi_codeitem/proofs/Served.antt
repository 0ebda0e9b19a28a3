-- Each range has one of the lists.
use Rattle.std.proofs.Common.{◌≡◌, ℕ, zero, suc, ◌+◌, ◌<◌, List, Bool, true, false, Option, Some, None, refl, add-zero, zero-add, arith, subst}
use Rattle.std.specs.Prelude.{◌==◌, if◌then◌else◌}
use Rattle.std.proofs.lemmas.Bool.Decides.{nat_tests}
use Rattle.pi_insn.specs.Chain.{◌>>=◌}
use Rattle.pi_format.specs.Rules.Entries.{each_from}
use Rattle.pi_format.proofs.Held.{both}
use Rattle.pi_format.specs.Rules.CodeItems.{HandlerList, code_head, tries_at, lists_at, try_range, ranges_hold, ranges_have_lists, handler_lists, is_list_at, code_lists}

pub each_holds : (test : ℕ → Bool) (i n : ℕ) → each_from test i n ≡ true → (k : ℕ) → k < n → test (i + k) ≡ true
each_holds test i zero e k lt = absurd (omega arith)
each_holds test i (suc n) e zero lt = rw (add-zero i) (both (test i) (each_from test (i + 1) n) e).0
each_holds test i (suc n) e (suc k) lt =
    let place : i + 1 + k ≡ i + suc k = omega arith in
    subst (λ j. test j ≡ true) place (each_holds test (i + 1) n (both (test i) (each_from test (i + 1) n) e).1 k (omega arith))

lists_have : (file : List ℕ) (at : ℕ) (lists : List HandlerList) → code_lists file at ≡ Some lists → 0 < (code_head file at).tries
    → ranges_have_lists file at (code_head file at) lists ≡ true
unfolding code_lists
lists_have file at lists e some =
    let t : ((code_head file at).tries == 0) ≡ false = grind (arith, nat_tests) in
    by_test (ranges_hold file at (code_head file at)) (handler_lists file (code_head file at).units (lists_at at (code_head file at))) (rw t at e)
  where
    by_list : (ls : List HandlerList) (b : Bool) → ranges_have_lists file at (code_head file at) ls ≡ b → (if b then Some ls else None) ≡ Some lists
        → ranges_have_lists file at (code_head file at) lists ≡ true
    by_list ls true is e =
        let same : ls ≡ lists = cc in
        subst (λ (ls : List HandlerList). ranges_have_lists file at (code_head file at) ls ≡ true) same is
    by_list ls false is e = cc

    by_test : (b : Bool) (o : Option (List HandlerList))
        → (if b then o >>= (λ lists. if ranges_have_lists file at (code_head file at) lists then Some lists else None) else None) ≡ Some lists
        → ranges_have_lists file at (code_head file at) lists ≡ true
    by_test false o e = cc
    by_test true None e = cc
    by_test true (Some ls) e = by_list ls (ranges_have_lists file at (code_head file at) ls) refl e

pub each_is_served : (file : List ℕ) (at : ℕ) (lists : List HandlerList) → code_lists file at ≡ Some lists → (k : ℕ) → k < (code_head file at).tries
    → is_list_at lists (lists_at at (code_head file at) + (try_range file (tries_at at (code_head file at)) k).handlers) ≡ true
each_is_served file at lists e k lt =
    let some : 0 < (code_head file at).tries = omega arith in
    let test : ℕ → Bool = λ k. is_list_at lists (lists_at at (code_head file at) + (try_range file (tries_at at (code_head file at)) k).handlers) in
    subst (λ (j : ℕ). test j ≡ true) (zero-add k) (each_holds test 0 (code_head file at).tries (lists_have file at lists e some) k lt)
