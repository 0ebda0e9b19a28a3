-- The telling of lines names the first that is not taken.
use Rattle.std.proofs.Common.{◌≡◌, inl, inr, ℕ, zero, suc, ◌+◌, ◌≤◌, min, List, [], ◌∷◌, length, take, Option, Some, None, Result, Ok, Err, refl, sym, ◌∙◌, arith, add-one, lit≤}
use Rattle.std.specs.Prelude.{fold, filter, IsSome, IsNone}
use Rattle.std.proofs.lemmas.Bool.Decides.{nat_tests}
use Rattle.std.proofs.lemmas.Option.{option_and_then_some, none-some}
use Rattle.pi_job.specs.Numbers.{most_word}
use Rattle.pi_job.specs.Telling.{next_line, then_on, told_from}
use Rattle.pi_job.specs.Taking.{is_line, with_line, all_said, line_at, SaysWhole, IsFirstBroken}

-- the number of the line at a place behind the line of a number
number_at : ℕ → ℕ → ℕ
number_at n k = min (n + k) most_word

next_bound : (n : ℕ) → n ≤ most_word → next_line n ≤ most_word
next_bound n le = grind (arith, nat_tests)

number_here : (n : ℕ) → n ≤ most_word → number_at n 0 ≡ n
unfolding number_at
number_here n le = omega arith

number_next : (n k : ℕ) → n ≤ most_word → number_at (next_line n) k ≡ number_at n (suc k)
unfolding number_at
number_next n k le = grind (arith, nat_tests)

number_first : (k : ℕ) → number_at 1 k ≡ line_at k
unfolding number_at
number_first k = omega arith

value_of : {A : Type 0} (o : Option A) → IsSome o → (x : A) × (o ≡ Some x)
value_of None e = cc
value_of (Some x) e = (x, refl)

none_of : {A : Type 0} (o : Option A) → IsNone o → o ≡ None
none_of None e = refl
none_of (Some x) e = cc

some_is : {A : Type 0} (x z : A) → Some x ≡ Some z → x ≡ z
some_is x z e = cc

by_option : {A P : Type 0} (o : Option A) → (o ≡ None → P) → ((x : A) → o ≡ Some x → P) → P
by_option None none some = none refl
by_option (Some x) none some = some x refl

-- what is answered at the end is that what was said is whole, or that a line is wanting
end_ok : {B : Type 0} (n : ℕ) (o : Option B) (y : B) → then_on n o (λ w. Ok w) ≡ Ok y → o ≡ Some y
end_ok n None y e = cc
end_ok n (Some w) y e = cc

end_err : {B : Type 0} (n m : ℕ) (o : Option B) → then_on n o (λ w. Ok w) ≡ Err m → (o ≡ None) × (m ≡ n)
end_err n m None e = (refl, cc)
end_err n m (Some w) e = cc

module _ {A B : Type 0} (says : A → List ℕ → Option A) (whole : A → Option B) where
  -- behind a line that broke a rule nothing is said
  none_said : (ls : List (List ℕ)) → fold (with_line says) None ls ≡ None
  none_said [] = refl
  none_said (l ∷ ls) = none_said ls

  -- all lines are taken
  told_all : (ls : List (List ℕ)) (x z : A) (n : ℕ) → n ≤ most_word → all_said says x ls ≡ Some z
      → told_from says whole x n ls ≡ then_on (number_at n (length ls)) (whole z) (λ y. Ok y)
  told_all [] x z n le e = rw (number_here n le, some_is x z e) refl
  told_all ([] ∷ ls) x z n le e =
      rw (← number_next n (length ls) le) (told_all ls x z (next_line n) (next_bound n le) e)
  told_all ((b ∷ bs) ∷ ls) x z n le e =
      by_option (says x (b ∷ bs)) (λ is. absurd (none-some z (sym (none_said (filter is_line ls)) ∙ (rw is at e))))
      (λ y is. rw (is, ← number_next n (length ls) le) (told_all ls y z (next_line n) (next_bound n le) (rw is at e)))

  -- the line at a place is the first that is not taken
  told_broken : (ls : List (List ℕ)) (k : ℕ) (x z : A) (n : ℕ) → n ≤ most_word → all_said says x (take k ls) ≡ Some z
      → all_said says x (take (suc k) ls) ≡ None → told_from says whole x n ls ≡ Err (number_at n k)
  told_broken [] zero x z n le e refused = absurd (none-some z (sym refused ∙ e))
  told_broken [] (suc k) x z n le e refused = absurd (none-some z (sym refused ∙ e))
  told_broken ([] ∷ ls) zero x z n le e refused = absurd (none-some x (sym refused))
  told_broken ([] ∷ ls) (suc k) x z n le e refused =
      rw (← number_next n k le) (told_broken ls k x z (next_line n) (next_bound n le) e refused)
  told_broken ((b ∷ bs) ∷ ls) zero x z n le e refused = rw (refused, number_here n le) refl
  told_broken ((b ∷ bs) ∷ ls) (suc k) x z n le e refused =
      by_option (says x (b ∷ bs)) (λ is. absurd (none-some z (sym (none_said (filter is_line (take k ls))) ∙ (rw is at e))))
      (λ y is. rw (is, ← number_next n k le) (told_broken ls k y z (next_line n) (next_bound n le) (rw is at e) (rw is at refused)))

  -- where not all lines are taken, there is a first that is not
  first_broken : (ls : List (List ℕ)) (x : A) → all_said says x ls ≡ None
      → (k : ℕ) × (z : A) × (all_said says x (take k ls) ≡ Some z) × (all_said says x (take (suc k) ls) ≡ None)
  first_broken [] x refused = absurd (none-some x (sym refused))
  first_broken ([] ∷ ls) x refused = let later = first_broken ls x refused in (suc later.0, later.1, later.2, later.3)
  first_broken ((b ∷ bs) ∷ ls) x refused =
      by_option (says x (b ∷ bs)) (λ is. (0, x, refl, is))
      (λ y is. let later = first_broken ls y (rw is at refused) in (suc later.0, later.1, rw is later.2, rw is later.3))

  module _ (start : A) (ls : List (List ℕ)) where
    told : Result B ℕ
    told = told_from says whole start 1 ls

    -- what is told of lines that are all taken
    of_all : (z : A) → all_said says start ls ≡ Some z → told ≡ then_on (line_at (length ls)) (whole z) (λ y. Ok y)
    unfolding told
    of_all z e = rw (← number_first (length ls)) (told_all ls start z 1 (lit≤ tt) e)

    -- what is told of lines of which one breaks a rule
    of_broken : (k : ℕ) (z : A) → all_said says start (take k ls) ≡ Some z → all_said says start (take (suc k) ls) ≡ None
        → told ≡ Err (line_at k)
    unfolding told
    of_broken k z e refused = rw (← number_first k) (told_broken ls k start z 1 (lit≤ tt) e refused)

    says_whole : (y : B) → told ≡ Ok y → SaysWhole says whole start ls y
    says_whole y e =
        by_option (all_said says start ls)
        (λ is. let first = first_broken ls start is in
        let err : told ≡ Err (line_at first.0) = of_broken first.0 first.1 first.2 first.3 in cc)
        (λ z is. rw is (end_ok _ (whole z) y (sym (of_all z is) ∙ e)))

    whole_told : (y : B) → SaysWhole says whole start ls y → told ≡ Ok y
    whole_told y e =
        option_and_then_some whole (all_said says start ls) y e (λ z said is. of_all z said ∙ rw is refl)

    is_first : (n : ℕ) → told ≡ Err n → IsFirstBroken says whole start ls n
    is_first n e =
        by_option (all_said says start ls)
        (λ is. let first = first_broken ls start is in
        let err : told ≡ Err (line_at first.0) = of_broken first.0 first.1 first.2 first.3 in
        inl (first.0, cc, (rw first.2 refl, rw (add-one, first.3) refl)))
        (λ z is. let t = end_err _ n (whole z) (sym (of_all z is) ∙ e) in inr (t.1, (rw is refl, rw (is, t.0) refl)))

    first_told : (n : ℕ) → IsFirstBroken says whole start ls n → told ≡ Err n
    first_told n (inl at) =
        let before = value_of (all_said says start (take at.0 ls)) at.2.0 in
        let here : all_said says start (take (suc at.0) ls) ≡ None = rw (add-one) at (none_of (all_said says start (take (at.0 + 1) ls)) at.2.1) in
        rw at.1 (of_broken at.0 before.0 before.1 here)
    first_told n (inr at) =
        let all = value_of (all_said says start ls) at.1.0 in
        let wants : whole all.0 ≡ None = none_of (whole all.0) (rw all.1 at at.1.1) in
        rw at.0 (of_all all.0 all.1 ∙ rw wants refl)

    -- the laws together
    pub ok_law : (y : B) → (told_from says whole start 1 ls ≡ Ok y → SaysWhole says whole start ls y) × (SaysWhole says whole start ls y → told_from says whole start 1 ls ≡ Ok y)
    unfolding told
    ok_law y = (says_whole y, whole_told y)

    pub line_law : (n : ℕ) → (told_from says whole start 1 ls ≡ Err n → IsFirstBroken says whole start ls n) × (IsFirstBroken says whole start ls n → told_from says whole start 1 ls ≡ Err n)
    unfolding told
    line_law n = (is_first n, first_told n)
