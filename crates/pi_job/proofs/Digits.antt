-- Steps over the digits of a number, as a loop takes them.
use Rattle.std.proofs.Common.{◌≡◌, ℕ, ◌+◌, ◌*◌, ◌<◌, ◌≤◌, List, [], ◌∷◌, length, drop, Option, Some, None, refl, arith, add-one, drop-cons}
use Rattle.std.specs.Prelude.{slice_index}
use Rattle.std.specs.Option.{option_and_then}
use Rattle.std.proofs.lemmas.Bool.Decides.{nat_tests}
use Rattle.std.proofs.Math.Nat.{le-mul_of_pos_right}
use Rattle.pi_job.specs.Numbers.{digit_of, digits_from, if_in_range}

-- one digit more
pub takes : (base above : ℕ) (bs : List ℕ) (i d : ℕ) → i < length bs → digit_of base (slice_index bs i) ≡ Some d
    → digits_from base above (drop i bs) ≡ digits_from base (above * base + d) (drop (i + 1) bs)
takes base above bs i d lt e = rw (add-one, drop-cons bs i 0) (rw e refl)

-- no digit
pub fails : (base above : ℕ) (bs : List ℕ) (i : ℕ) → i < length bs → digit_of base (slice_index bs i) ≡ None
    → digits_from base above (drop i bs) ≡ None
fails base above bs i lt e = rw (drop-cons bs i 0) (rw e refl)

-- no digit more
pub in_limits : (high above : ℕ) → above ≤ high → Some above ≡ if_in_range 0 high above
in_limits high above le = grind (arith, nat_tests)

-- above the limit no further digits lead below it
pub too_far : (base above high : ℕ) (bs : List ℕ) → 0 < base → high < above → option_and_then (if_in_range 0 high) (digits_from base above bs) ≡ None
too_far base above high [] one lt = grind (arith, nat_tests)
too_far base above high (b ∷ bs) one lt = by_digit (digit_of base b) refl (λ d. too_far base (above * base + d) high bs one)
  where
    by_digit : (o : Option ℕ) → digit_of base b ≡ o
        → ((d : ℕ) → high < above * base + d → option_and_then (if_in_range 0 high) (digits_from base (above * base + d) bs) ≡ None)
        → option_and_then (if_in_range 0 high) (digits_from base above (b ∷ bs)) ≡ None
    by_digit None e again = rw e refl
    by_digit (Some d) e again =
        let grows : above ≤ above * base = le-mul_of_pos_right above one in
        rw e (again d (omega arith))
