-- Registers by their places in a list, and as a number and five places.
use Rattle.std.proofs.Common.{◌≡◌, ℕ, zero, suc, ◌+◌, ◌%◌, ◌<◌, ◌≤◌, List, [], ◌∷◌, length, take, slice_get, slice_index, Some, refl, ap, ◌∙◌, subst, arith}
use Rattle.std.proofs.lemmas.Bool.{lt-leb}
use Rattle.pi_model.specs.Registers.{registers_in_row, named_registers, places_of}

pub length_row : (first n : ℕ) → length (registers_in_row first n) ≡ n
length_row first zero = refl
length_row first (suc n) = ap suc (length_row (first + 1) n)

pub get_row : (first n i : ℕ) → i < n → slice_get (registers_in_row first n) i ≡ Some ((first + i) % 65536)
get_row first zero i lt = absurd (omega (arith, lt))
get_row first (suc n) zero lt =
    let place : first ≡ first + 0 = omega arith in
    ap (λ (r : ℕ). Some (r % 65536)) place
get_row first (suc n) (suc i) lt =
    let place : first + 1 + i ≡ first + suc i = omega arith in
    subst (λ (r : ℕ). slice_get (registers_in_row (first + 1) n) i ≡ Some (r % 65536)) place (get_row (first + 1) n i (omega (arith, lt)))

-- more than five registers are a row from the first place on
pub more_in_row : (n : ℕ) (places : List ℕ) → 5 < n → named_registers n places ≡ registers_in_row (slice_index places 0) n
more_in_row n places more = rw (lt-leb n 5 more) refl

-- at most five are read back from their places
pub few_back : (regs : List ℕ) → length regs ≤ 5 → named_registers (length regs) (places_of regs) ≡ regs
few_back [] le = refl
few_back (a ∷ []) le = refl
few_back (a ∷ b ∷ []) le = refl
few_back (a ∷ b ∷ c ∷ []) le = refl
few_back (a ∷ b ∷ c ∷ d ∷ []) le = refl
few_back (a ∷ b ∷ c ∷ d ∷ e ∷ []) le = refl
few_back (a ∷ b ∷ c ∷ d ∷ e ∷ f ∷ others) le = absurd (omega (arith, le))

-- the place of more than five in a row is the first one
pub row_place : (first n : ℕ) → first < 65536 → 5 < n → places_of (registers_in_row first n) ≡ first ∷ 0 ∷ 0 ∷ 0 ∷ 0 ∷ []
row_place first zero below more = absurd (omega (arith, more))
row_place first (suc n) below more =
    let first_one : first % 65536 ≡ first = omega (arith, below) in
    rw (length_row (first + 1) n, lt-leb (suc n) 5 more, first_one) refl

-- the first so many of registers in a row
take_row : (first n m : ℕ) → n ≤ m → take n (registers_in_row first m) ≡ registers_in_row first n
take_row first zero m le = refl
take_row first (suc n) zero le = absurd (omega (arith, le))
take_row first (suc n) (suc m) le = ap (λ others. (first % 65536) ∷ others) (take_row (first + 1) n m (omega (arith, le)))

five_in_row : (first : ℕ) → first < 65536
    → first ∷ (first + 1) % 65536 ∷ (first + 2) % 65536 ∷ (first + 3) % 65536 ∷ (first + 4) % 65536 ∷ [] ≡ registers_in_row first 5
five_in_row first below =
    let one : first % 65536 ≡ first = omega (arith, below) in
    let two : first + 1 + 1 ≡ first + 2 = omega arith in
    let three : first + 2 + 1 ≡ first + 3 = omega arith in
    let four : first + 3 + 1 ≡ first + 4 = omega arith in
    rw (one, two, three, four) refl

-- at most five registers in a row, one by one
pub few_in_row : (first n : ℕ) → first < 65536 → n ≤ 5
    → take n (first ∷ (first + 1) % 65536 ∷ (first + 2) % 65536 ∷ (first + 3) % 65536 ∷ (first + 4) % 65536 ∷ []) ≡ registers_in_row first n
few_in_row first n below le = ap (take n) (five_in_row first below) ∙ take_row first n 5 le

-- a row goes round behind the last register
row_example : registers_in_row 65534 3 ≡ 65534 ∷ 65535 ∷ 0 ∷ []
row_example = refl

few_example : places_of (7 ∷ 9 ∷ []) ≡ 7 ∷ 9 ∷ 0 ∷ 0 ∷ 0 ∷ []
few_example = refl

more_example : named_registers 6 (8 ∷ 0 ∷ 0 ∷ 0 ∷ 0 ∷ []) ≡ 8 ∷ 9 ∷ 10 ∷ 11 ∷ 12 ∷ 13 ∷ []
more_example = refl
