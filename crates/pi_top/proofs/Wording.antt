-- What the words of a command say: numbers by their digits, and how many words a lazy run has.
use Rattle.std.proofs.Common.{◌≡◌, ◌≢◌, ℕ, ◌^◌, ◌<◌, List, [], ◌∷◌, length, None, Err, true, ◌&&◌, refl, ap, arith}
use Rattle.std.specs.Char.{is_ascii_digit}
use Rattle.std.specs.List.{list_all}
use Rattle.std.specs.Str.{all_ascii_digits}
use Rattle.std.specs.Str.Parse.{digits_value, ParsesUnsigned}
use Rattle.std.proofs.lemmas.Str.Parse.{IsNumeralModel, numerals_by_value, tells_all_ascii_digits, parse_digits}
use Rattle.std.proofs.lemmas.Grind.{common_steps}
use Rattle.std.proofs.lemmas.Bool.Decides.{nat_tests}
use Rattle.pi_duty.specs.Words.{is_number, number_up_to, lazy_words}

pub listed_digits : (xs : List ℕ) → list_all is_ascii_digit xs ≡ all_ascii_digits xs
listed_digits [] = refl
listed_digits (c ∷ cs) = ap (λ b. is_ascii_digit c && b) (listed_digits cs)

-- a number is digits, and at least one
digits_of_number : (word : List ℕ) → is_number word ≡ true → (all_ascii_digits word ≡ true) × (0 < length word)
digits_of_number [] h = absurd (cc)
digits_of_number (c ∷ []) h = (grind arith, omega arith)
digits_of_number (c ∷ d ∷ others) h = (grind (arith, common_steps), omega arith)

own : IsNumeralModel (λ ds. all_ascii_digits ds ≡ true) (digits_value 10)
own = numerals_by_value _ tells_all_ascii_digits

-- a number that no 64 bits hold is above each limit of 64 bits
too_great : {E : Type 0} (most : ℕ) (word : List ℕ) (e : E) → most < 2 ^ 64 → is_number word ≡ true → ParsesUnsigned 64 10 word (Err e) → most < digits_value 10 word
too_great {E} most word e small h parsed =
    let d = digits_of_number word h in
    let none : ¬ ((0 < length word) × (digits_value 10 word < 2 ^ 64)) = parse_digits own {E = E} 64 word (Err e) parsed d.0 in
    grind (arith, none, d.1)

above : (most : ℕ) (word : List ℕ) → most < digits_value 10 word → None ≡ number_up_to most word
above most word h = grind (arith, nat_tests)

pub number_too_great : {E : Type 0} (most : ℕ) (word : List ℕ) (e : E) → most < 2 ^ 64 → is_number word ≡ true → ParsesUnsigned 64 10 word (Err e) → None ≡ number_up_to most word
number_too_great most word e small h parsed = above most word (too_great most word e small h parsed)

-- a lazy run has four words
pub lazy_words-none : (words : List (List ℕ)) → length words ≢ 4 → None ≡ lazy_words words
lazy_words-none [] h = refl
lazy_words-none (a ∷ []) h = refl
lazy_words-none (a ∷ b ∷ []) h = refl
lazy_words-none (a ∷ b ∷ c ∷ []) h = refl
lazy_words-none (a ∷ b ∷ c ∷ d ∷ []) h = absurd (h refl)
lazy_words-none (a ∷ b ∷ c ∷ d ∷ e ∷ others) h = refl
