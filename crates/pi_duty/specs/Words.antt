-- The words of a command. A word is the list of its text's bytes.
use Rattle.std.specs.Prelude.{ℕ, ◌==◌, ◌&&◌, not, nat_eq, nat_le, List, [], ◌∷◌, Option, Some, None, Bool, false, if◌then◌else◌, codes}
use Rattle.std.specs.Char.{is_ascii_digit}
use Rattle.std.specs.List.{list_any}
use Rattle.std.specs.Str.{all_ascii_digits}
use Rattle.std.specs.Str.Parse.{digits_value}
use Rattle.std.specs.Cmp.Lexicographic.{pointwise}

-- the words of a lazy run: the file's name, the descriptor of the main class, the limit on steps
pub record LazyWords : Type 0 where
  pub file : List ℕ
  pub main : List ℕ
  pub steps : ℕ

-- the greatest limit on steps
abbrev pub most_steps : ℕ
most_steps = 1000000000000

-- decimal digits without leading zeros
abbrev pub is_number : List ℕ → Bool
is_number [] = false
is_number (c ∷ []) = is_ascii_digit c
is_number (c ∷ d ∷ others) = not (c == 48) && (is_ascii_digit c && all_ascii_digits (d ∷ others))

-- the number that a word writes, up to the greatest that is accepted
abbrev pub number_up_to : ℕ → List ℕ → Option ℕ
number_up_to most word = if is_number word && nat_le (digits_value 10 word) most then Some (digits_value 10 word) else None

-- a word that would be an option
abbrev pub has_dash : List ℕ → Bool
has_dash [] = false
has_dash (c ∷ others) = c == 45

-- the two words are the same
abbrev pub same_word : List ℕ → List ℕ → Bool
same_word a b = pointwise nat_eq a b

abbrev pub lazy_with : List ℕ → List ℕ → Option ℕ → Option LazyWords
lazy_with file main None = None
lazy_with file main (Some steps) = Some (record { file = file; main = main; steps = steps })

-- `lazy FILE MAIN STEPS`, in which no word behind the command begins with a dash. Other words are no command yet.
abbrev pub lazy_words : List (List ℕ) → Option LazyWords
lazy_words (command ∷ file ∷ main ∷ steps ∷ []) =
    if same_word command (codes "lazy") && not (list_any has_dash (file ∷ main ∷ steps ∷ []))
    then lazy_with file main (number_up_to most_steps steps) else None
lazy_words [] = None
lazy_words (a ∷ []) = None
lazy_words (a ∷ b ∷ []) = None
lazy_words (a ∷ b ∷ c ∷ []) = None
lazy_words (a ∷ b ∷ c ∷ d ∷ e ∷ others) = None
