-- What it means that the lines of a text are taken one after another, and which line is the first that breaks a rule.
use Rattle.std.specs.Prelude.{◌≡◌, ◌⊎◌, ℕ, ◌+◌, min, Bool, true, false, List, [], ◌∷◌, length, take, filter, fold, Option, Some, option_and_then, IsSome, IsNone}
use Rattle.pi_job.specs.Numbers.{most_word}

-- the line has a byte
abbrev pub is_line : List ℕ → Bool
is_line [] = false
is_line (b ∷ bs) = true

-- what is said with one more line: nothing where nothing stands before it, or where it breaks a rule
abbrev pub with_line : {A : Type 0} → (A → List ℕ → Option A) → Option A → List ℕ → Option A
with_line says before line = option_and_then (λ x. says x line) before

-- what lines say, each that is not empty adding to what those before it said: nothing where one of them breaks a rule
abbrev pub all_said : {A : Type 0} → (A → List ℕ → Option A) → A → List (List ℕ) → Option A
all_said says start ls = fold (with_line says) (Some start) (filter is_line ls)

-- the number of the line at a place, counted from 1 as far as 32 bits count
abbrev pub line_at : ℕ → ℕ
line_at k = min (k + 1) most_word

-- the lines say that: all of them are taken, and it is the whole of what they say
abbrev pub SaysWhole : {A B : Type 0} → (A → List ℕ → Option A) → (A → Option B) → A → List (List ℕ) → B → Type 0
SaysWhole says whole start ls y = option_and_then whole (all_said says start ls) ≡ Some y

-- the line at a place is the first that breaks a rule: those before it are taken, and with it they are not
abbrev pub BreaksAt : {A : Type 0} → (A → List ℕ → Option A) → A → List (List ℕ) → ℕ → Type 0
BreaksAt says start ls k = IsSome (all_said says start (take k ls)) × IsNone (all_said says start (take (k + 1) ls))

-- a line is wanting at the end: all of them are taken, and what they say is not whole
abbrev pub WantsMore : {A B : Type 0} → (A → List ℕ → Option A) → (A → Option B) → A → List (List ℕ) → Type 0
WantsMore says whole start ls = IsSome (all_said says start ls) × IsNone (option_and_then whole (all_said says start ls))

-- the first line that is not taken has that number: one that breaks a rule, or the one behind the last, which is wanting
abbrev pub IsFirstBroken : {A B : Type 0} → (A → List ℕ → Option A) → (A → Option B) → A → List (List ℕ) → ℕ → Type 0
IsFirstBroken says whole start ls n =
    ((k : ℕ) × (n ≡ line_at k) × BreaksAt says start ls k) ⊎ ((n ≡ line_at (length ls)) × WantsMore says whole start ls)
