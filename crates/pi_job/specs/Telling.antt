-- What the lines of a text say, one after the other, and the first line that breaks a rule.
use Rattle.std.specs.Prelude.{◌≡◌, ℕ, ◌+◌, nat_lt, List, [], ◌∷◌, Option, Some, None, Result, Ok, Err, if◌then◌else◌}
use Rattle.pi_job.specs.Numbers.{most_word}
use Rattle.pi_job.specs.declared.fault.TextFault.{TextFault}
use Rattle.pi_job.specs.declared.fault.TextFault.TheVariants.{OutOfMemory, Line}

-- The number of the next line: one more, as long as 32 bits count it.
abbrev pub next_line : ℕ → ℕ
next_line n = if nat_lt n most_word then n + 1 else n

-- what follows where a line keeps its rules, and else the number of the line
abbrev pub then_on : {A B : Type 0} → ℕ → Option A → (A → Result B ℕ) → Result B ℕ
then_on n None more = Err n
then_on n (Some x) more = more x

-- Lines from a number on, behind what the lines before them said: what all say, or the first line that breaks a rule.
-- A rule is asked of a line and of what was said before it; it gives what is said with that line. Empty lines say nothing.
-- At the end it is asked whether what was said is whole; where it is not, the line behind the last is wanting.
abbrev pub told_from : {A B : Type 0} → (A → List ℕ → Option A) → (A → Option B) → A → ℕ → List (List ℕ) → Result B ℕ
told_from says whole before n [] = then_on n (whole before) (λ x. Ok x)
told_from says whole before n ([] ∷ others) = told_from says whole before (next_line n) others
told_from says whole before n ((b ∷ bs) ∷ others) =
    then_on n (says before (b ∷ bs)) (λ said. told_from says whole said (next_line n) others)

-- a call answers what a text says, or the line; a want of memory says nothing
abbrev pub Answers : {A : Type 0} → Result A ℕ → Result A TextFault → Type 0
Answers says (Ok x) = says ≡ Ok x
Answers says (Err (Line n)) = says ≡ Err n
Answers says (Err OutOfMemory) = Unit {0}

-- a call that names a line names such a line
abbrev pub OnLine : {A : Type 0} → Result A TextFault → (ℕ → Type 0) → Type 0
OnLine (Ok x) P = Unit {0}
OnLine (Err (Line n)) P = P n
OnLine (Err OutOfMemory) P = Unit {0}
