-- Steps over the lines of a text, as a loop takes them.
use Rattle.std.proofs.Common.{◌≡◌, ℕ, ◌<◌, List, [], ◌∷◌, length, Option, Some, None, Err, refl, arith}
use Rattle.pi_job.specs.Telling.{next_line, told_from}

pub passes : {A B : Type 0} (says : A → List ℕ → Option A) (whole : A → Option B) (before : A) (n : ℕ) (ls : List (List ℕ))
    (line : List ℕ) (others : List (List ℕ)) → ls ≡ line ∷ others → length line ≡ 0
    → told_from says whole before n ls ≡ told_from says whole before (next_line n) others
passes says whole before n ls [] others e lt = rw e refl
passes says whole before n ls (b ∷ bs) others e lt = absurd (omega arith)

pub goes_on : {A B : Type 0} (says : A → List ℕ → Option A) (whole : A → Option B) (before : A) (n : ℕ) (ls : List (List ℕ))
    (line : List ℕ) (others : List (List ℕ)) (x : A) → ls ≡ line ∷ others → 0 < length line → says before line ≡ Some x
    → told_from says whole before n ls ≡ told_from says whole x (next_line n) others
goes_on says whole before n ls [] others x e lt said = absurd (omega arith)
goes_on says whole before n ls (b ∷ bs) others x e lt said = rw (e, said) refl

pub stops : {A B : Type 0} (says : A → List ℕ → Option A) (whole : A → Option B) (before : A) (n : ℕ) (ls : List (List ℕ))
    (line : List ℕ) (others : List (List ℕ)) → ls ≡ line ∷ others → 0 < length line → says before line ≡ None
    → told_from says whole before n ls ≡ Err n
stops says whole before n ls [] others e lt said = absurd (omega arith)
stops says whole before n ls (b ∷ bs) others e lt said = rw (e, said) refl
