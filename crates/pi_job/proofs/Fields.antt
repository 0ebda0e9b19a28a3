-- Lines of other numbers of fields, and lines that are not UTF-8.
use Rattle.std.proofs.Common.{◌≡◌, ◌≢◌, ℕ, List, [], ◌∷◌, length, map, None, refl}
use Rattle.std.specs.Str.{IsUtf8}
use Rattle.pi_job.specs.declared.draft.Draft.{Draft}
use Rattle.pi_job.specs.Job.{with_fields, line_added}
use Rattle.pi_job.proofs.Utf8.{no_utf8}

pub others : {A : Type 0} (job : List ℕ) (d : Draft) (f : A → List ℕ) (xs : List A) → length xs ≢ 2 → length xs ≢ 3 → length xs ≢ 7
    → with_fields job d (map f xs) ≡ None
others job d f (k ∷ a ∷ []) two three seven = absurd (two refl)
others job d f (k ∷ a ∷ b ∷ []) two three seven = absurd (three refl)
others job d f (k ∷ a ∷ b ∷ c ∷ e ∷ g ∷ h ∷ []) two three seven = absurd (seven refl)
others job d f _ two three seven = refl

pub no_text : (job : List ℕ) (d : Draft) (line : List ℕ) → ¬ (IsUtf8 line) → line_added job d line ≡ None
no_text job d line not = rw (no_utf8 line not) refl
