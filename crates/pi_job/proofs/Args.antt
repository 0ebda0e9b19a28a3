-- Lines of arguments, and other lines.
use Rattle.std.proofs.Common.{◌≡◌, ℕ, List, ◌∷◌, ◌++◌, take, drop, true, false, refl, sym, ap, ◌∙◌}
use Rattle.std.specs.Prelude.{codes}
use Rattle.std.specs.List.{slice_split}
use Rattle.std.specs.Prelude.{◌==◌}
use Rattle.std.specs.Str.{IsUtf8}
use Rattle.std.specs.Cmp.Lexicographic.{same_text}
use Rattle.std.proofs.lemmas.Bool.{false_from_ne_true}
use Rattle.std.proofs.lemmas.Str.{is_utf8-from_IsUtf8}
use Rattle.std.proofs.lemmas.List.{take-append-drop}
use Rattle.pi_job.specs.declared.draft.Draft.{Draft}
use Rattle.pi_job.specs.Job.{same_name, with_arg, with_fields, line_added}

begins : (line rest : List ℕ) → line ≡ 97 ∷ 114 ∷ 103 ∷ 32 ∷ rest → same_name (take 4 line) (codes "arg ") ≡ true
begins line rest e = rw e refl

pub is_arg : (job : List ℕ) (d : Draft) (line text arg : List ℕ) (n : ℕ) → IsUtf8 line → text ≡ line → n ≡ 4
    → text ≡ 97 ∷ 114 ∷ 103 ∷ 32 ∷ drop n text → arg ≡ drop n text → line_added job d line ≡ with_arg d arg
is_arg job d line text arg n utf8 same four e behind =
    let rest : arg ≡ drop 4 line = behind ∙ ap (λ (k : ℕ). drop k text) four ∙ ap (drop 4) same in
    rw (is_utf8-from_IsUtf8 line utf8, begins line (drop n text) (sym same ∙ e)) (ap (with_arg d) (sym rest))

no_arg : (line : List ℕ) → ((rest : List ℕ) → line ≡ 97 ∷ 114 ∷ 103 ∷ 32 ∷ rest → ⊥) → same_name (take 4 line) (codes "arg ") ≡ false
no_arg line other =
    false_from_ne_true (same_name (take 4 line) (codes "arg ")) (λ e.
    let front : take 4 line ≡ codes "arg " = same_text (take 4 line) (codes "arg ") (sym e) in
    other (drop 4 line) (sym (take-append-drop 4 line) ∙ ap (λ (xs : List ℕ). xs ++ drop 4 line) front))

pub is_other : (job : List ℕ) (d : Draft) (line text : List ℕ) (fields : List (List ℕ)) → IsUtf8 line → text ≡ line
    → ((rest : List ℕ) → text ≡ 97 ∷ 114 ∷ 103 ∷ 32 ∷ rest → ⊥) → fields ≡ slice_split (λ b. b == 32) text
    → line_added job d line ≡ with_fields job d fields
is_other job d line text fields utf8 same other split =
    rw (is_utf8-from_IsUtf8 line utf8, no_arg line (λ rest e. other rest (same ∙ e)))
    (ap (with_fields job d) (sym (split ∙ ap (slice_split (λ b. b == 32)) same)))
