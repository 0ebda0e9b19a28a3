-- A line of a name that was put in three pieces.
use Rattle.std.proofs.Common.{◌≡◌, ℕ, List, [], ◌∷◌, ◌++◌, Result, ap, ◌∙◌, append_assoc, subst}
use Rattle.pi_base.specs.Views.{SinkView}
use Rattle.pi_base.specs.Outside.{Puts, Told}
use Rattle.pi_base.proofs.Taken.{told_of_puts}
use Rattle.pi_duty.specs.Lines.{line}

module _ {A E : Type 0} where
  pub told_of_name : (prefix name text : List ℕ) (r : Result A E) (before now : SinkView) → text ≡ name → Puts (prefix ++ text ++ 10 ∷ []) r before now → Told (prefix ++ line name) before now
  told_of_name prefix name text r before now e h =
      let whole : prefix ++ text ++ 10 ∷ [] ≡ prefix ++ line name = append_assoc prefix text (10 ∷ []) ∙ ap (λ t. prefix ++ (t ++ 10 ∷ [])) e in
      subst (λ (piece : List ℕ). Told piece before now) whole (told_of_puts _ r before now h)
