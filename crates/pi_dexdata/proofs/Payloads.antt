-- What is left of a slice behind its first elements, in the loops over cases and over items of one byte.
use Rattle.std.proofs.Common.{◌≡◌, ℕ, ◌+◌, ◌-◌, ◌*◌, ◌<◌, ◌≤◌, List, [], ◌∷◌, ◌++◌, length, take, drop, get_or, true, refl, sym, ap, ◌∙◌, arith, append_assoc}
use Rattle.std.proofs.lemmas.List.{take_all}
use Rattle.pi_model.specs.declared.insn.Case.{Case}
use Rattle.pi_contents.specs.Asked.{follow_on}
use Rattle.pi_classtables.specs.Layout.{byte_units}

-- fewer than two cases follow each other
pub few_follow : (cases : List Case) → length cases < 2 → follow_on cases ≡ true
few_follow [] few = refl
few_follow (a ∷ []) few = refl
few_follow (a ∷ b ∷ cs) few = absurd (omega arith)

-- two bytes are a unit, and those behind them are the rest
two_bytes : (rest : List ℕ) → 2 ≤ length rest
    → byte_units rest ≡ (get_or rest 0 0 + 256 * get_or rest 1 0) ∷ byte_units (take (length rest - 2) (drop 2 rest))
two_bytes [] two = absurd (omega arith)
two_bytes (x ∷ []) two = absurd (omega arith)
two_bytes (x ∷ y ∷ items) two =
    ap (λ z. (x + 256 * y) ∷ byte_units z) (sym (take_all (length (x ∷ y ∷ items) - 2) items (omega arith)))

pub bytes_behind : (before rest whole after : List ℕ) → 2 ≤ length rest
    → after ≡ before ++ (get_or rest 0 0 + 256 * get_or rest 1 0) ∷ [] → before ++ byte_units rest ≡ whole
    → after ++ byte_units (take (length rest - 2) (drop 2 rest)) ≡ whole
bytes_behind before rest whole after two put is =
    ap (λ z. z ++ byte_units (take (length rest - 2) (drop 2 rest))) put
    ∙ append_assoc before ((get_or rest 0 0 + 256 * get_or rest 1 0) ∷ []) (byte_units (take (length rest - 2) (drop 2 rest)))
    ∙ ap (λ z. before ++ z) (sym (two_bytes rest two))
    ∙ is
