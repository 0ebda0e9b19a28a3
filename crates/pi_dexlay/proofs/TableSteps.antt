-- The tables of a file, by what was made.
use Rattle.std.proofs.Common.{◌≡◌, ℕ, zero, suc, ◌+◌, ◌<◌, List, [], ◌∷◌, ◌++◌, length, drop, get_or, refl, sym, ap, ◌∙◌, arith, append_assoc}
use Rattle.std.specs.List.{flat_map}
use Rattle.std.proofs.lemmas.List.{drop_more}
use Rattle.pi_parts.specs.Parts.{words}
use Rattle.pi_dextables.specs.declared.tables.Class.{Class}
use Rattle.pi_dexlay.specs.declared.made.Made.{Made}
use Rattle.pi_dexlay.specs.declared.made.Pools.{Pools}
use Rattle.pi_dexlay.specs.Sections.{definition, all_definitions}

get_or_same : (xs : List ℕ) (i : ℕ) → i < length xs → get_or xs i (get_or xs i 0) ≡ get_or xs i 0
get_or_same [] i lt = absurd (omega arith)
get_or_same (x ∷ xs) zero lt = refl
get_or_same (x ∷ xs) (suc i) lt = get_or_same xs i (omega arith)

pub class_step : (pools : Pools) (made : Made) (i : ℕ) (classes : List Class) (offsets : List ℕ) (c : Class) (o : ℕ) (old new whole : List ℕ) → i < length classes → length offsets ≡ length classes
    → c ≡ get_or classes i c → o ≡ get_or offsets i 0 → new ≡ old ++ words (definition pools made c o)
    → old ++ flat_map words (all_definitions pools made (drop i classes) (drop i offsets)) ≡ whole
    → new ++ flat_map words (all_definitions pools made (drop (i + 1) classes) (drop (i + 1) offsets)) ≡ whole
class_step pools made i classes offsets c o old new whole lc len ic io put laid =
    let lo : i < length offsets = omega arith in
    let dc : drop i classes ≡ c ∷ drop (i + 1) classes = drop_more classes i c lc ∙ ap (λ z. z ∷ drop (i + 1) classes) (sym ic) in
    let dn : drop i offsets ≡ o ∷ drop (i + 1) offsets = drop_more offsets i (get_or offsets i 0) lo ∙ ap (λ z. z ∷ drop (i + 1) offsets) (get_or_same offsets i lo ∙ sym io) in
    let rest = flat_map words (all_definitions pools made (drop (i + 1) classes) (drop (i + 1) offsets)) in
    ap (λ z. z ++ rest) put ∙ append_assoc old (words (definition pools made c o)) rest
    ∙ ap (λ z. old ++ flat_map words (all_definitions pools made (c ∷ drop (i + 1) classes) z)) (sym dn)
    ∙ ap (λ z. old ++ flat_map words (all_definitions pools made z (drop i offsets))) (sym dc) ∙ laid
