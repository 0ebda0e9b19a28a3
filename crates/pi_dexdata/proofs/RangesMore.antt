-- One more range behind others: those before it keep the numbers of their lists.
use Rattle.std.proofs.Common.{◌≡◌, ℕ, ◌+◌, ◌-◌, List, [], ◌∷◌, ◌++◌, map, true, refl, sym, ap, ap₂, ◌∙◌, arith}
use Rattle.std.specs.List.{list_any}
use Rattle.std.proofs.lemmas.List.{map-append}
use Rattle.pi_dextables.specs.declared.tables.Catches.{Catches}
use Rattle.pi_dextables.specs.declared.tables.Range.{Range}
use Rattle.pi_classtables.specs.Ranges.{Group, same_catches, with_list, lists_from, lists_of, list_no, range_of, ranges_of}
use Rattle.pi_dexdata.proofs.ListNumbers.{still_there, number_stays, now_there}

-- the lists of some ranges are among lists
abbrev AreThere : List Catches → List Group → Type 0
AreThere lists [] = Unit {0}
AreThere lists (g ∷ gs) = (list_any (same_catches g.catches) lists ≡ true) × AreThere lists gs

there_still : (lists : List Catches) (m : Catches) (gs : List Group) → list_any (same_catches m) lists ≡ true → list_any (same_catches m) (lists_from lists gs) ≡ true
there_still lists m [] there = there
there_still lists m (g ∷ gs) there = there_still (with_list lists g.catches) m gs (still_there lists g.catches m there)

all_there : (lists : List Catches) (gs : List Group) → AreThere (lists_from lists gs) gs
all_there lists [] = tt
all_there lists (g ∷ gs) =
    (there_still (with_list lists g.catches) g.catches gs (now_there lists g.catches), all_there (with_list lists g.catches) gs)

ranges_stay : (lists : List Catches) (l : Catches) (gs : List Group) → AreThere lists gs → map (range_of (with_list lists l)) gs ≡ map (range_of lists) gs
ranges_stay lists l [] there = refl
ranges_stay lists l (g ∷ gs) there =
    ap₂ (λ (n : ℕ) (rs : List Range). record { from = g.from; size = g.to - g.from; list = n } ∷ rs)
    (number_stays lists l g.catches there.0) (ranges_stay lists l gs there.1)

lists_from_more : (lists : List Catches) (gs : List Group) (g : Group) → lists_from lists (gs ++ g ∷ []) ≡ with_list (lists_from lists gs) g.catches
lists_from_more lists [] g = refl
lists_from_more lists (h ∷ gs) g = lists_from_more (with_list lists h.catches) gs g

pub lists_more : (gs : List Group) (g : Group) → lists_of (gs ++ g ∷ []) ≡ with_list (lists_of gs) g.catches
lists_more gs g = lists_from_more [] gs g

pub ranges_more : (gs : List Group) (g : Group) → ranges_of (gs ++ g ∷ []) ≡ ranges_of gs ++ range_of (with_list (lists_of gs) g.catches) g ∷ []
ranges_more gs g =
    ap (λ ls. map (range_of ls) (gs ++ g ∷ [])) (lists_more gs g)
    ∙ map-append (range_of (with_list (lists_of gs) g.catches)) gs (g ∷ [])
    ∙ ap (λ rs. rs ++ range_of (with_list (lists_of gs) g.catches) g ∷ []) (ranges_stay (lists_of gs) g.catches gs (all_there [] gs))

-- what a loop over ranges makes of one more, by its first unit, its size and its list
abbrev pub made : ℕ → ℕ → Catches → Group
made from size l = record { from = from; to = from + size; catches = l }

pub lists_step : (gs : List Group) (from size : ℕ) (l : Catches) (g : Group) (before after : List Catches) → made from size l ≡ g → before ≡ lists_of gs
    → after ≡ with_list before l → after ≡ lists_of (gs ++ g ∷ [])
lists_step gs from size l g before after is of put =
    put ∙ ap (λ ls. with_list ls l) of ∙ sym (lists_more gs (made from size l)) ∙ ap (λ h. lists_of (gs ++ h ∷ [])) is

pub ranges_step : (gs : List Group) (from size : ℕ) (l : Catches) (g : Group) (before after : List Catches) (number : ℕ) (ranges new : List Range)
    → made from size l ≡ g → before ≡ lists_of gs → after ≡ with_list before l → number ≡ list_no after l → ranges ≡ ranges_of gs
    → new ≡ ranges ++ record { from = from; size = size; list = number } ∷ [] → new ≡ ranges_of (gs ++ g ∷ [])
ranges_step gs from size l g before after number ranges new is of put at so_far pushed =
    let units : size ≡ from + size - from = omega arith in
    let lists : after ≡ with_list (lists_of gs) l = put ∙ ap (λ ls. with_list ls l) of in
    let last : ◌≡◌ {A = Range} (record { from = from; size = size; list = number }) (range_of (with_list (lists_of gs) l) (made from size l)) =
    ap₂ (λ s n. record { from = from; size = s; list = n }) units (at ∙ ap (λ ls. list_no ls l) lists) in
    pushed ∙ ap₂ (λ rs r. rs ++ r ∷ []) so_far last ∙ sym (ranges_more gs (made from size l)) ∙ ap (λ h. ranges_of (gs ++ h ∷ [])) is
