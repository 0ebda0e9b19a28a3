-- The ranges of a code lie in it, one behind the other.
use Rattle.std.proofs.Common.{◌≡◌, ◌⊎◌, ℕ, ◌+◌, ◌-◌, ◌≤◌, Bool, true, false, List, [], ◌∷◌, map, inl, inr, refl, sym, ap, subst, ◌∙◌, arith}
use Rattle.std.specs.Prelude.{◌==◌, ◌&&◌, nat_le, is_some}
use Rattle.std.specs.List.{list_all}
use Rattle.std.proofs.lemmas.Bool.{and_parts, and_from, or_cases, leb-true, le-leb, eqb-true, eq-eqb}
use Rattle.pi_dextables.specs.declared.tables.Catches.{Catches}
use Rattle.pi_contents.specs.Contents.{CatchContent}
use Rattle.pi_contents.specs.Asked.{catch_fits, follows, ranges_rise}
use Rattle.pi_tablesaid.specs.Kept.{ranges_lie}
use Rattle.pi_classtables.specs.Numbers.{Pools}
use Rattle.pi_classtables.specs.Ranges.{Group, with_entry, groups_of, lists_of, range_of, ranges_of}
use Rattle.pi_classlaws.proofs.CatchesHold.{EntryFits, entry_fits}
use Rattle.pi_classlaws.proofs.Groups.{handler_of, group_alone, group_joined, StandsAlone, Joins, entered, Begins, groups_begin}

-- a range, and those behind it
range_lies : (units before from to : ℕ) (rest : Bool) → before ≤ from → from ≤ to → to ≤ units → rest ≡ true
    → (nat_le before from && (nat_le (from + (to - from)) units && rest)) ≡ true
range_lies units before from to rest behind forward within e =
    and_from (nat_le before from) (nat_le (from + (to - from)) units && rest) (le-leb before from behind)
    (and_from (nat_le (from + (to - from)) units) rest (le-leb (from + (to - from)) units (omega arith)) e)

-- an entry that stands alone before others ends before the first of them
ends_before : (c d : CatchContent) (g : Group) → follows c d ≡ true → (is_some c.ty ≡ true → ((g.from == c.from) && (g.to == c.to)) ≡ false)
    → g.from ≡ d.from → g.to ≡ d.to → c.to ≤ d.from
ends_before c d g follow apart from to = by_case (or_cases ((c.from == d.from) && ((c.to == d.to) && is_some c.ty)) (nat_le c.to d.from) follow)
  where
    by_case : (((c.from == d.from) && ((c.to == d.to) && is_some c.ty)) ≡ true) ⊎ (nat_le c.to d.from ≡ true) → c.to ≤ d.from
    by_case (inl e) =
        let parts = and_parts (c.from == d.from) ((c.to == d.to) && is_some c.ty) e in
        let more = and_parts (c.to == d.to) (is_some c.ty) parts.1 in
        let begin : g.from ≡ c.from = from ∙ sym (eqb-true c.from d.from parts.0) in
        let end : g.to ≡ c.to = to ∙ sym (eqb-true c.to d.to more.0) in
        let same : ((g.from == c.from) && (g.to == c.to)) ≡ true = and_from (g.from == c.from) (g.to == c.to) (eq-eqb g.from c.from begin) (eq-eqb g.to c.to end) in
        let no : false ≡ true = sym (apart more.1) ∙ same in
        cc
    by_case (inr e) = leb-true c.to d.from e

-- the first range may begin where the first entry does
abbrev BeginsAt : List CatchContent → ℕ → Type 0
BeginsAt [] before = Unit {0}
BeginsAt (c ∷ cs) before = before ≤ c.from

module _ (p : Pools) (units : ℕ) (lists : List Catches) where
  abbrev Lie : ℕ → List Group → Type 0
  Lie before gs = ranges_lie units before (map (range_of lists) gs) ≡ true

  lie_alone : (c : CatchContent) (gs : List Group) (before : ℕ) → EntryFits units c → before ≤ c.from → Lie (c.from + (c.to - c.from)) gs → Lie before (group_alone p c ∷ gs)
  lie_alone c gs before fits le rest =
      range_lies units before c.from c.to (ranges_lie units (c.from + (c.to - c.from)) (map (range_of lists) gs)) le fits.forward fits.within rest

  lie_first : (c : CatchContent) (d : CatchContent) (g : Group) (gs : List Group) (before : ℕ) → EntryFits units c → before ≤ c.from
      → StandsAlone p c (g ∷ gs) ⊎ Joins p c (g ∷ gs) → follows c d ≡ true → g.from ≡ d.from → g.to ≡ d.to
      → ((b : ℕ) → b ≤ d.from → Lie b (g ∷ gs)) → Lie before (with_entry p c (g ∷ gs))
  lie_first c d g gs before fits le (inl a) follow from to rest =
      let ends = ends_before c d g follow (λ some. a.apart g gs refl some) from to in
      let forward = fits.forward in
      subst (Lie before) (sym a.is) (lie_alone c (g ∷ gs) before fits le (rest (c.from + (c.to - c.from)) (omega arith)))
  lie_first c d g gs before fits le (inr j) follow from to rest =
      let same : g ∷ gs ≡ j.first ∷ j.rest = j.behind in
      let first : g ≡ j.first = cc in
      let at : d.from ≡ c.from = sym from ∙ (ap (λ (x : Group). x.from) first ∙ j.from) in
      let whole : Lie before (g ∷ gs) = rest before (omega arith) in
      let joined : Lie before (group_joined (handler_of p c j.ty) j.first ∷ j.rest) = subst (Lie before) same whole in
      subst (Lie before) (sym j.is) joined

  lie_step : (c : CatchContent) (d : CatchContent) (gs : List Group) (before : ℕ) → EntryFits units c → before ≤ c.from → follows c d ≡ true → Begins d gs
      → ((b : ℕ) → b ≤ d.from → Lie b gs) → Lie before (with_entry p c gs)
  lie_step c d gs before fits le follow b rest =
      let first = lie_first c d b.first b.rest before fits le (entered p c (b.first ∷ b.rest)) follow b.from b.to (λ x small. subst (Lie x) b.is (rest x small)) in
      subst (λ (hs : List Group). Lie before (with_entry p c hs)) (sym b.is) first

  lie_only : (c : CatchContent) (before : ℕ) → EntryFits units c → before ≤ c.from → StandsAlone p c [] ⊎ Joins p c [] → Lie before (with_entry p c [])
  lie_only c before fits le (inl a) = subst (Lie before) (sym a.is) (lie_alone c [] before fits le refl)
  lie_only c before fits le (inr j) = (let no : [] ≡ j.first ∷ j.rest = j.behind in cc)

  lie_from : (cs : List CatchContent) (before : ℕ) → list_all (catch_fits units) cs ≡ true → ranges_rise cs ≡ true → BeginsAt cs before → Lie before (groups_of p cs)
  lie_from [] before fit rise le = refl
  lie_from (c ∷ []) before fit rise le =
      lie_only c before (entry_fits units c (and_parts (catch_fits units c) true fit).0) le (entered p c [])
  lie_from (c ∷ d ∷ ds) before fit rise le =
      let fits = and_parts (catch_fits units c) (list_all (catch_fits units) (d ∷ ds)) fit in
      let rises = and_parts (follows c d) (ranges_rise (d ∷ ds)) rise in
      lie_step c d (groups_of p (d ∷ ds)) before (entry_fits units c fits.0) le rises.0 (groups_begin p d ds)
      (λ b small. lie_from (d ∷ ds) b fits.1 rises.1 small)

begins_anywhere : (cs : List CatchContent) → BeginsAt cs 0
begins_anywhere [] = tt
begins_anywhere (c ∷ cs) = omega arith

pub ranges_in_code : (p : Pools) (units : ℕ) (cs : List CatchContent) → list_all (catch_fits units) cs ≡ true → ranges_rise cs ≡ true
    → ranges_lie units 0 (ranges_of (groups_of p cs)) ≡ true
ranges_in_code p units cs fit rise =
    let lists = lists_of (groups_of p cs) in
    lie_from p units lists cs 0 fit rise (begins_anywhere cs)
