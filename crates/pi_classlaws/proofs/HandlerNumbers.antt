-- The numbers in the ranges and the lists of handlers of a code fit the places that they have.
use Rattle.std.proofs.Common.{◌≡◌, ℕ, ◌+◌, ◌-◌, ◌^◌, ◌<◌, ◌≤◌, true, List, [], ◌∷◌, Option, Some, None, length, inl, inr, refl, arith}
use Rattle.std.specs.Prelude.{nat_le, IfSome, All, Contains}
use Rattle.std.specs.List.{list_all}
use Rattle.std.proofs.lemmas.Bool.{and_parts, leb-true}
use Rattle.std.proofs.lemmas.List.{length-map}
use Rattle.std.proofs.lemmas.List.Elements.{All-nil, All-cons, All-map}
use Rattle.std.proofs.lemmas.List.Sums.{AllPass-from_list_all}
use Rattle.pi_format.proofs.Every.{all_both, all_weaker}
use Rattle.pi_dextables.specs.declared.tables.Range.{Range}
use Rattle.pi_dextables.specs.Writable.{IsHalf, IsWord, CatchFits, CatchesFit, RangeFits}
use Rattle.pi_contents.specs.Contents.{CatchContent}
use Rattle.pi_classtables.specs.Numbers.{Pools, type_no}
use Rattle.pi_classtables.specs.Ranges.{Group, groups_of, lists_of, range_of, ranges_of, list_no}
use Rattle.pi_classtables.specs.Sized.{CatchSized}
use Rattle.pi_classtables.specs.Spelled.{catch_spelled}
use Rattle.pi_classlaws.proofs.Known.{HoldsType}
use Rattle.pi_classlaws.proofs.HeldMembers.{CatchHeld, held_type}
use Rattle.pi_classlaws.proofs.Groups.{handler_of, handlers_alone, group_joined, groups_hold, groups_counted}
use Rattle.pi_classlaws.proofs.Listed.{list_found, all_listed, lists_hold}

-- what is known of an entry, and what so holds of a group
record EntryIs (p : Pools) (c : CatchContent) : Type 0 where
  sized : CatchSized c
  spelled : catch_spelled c ≡ true
  held : CatchHeld p c

record GroupFits (g : Group) : Type 0 where
  from : IsWord g.from
  size : IsHalf (g.to - g.from)
  catches : CatchesFit g.catches

-- a range that can be spelled has few units
few_units : (c : CatchContent) → catch_spelled c ≡ true → c.to - c.from < 2 ^ 16
few_units c e =
    let le = leb-true c.to (c.from + 65535) (and_parts (nat_le c.from c.to) (nat_le c.to (c.from + 65535)) e).1 in
    omega (arith, le)

-- where types are few, their numbers fit
module _ (p : Pools) (few : length p.types ≤ 65535) where
  handler_fits : (u : List ℕ) (at : ℕ) → HoldsType p u → at < 2 ^ 32 → CatchFits (record { ty = type_no p u; to = at })
  handler_fits u at held lt = record { ty = (let number = held.number in omega (arith, number)); to = lt }

  alone_fits : (from to at : ℕ) (ty : Option (List ℕ)) → IfSome ty (HoldsType p) → at < 2 ^ 32
      → CatchesFit (handlers_alone p (record { from = from; to = to; ty = ty; at = at }) ty)
  alone_fits from to at None held lt = record { typed = All-nil CatchFits; last = lt; some = inr refl }
  alone_fits from to at (Some u) held lt = record {
    typed = All-cons CatchFits (record { ty = type_no p u; to = at }) [] (handler_fits u at held lt) (All-nil CatchFits);
    last = tt;
    some = inl (omega arith);
  }

  joined_fits : (c : CatchContent) (u : List ℕ) (g : Group) → HoldsType p u → c.at < 2 ^ 32 → GroupFits g → GroupFits (group_joined (handler_of p c u) g)
  joined_fits c u g held lt fits = record {
    from = fits.from;
    size = fits.size;
    catches = record {
      typed = All-cons CatchFits (handler_of p c u) g.catches.typed (handler_fits u c.at held lt) fits.catches.typed;
      last = fits.catches.last;
      some = inl (omega arith);
    };
  }

  groups_fit : (cs : List CatchContent) → All (EntryIs p) cs → All GroupFits (groups_of p cs)
  groups_fit cs all =
      groups_hold GroupFits (EntryIs p) p
      (λ c e. record { from = e.sized.from; size = few_units c e.spelled; catches = alone_fits c.from c.to c.at c.ty e.held e.sized.at })
      (λ c u g e caught from to fits. joined_fits c u g (held_type p c.ty u e.held caught) e.sized.at fits)
      cs all

  entries_are : (cs : List CatchContent) → All (CatchHeld p) cs → All CatchSized cs → list_all catch_spelled cs ≡ true → All (EntryIs p) cs
  entries_are cs held sized spelled =
      let Both : CatchContent → Type 0 = λ (c : CatchContent). CatchSized c × (catch_spelled c ≡ true) in
      let both : All Both cs =
      all_both CatchSized (λ (c : CatchContent). catch_spelled c ≡ true) Both cs (λ c a b. (a, b)) sized (AllPass-from_list_all catch_spelled cs spelled) in
      all_both (CatchHeld p) Both (EntryIs p) cs (λ c a b. record { sized = b.0; spelled = b.1; held = a }) held both

  pub lists_fit : (cs : List CatchContent) → All (CatchHeld p) cs → All CatchSized cs → list_all catch_spelled cs ≡ true
      → All CatchesFit (lists_of (groups_of p cs))
  lists_fit cs held sized spelled =
      let fit = groups_fit cs (entries_are cs held sized spelled) in
      lists_hold CatchesFit (groups_of p cs) (all_weaker GroupFits (λ (g : Group). CatchesFit g.catches) (groups_of p cs) (λ g f. f.catches) fit)

  pub ranges_fit : (cs : List CatchContent) → All (CatchHeld p) cs → All CatchSized cs → list_all catch_spelled cs ≡ true
      → All (RangeFits (lists_of (groups_of p cs))) (ranges_of (groups_of p cs))
  ranges_fit cs held sized spelled =
      let gs = groups_of p cs in
      let lists = lists_of gs in
      let fit = groups_fit cs (entries_are cs held sized spelled) in
      let There : Group → Type 0 = λ (g : Group). Contains lists g.catches in
      All-map (RangeFits lists) (range_of lists) gs
      (all_both GroupFits There (λ (g : Group). RangeFits lists (range_of lists g)) gs
      (λ g f there. record { from = f.from; size = f.size; list = (list_found lists g.catches there).number }) fit (all_listed gs))

-- each range names a list
pub lists_named : (gs : List Group) → All (λ (r : Range). r.list < length (lists_of gs)) (ranges_of gs)
lists_named gs =
    let lists = lists_of gs in
    All-map (λ (r : Range). r.list < length lists) (range_of lists) gs
    (all_weaker (λ (g : Group). Contains lists g.catches) (λ (g : Group). list_no lists g.catches < length lists) gs
    (λ g there. (list_found lists g.catches there).number) (all_listed gs))

-- where there are no ranges there are no lists
pub no_lists : (gs : List Group) → length (ranges_of gs) ≡ 0 → length (lists_of gs) ≡ 0
no_lists [] e = refl
no_lists (g ∷ gs) e = absurd (omega arith)

-- there are as many ranges as groups, whatever the numbers of types
pub few_ranges : (p q : Pools) (cs : List CatchContent) → length (groups_of q cs) ≤ 65535 → length (ranges_of (groups_of p cs)) < 2 ^ 16
few_ranges p q cs few =
    let many = length-map (groups_of p cs) (range_of (lists_of (groups_of p cs))) in
    let same = groups_counted p q cs in
    omega (arith, many, same, few)
