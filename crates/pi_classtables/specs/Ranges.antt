-- The entries of a handler table as ranges with lists of handlers.
use Rattle.std.specs.Prelude.{ℕ, ◌-◌, ◌==◌, ◌&&◌, List, [], ◌∷◌, ◌++◌, map, position, unwrap_or, Option, Some, None, Bool, true, false, if◌then◌else◌}
use Rattle.std.specs.List.{list_any}
use Rattle.pi_dextables.specs.declared.tables.Catch.{Catch}
use Rattle.pi_dextables.specs.declared.tables.Catches.{Catches}
use Rattle.pi_dextables.specs.declared.tables.Range.{Range}
use Rattle.pi_contents.specs.Contents.{CatchContent}
use Rattle.pi_classtables.specs.Numbers.{Pools, type_no}

-- a range with its handlers
pub record Group : Type 0 where
  pub from : ℕ
  pub to : ℕ
  pub catches : Catches

-- an entry before a group joins it where it catches a type and has the same range, and else is one of its own
abbrev pub with_entry : Pools → CatchContent → List Group → List Group
with_entry p c groups = by_type p c groups c.ty
  where
    alone : ℕ → ℕ → Catches → List Group → List Group
    alone from to catches groups = record { from = from; to = to; catches = catches } ∷ groups

    of_type : CatchContent → Catch → List Group → List Group
    of_type c h [] = alone c.from c.to (record { typed = h ∷ []; last = None }) []
    of_type c h (g ∷ gs) =
        if (g.from == c.from) && (g.to == c.to)
        then alone g.from g.to (record { typed = h ∷ g.catches.typed; last = g.catches.last }) gs
        else alone c.from c.to (record { typed = h ∷ []; last = None }) (g ∷ gs)

    by_type : Pools → CatchContent → List Group → Option (List ℕ) → List Group
    by_type p c groups None = alone c.from c.to (record { typed = []; last = Some c.at }) groups
    by_type p c groups (Some t) = of_type c (record { ty = type_no p t; to = c.at }) groups

abbrev pub groups_of : Pools → List CatchContent → List Group
groups_of p [] = []
groups_of p (c ∷ cs) = with_entry p c (groups_of p cs)

-- two lists of handlers are the same
abbrev pub same_last : Option ℕ → Option ℕ → Bool
same_last None None = true
same_last (Some a) (Some b) = a == b
same_last None (Some b) = false
same_last (Some a) None = false

abbrev pub same_typed : List Catch → List Catch → Bool
same_typed [] [] = true
same_typed (a ∷ as_) (b ∷ bs) = (a.ty == b.ty) && ((a.to == b.to) && same_typed as_ bs)
same_typed [] (b ∷ bs) = false
same_typed (a ∷ as_) [] = false

abbrev pub same_catches : Catches → Catches → Bool
same_catches l m = same_typed l.typed m.typed && same_last l.last m.last

-- the lists of groups, each once, in the order of their first use
abbrev pub with_list : List Catches → Catches → List Catches
with_list lists l = if list_any (same_catches l) lists then lists else lists ++ l ∷ []

abbrev pub lists_from : List Catches → List Group → List Catches
lists_from lists [] = lists
lists_from lists (g ∷ gs) = lists_from (with_list lists g.catches) gs

abbrev pub lists_of : List Group → List Catches
lists_of groups = lists_from [] groups

-- a range, by the lists
abbrev pub list_no : List Catches → Catches → ℕ
list_no lists l = unwrap_or (position (same_catches l) lists) 0

abbrev pub range_of : List Catches → Group → Range
range_of lists g = record { from = g.from; size = g.to - g.from; list = list_no lists g.catches }

abbrev pub ranges_of : List Group → List Range
ranges_of groups = map (range_of (lists_of groups)) groups
