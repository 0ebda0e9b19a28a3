-- The ranges and the lists of handlers of a code say its handler table again.
use Rattle.std.proofs.Common.{◌≡◌, ◌⊎◌, ℕ, ◌+◌, ◌-◌, ◌≤◌, true, List, [], ◌∷◌, ◌++◌, Option, Some, None, map, inl, inr, refl, sym, ap, ◌∙◌, arith}
use Rattle.std.specs.Prelude.{nat_le, flat_map, IfSome, All, Contains}
use Rattle.std.specs.List.{list_all}
use Rattle.std.proofs.lemmas.Bool.{and_parts, leb-true}
use Rattle.std.proofs.lemmas.List.Elements.{All-head, All-tail}
use Rattle.std.proofs.lemmas.List.Sums.{AllPass-from_list_all}
use Rattle.pi_dextables.specs.declared.tables.Catch.{Catch}
use Rattle.pi_dextables.specs.declared.tables.Catches.{Catches}
use Rattle.pi_dextables.specs.declared.tables.Class.{Class}
use Rattle.pi_dextables.specs.declared.tables.Range.{Range}
use Rattle.pi_dextables.specs.declared.tables.Tables.{Tables}
use Rattle.pi_contents.specs.Contents.{CatchContent}
use Rattle.pi_tablesaid.specs.Entries.{type_at}
use Rattle.pi_tablesaid.specs.Content.{list_said, range_said}
use Rattle.pi_classtables.specs.Numbers.{Pools, type_no}
use Rattle.pi_classtables.specs.Ranges.{Group, with_entry, groups_of, lists_of, range_of, ranges_of}
use Rattle.pi_classtables.specs.Spelled.{catch_spelled}
use Rattle.pi_classtables.specs.Whole.{tables_with}
use Rattle.pi_classlaws.proofs.Known.{HoldsType, type_again}
use Rattle.pi_classlaws.proofs.HeldMembers.{CatchHeld, held_type}
use Rattle.pi_classlaws.proofs.Groups.{handler_of, group_alone, group_joined, StandsAlone, Joins, entered, groups_hold}
use Rattle.pi_classlaws.proofs.Listed.{list_found, all_listed}

-- what a group says: an entry for each handler
abbrev handler_said : Tables → ℕ → ℕ → Catch → CatchContent
handler_said t from to h = record { from = from; to = to; ty = Some (type_at t h.ty); at = h.to }

abbrev rest_said : ℕ → ℕ → Option ℕ → List CatchContent
rest_said from to None = []
rest_said from to (Some at) = record { from = from; to = to; ty = None; at = at } ∷ []

abbrev handlers_said : Tables → ℕ → ℕ → Catches → List CatchContent
handlers_said t from to l = map (handler_said t from to) l.typed ++ rest_said from to l.last

abbrev group_said : Tables → Group → List CatchContent
group_said t g = handlers_said t g.from g.to g.catches

-- a range with its list says what its group says
list_alike : (t : Tables) (r : Range) (l : Catches) (to : ℕ) → r.from + r.size ≡ to → list_said t r l ≡ handlers_said t r.from to l
list_alike t r l to end =
    ap (λ (n : ℕ). map (handler_said t r.from n) l.typed ++ rest_said r.from n l.last) end

-- a group ends no earlier than it begins
abbrev IsForward : Group → Type 0
IsForward g = g.from ≤ g.to

group_again : (t : Tables) (lists : List Catches) (g : Group) → Contains lists g.catches → IsForward g → range_said t lists (range_of lists g) ≡ group_said t g
group_again t lists g there forward =
    let found = list_found lists g.catches there in
    let end : g.from + (g.to - g.from) ≡ g.to = omega arith in
    ap (list_said t (range_of lists g)) found.is ∙ list_alike t (range_of lists g) g.catches g.to end

groups_again : (t : Tables) (lists : List Catches) (gs : List Group) → All (λ (g : Group). Contains lists g.catches) gs → All IsForward gs
    → flat_map (range_said t lists) (map (range_of lists) gs) ≡ flat_map (group_said t) gs
groups_again t lists [] there forward = refl
groups_again t lists (g ∷ gs) there forward =
    let There : Group → Type 0 = λ (h : Group). Contains lists h.catches in
    let first = group_again t lists g (All-head There g gs there) (All-head IsForward g gs forward) in
    let rest = groups_again t lists gs (All-tail There g gs there) (All-tail IsForward g gs forward) in
    λ i. first i ++ rest i

-- so does one of entries that can be spelled
forward_spelled : (c : CatchContent) → catch_spelled c ≡ true → c.from ≤ c.to
forward_spelled c e = leb-true c.from c.to (and_parts (nat_le c.from c.to) (nat_le c.to (c.from + 65535)) e).0

all_forward : (p : Pools) (cs : List CatchContent) → list_all catch_spelled cs ≡ true → All IsForward (groups_of p cs)
all_forward p cs e =
    groups_hold IsForward (λ (c : CatchContent). catch_spelled c ≡ true) p
    (λ c spelled. forward_spelled c spelled)
    (λ c t g spelled caught from to forward. forward)
    cs (AllPass-from_list_all catch_spelled cs e)

-- groups say the entries that they are made of
module _ (p : Pools) (classes : List Class) where
  alone_by : (from to : ℕ) (ty : Option (List ℕ)) (at : ℕ) → IfSome ty (HoldsType p)
      → group_said (tables_with p classes) (group_alone p (record { from = from; to = to; ty = ty; at = at })) ≡ record { from = from; to = to; ty = ty; at = at } ∷ []
  alone_by from to None at held = refl
  alone_by from to (Some u) at held = (let is = type_again p classes u held in λ i. record { from = from; to = to; ty = Some (is i); at = at } ∷ [])

  joined_said : (c : CatchContent) (u : List ℕ) (g : Group) → IfSome c.ty (HoldsType p) → c.ty ≡ Some u → g.from ≡ c.from → g.to ≡ c.to
      → group_said (tables_with p classes) (group_joined (handler_of p c u) g) ≡ c ∷ group_said (tables_with p classes) g
  joined_said c u g held caught from to =
      let here : HoldsType p u = held_type p c.ty u held caught in
      let is : Some (type_at (tables_with p classes) (type_no p u)) ≡ c.ty = ap Some (type_again p classes u here) ∙ sym caught in
      λ i. record { from = from i; to = to i; ty = is i; at = c.at } ∷ group_said (tables_with p classes) g

  entry_said : (c : CatchContent) (gs : List Group) → CatchHeld p c → StandsAlone p c gs ⊎ Joins p c gs
      → flat_map (group_said (tables_with p classes)) (with_entry p c gs) ≡ c ∷ flat_map (group_said (tables_with p classes)) gs
  entry_said c gs held (inl a) =
      let said : List Group → List CatchContent = flat_map (group_said (tables_with p classes)) in
      ap said a.is ∙ ap (λ (cs : List CatchContent). cs ++ said gs) (alone_by c.from c.to c.ty c.at held)
  entry_said c gs held (inr j) =
      let said : List Group → List CatchContent = flat_map (group_said (tables_with p classes)) in
      let here = joined_said c j.ty j.first held j.caught j.from j.to in
      ap said j.is ∙ (ap (λ (cs : List CatchContent). cs ++ said j.rest) here ∙ ap (λ (hs : List Group). c ∷ said hs) (sym j.behind))

  entries_again : (cs : List CatchContent) → All (CatchHeld p) cs → flat_map (group_said (tables_with p classes)) (groups_of p cs) ≡ cs
  entries_again [] held = refl
  entries_again (c ∷ cs) held =
      entry_said c (groups_of p cs) (All-head (CatchHeld p) c cs held) (entered p c (groups_of p cs))
      ∙ ap (λ (ds : List CatchContent). c ∷ ds) (entries_again cs (All-tail (CatchHeld p) c cs held))

  -- and so the whole table
  pub catches_again : (cs : List CatchContent) → All (CatchHeld p) cs → list_all catch_spelled cs ≡ true
      → flat_map (range_said (tables_with p classes) (lists_of (groups_of p cs))) (ranges_of (groups_of p cs)) ≡ cs
  catches_again cs held spelled =
      let gs = groups_of p cs in
      groups_again (tables_with p classes) (lists_of gs) gs (all_listed gs) (all_forward p cs spelled) ∙ entries_again cs held
