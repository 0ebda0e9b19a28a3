-- How many ranges the entries of a handler table are.
use Rattle.std.specs.List.{list_all}
use Rattle.std.proofs.lemmas.Bool.{eqb-true}
use Rattle.std.proofs.lemmas.List.Folds.{list_all-map}
use Rattle.pi_format.proofs.Held.{both}
use Rattle.pi_model.specs.declared.describe.Catch.{Catch}
use Rattle.pi_contents.specs.Named.{catch_content}
use Rattle.pi_classtables.specs.Spelled.{catch_spelled}
use Rattle.pi_dexdata.specs.Numbers.{no_text}
use Rattle.std.proofs.Common.{◌≡◌, ℕ, ◌+◌, ◌<◌, map, get_or, drop, add-one, drop-cons, List, [], ◌∷◌, length, Bool, true, false, refl, arith}
use Rattle.std.specs.Prelude.{◌==◌, ◌&&◌, Option, Some, None, is_some, if◌then◌else◌}
use Rattle.pi_contents.specs.Contents.{CatchContent}
use Rattle.pi_classtables.specs.Numbers.{no_pools}
use Rattle.pi_classtables.specs.Ranges.{Group, groups_of, with_entry}
use Rattle.pi_dexspelled.specs.Tests.{joins, joins_first}

-- the first range is that of the first entry
pub record BeginsWith (c : CatchContent) (gs : List Group) : Type 0 where
  pub group : Group
  pub groups : List Group
  pub all : gs ≡ group ∷ groups
  pub from : group.from ≡ c.from
  pub to : group.to ≡ c.to

begins_alone : (c : CatchContent) (g : Group) (gs : List Group) → g.from ≡ c.from → g.to ≡ c.to → BeginsWith c (g ∷ gs)
begins_alone c g gs from to = record { group = g; groups = gs; all = refl; from = from; to = to }

-- an entry that catches a type before others, by whether it has the range of the first
joined : (from to at : ℕ) (t : List ℕ) (g : Group) (gs : List Group) (b : Bool) → ((g.from == from) && (g.to == to)) ≡ b
    → BeginsWith (record { from = from; to = to; ty = Some t; at = at }) (with_entry no_pools (record { from = from; to = to; ty = Some t; at = at }) (g ∷ gs))
joined from to at t g gs true e =
    let (start, end) = both (g.from == from) (g.to == to) e in
    rw e (begins_alone (record { from = from; to = to; ty = Some t; at = at }) _ gs (eqb-true g.from from start) (eqb-true g.to to end))
joined from to at t g gs false e = rw e (begins_alone (record { from = from; to = to; ty = Some t; at = at }) _ (g ∷ gs) refl refl)

begins_entry : (from to at : ℕ) (o : Option (List ℕ)) (gs : List Group)
    → BeginsWith (record { from = from; to = to; ty = o; at = at }) (with_entry no_pools (record { from = from; to = to; ty = o; at = at }) gs)
begins_entry from to at None gs = begins_alone (record { from = from; to = to; ty = None; at = at }) _ gs refl refl
begins_entry from to at (Some t) [] = begins_alone (record { from = from; to = to; ty = Some t; at = at }) _ [] refl refl
begins_entry from to at (Some t) (g ∷ gs) = joined from to at t g gs ((g.from == from) && (g.to == to)) refl

begins_with : (c : CatchContent) (cs : List CatchContent) → BeginsWith c (groups_of no_pools (c ∷ cs))
begins_with c cs = begins_entry c.from c.to c.at c.ty (groups_of no_pools cs)

-- one more, unless it joins the first
counted_by : (from to at : ℕ) (t : List ℕ) (g : Group) (gs : List Group) (b : Bool) → ((g.from == from) && (g.to == to)) ≡ b
    → length (with_entry no_pools (record { from = from; to = to; ty = Some t; at = at }) (g ∷ gs)) ≡ (if b then 0 else 1) + length (g ∷ gs)
counted_by from to at t g gs true e = rw e (omega arith)
counted_by from to at t g gs false e = rw e (omega arith)

counted : (from to at : ℕ) (o : Option (List ℕ)) (g : Group) (gs : List Group)
    → length (with_entry no_pools (record { from = from; to = to; ty = o; at = at }) (g ∷ gs))
    ≡ (if is_some o && ((g.from == from) && (g.to == to)) then 0 else 1) + length (g ∷ gs)
counted from to at None g gs = omega arith
counted from to at (Some t) g gs = counted_by from to at t g gs ((g.from == from) && (g.to == to)) refl

alone : (from to at : ℕ) (o : Option (List ℕ)) → length (with_entry no_pools (record { from = from; to = to; ty = o; at = at }) []) ≡ 1
alone from to at None = refl
alone from to at (Some t) = refl

counted_with : (c d : CatchContent) (gs : List Group) → BeginsWith d gs → length (with_entry no_pools c gs) ≡ (if joins c d then 0 else 1) + length gs
counted_with c d gs begins =
    rw (begins.all, ← begins.from, ← begins.to) (counted c.from c.to c.at c.ty begins.group begins.groups)

pub count_more : (c : CatchContent) (cs : List CatchContent)
    → length (groups_of no_pools (c ∷ cs)) ≡ (if joins_first c cs then 0 else 1) + length (groups_of no_pools cs)
count_more c [] = rw (alone c.from c.to c.at c.ty) (omega arith)
count_more c (d ∷ ds) = counted_with c d (groups_of no_pools (d ∷ ds)) (begins_with d ds)

-- the entries from a place on
pub groups_at : (tries : List Catch) (i : ℕ) (c : Catch) → i < length tries → c ≡ get_or tries i c
    → length (groups_of no_pools (map (catch_content no_text) (drop i tries)))
    ≡ (if joins_first (catch_content no_text c) (map (catch_content no_text) (drop (i + 1) tries)) then 0 else 1)
    + length (groups_of no_pools (map (catch_content no_text) (drop (i + 1) tries)))
groups_at tries i c h e =
    let here : drop i tries ≡ c ∷ drop (i + 1) tries = rw (add-one, drop-cons tries i c, ← e) refl in
    rw here (count_more (catch_content no_text c) (map (catch_content no_text) (drop (i + 1) tries)))

pub each_spelled : (tries : List Catch) → list_all catch_spelled (map (catch_content no_text) tries) ≡ list_all (λ (c : Catch). catch_spelled (catch_content no_text c)) tries
each_spelled tries = list_all-map catch_spelled (catch_content no_text) tries
