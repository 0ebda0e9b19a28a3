-- The entries of the handler table of a code: each ends in the code, and they rise.
use Rattle.std.proofs.Common.{◌≡◌, ℕ, zero, suc, ◌+◌, ◌<◌, ◌≤◌, List, [], ◌∷◌, ◌++◌, map, Option, Some, None, Bool, true, false, refl, arith}
use Rattle.std.specs.Prelude.{◌==◌, ◌&&◌, nat_lt, nat_le, is_some, if◌then◌else◌}
use Rattle.std.specs.List.{list_all, flat_map}
use Rattle.std.proofs.lemmas.Bool.{and_parts, and_from, or_left, or_right, eq-eqb, eqb-true, le-leb, leb-true, lt-ltb, ltb-true}
use Rattle.pi_model.specs.declared.numbers.NameNo.{NameNo}
use Rattle.pi_model.specs.declared.describe.Catch.{Catch}
use Rattle.pi_model.proofs.Kept.{all_more}
use Rattle.pi_format.specs.Tables.{count_at, type_ids}
use Rattle.pi_format.specs.Rules.Lowest.{tabulation}
use Rattle.pi_format.specs.Rules.CodeItems.{CodeHead, tries_at, lists_at, TryRange, try_range, Handler, handler_holds, HandlerList}
use Rattle.pi_format.specs.Says.Names.{Named}
use Rattle.pi_format.specs.Says.Codes.{typed_catch, last_catch, range_catches, catches_at, catches_of}
use Rattle.pi_said.proofs.Lists.{append_all}
use Rattle.pi_contents.specs.Named.{catch_content}
use Rattle.pi_contents.specs.Asked.{catch_fits, follows, ranges_rise}
use Rattle.pi_saidkeeps.proofs.Ranges.{last_holds, list_holds, RangesKept, end_of, range_ends, range_follows}

-- an entry of a range, with a handler in the code
abbrev of_range : TryRange → ℕ → Catch → Bool
of_range r units c = (c.from == r.from) && ((c.to == end_of r) && nat_lt c.at units)

of_range_is : (r : TryRange) (units : ℕ) (ty : Option NameNo) (to : ℕ) → nat_lt to units ≡ true
    → of_range r units (record { from = r.from; to = end_of r; ty = ty; at = to }) ≡ true
of_range_is r units ty to h =
    and_from (r.from == r.from) ((end_of r == end_of r) && nat_lt to units) (eq-eqb r.from r.from refl)
    (and_from (end_of r == end_of r) (nat_lt to units) (eq-eqb (end_of r) (end_of r) refl) h)

typed_are : (n : Named) (r : TryRange) (file : List ℕ) (units : ℕ) (typed : List Handler) → list_all (handler_holds file units) typed ≡ true
    → list_all (of_range r units) (map (typed_catch n r) typed) ≡ true
typed_are n r file units [] hold = refl
typed_are n r file units (h ∷ hs) hold =
    let parts = and_parts (handler_holds file units h) (list_all (handler_holds file units) hs) hold in
    let here = and_parts (nat_lt h.ty (count_at file type_ids)) (nat_lt h.to units) parts.0 in
    and_from (of_range r units (typed_catch n r h)) (list_all (of_range r units) (map (typed_catch n r) hs))
    (of_range_is r units (typed_catch n r h).ty h.to here.1) (typed_are n r file units hs parts.1)

last_are : (r : TryRange) (units : ℕ) (last : Option ℕ) → last_holds units last ≡ true → list_all (of_range r units) (last_catch r last) ≡ true
last_are r units None hold = refl
last_are r units (Some to) hold = and_from (of_range r units (record { from = r.from; to = end_of r; ty = None; at = to })) true (of_range_is r units None to hold) refl

-- the entries of a range rise, since all but the last catch a type
abbrev pub rises : (NameNo → List ℕ) → List Catch → Bool
rises text cs = ranges_rise (map (catch_content text) cs)

same_range : (text : NameNo → List ℕ) (n : Named) (r : TryRange) (h : Handler) (ty : Option NameNo) (to : ℕ)
    → follows (catch_content text (typed_catch n r h)) (catch_content text (record { from = r.from; to = end_of r; ty = ty; at = to })) ≡ true
same_range text n r h ty to =
    or_left ((r.from == r.from) && ((end_of r == end_of r) && true)) (nat_le (end_of r) r.from)
    (and_from (r.from == r.from) ((end_of r == end_of r) && true) (eq-eqb r.from r.from refl) (and_from (end_of r == end_of r) true (eq-eqb (end_of r) (end_of r) refl) refl))

last_rise : (text : NameNo → List ℕ) (n : Named) (r : TryRange) (h : Handler) (last : Option ℕ) → rises text (typed_catch n r h ∷ last_catch r last) ≡ true
last_rise text n r h None = refl
last_rise text n r h (Some to) = and_from (follows (catch_content text (typed_catch n r h)) (catch_content text (record { from = r.from; to = end_of r; ty = None; at = to }))) true (same_range text n r h None to) refl

list_rise : (text : NameNo → List ℕ) (n : Named) (r : TryRange) (typed : List Handler) (last : Option ℕ) → rises text (map (typed_catch n r) typed ++ last_catch r last) ≡ true
list_rise text n r [] None = refl
list_rise text n r [] (Some to) = refl
list_rise text n r (h ∷ []) last = last_rise text n r h last
list_rise text n r (h ∷ i ∷ hs) last =
    and_from (follows (catch_content text (typed_catch n r h)) (catch_content text (typed_catch n r i))) (rises text (map (typed_catch n r) (i ∷ hs) ++ last_catch r last))
    (same_range text n r h (typed_catch n r i).ty i.to) (list_rise text n r (i ∷ hs) last)

-- entries that are of a range, and rise
record OfRange (text : NameNo → List ℕ) (r : TryRange) (units : ℕ) (cs : List Catch) : Type 0 where
  are : list_all (of_range r units) cs ≡ true
  rise : rises text cs ≡ true

chosen : (text : NameNo → List ℕ) (r : TryRange) (units : ℕ) (b : Bool) (xs ys : List Catch) → OfRange text r units xs → OfRange text r units ys → OfRange text r units (if b then xs else ys)
chosen text r units true xs ys first second = first
chosen text r units false xs ys first second = second

range_is : (text : NameNo → List ℕ) (n : Named) (r : TryRange) (file : List ℕ) (units : ℕ) (lists : List HandlerList) (place : ℕ) → list_all (list_holds file units) lists ≡ true
    → OfRange text r units (range_catches n r lists place)
range_is text n r file units [] place hold = record { are = refl; rise = refl }
range_is text n r file units (l ∷ ls) place hold =
    let parts = and_parts (list_holds file units l) (list_all (list_holds file units) ls) hold in
    let here = and_parts (list_all (handler_holds file units) l.typed) (last_holds units l.last) parts.0 in
    chosen text r units (l.at == place) (map (typed_catch n r) l.typed ++ last_catch r l.last) (range_catches n r ls place) (record {
      are = append_all (of_range r units) (map (typed_catch n r) l.typed) (last_catch r l.last) (typed_are n r file units l.typed here.0) (last_are r units l.last here.1);
      rise = list_rise text n r l.typed l.last;
    }) (range_is text n r file units ls place parts.1)

-- entries that end no later than others begin stand before them
joined : (text : NameNo → List ℕ) (middle : ℕ) (xs ys : List Catch) → rises text xs ≡ true → rises text ys ≡ true
    → list_all (λ (c : Catch). nat_le c.to middle) xs ≡ true → list_all (λ (c : Catch). nat_le middle c.from) ys ≡ true → rises text (xs ++ ys) ≡ true
joined text middle [] ys first second ends begin = second
joined text middle (x ∷ []) [] first second ends begin = refl
joined text middle (x ∷ []) (y ∷ ys) first second ends begin =
    let end = leb-true x.to middle ((and_parts (nat_le x.to middle) true ends).0) in
    let next = leb-true middle y.from ((and_parts (nat_le middle y.from) (list_all (λ (c : Catch). nat_le middle c.from) ys) begin).0) in
    and_from (follows (catch_content text x) (catch_content text y)) (rises text (y ∷ ys))
    (or_right ((x.from == y.from) && ((x.to == y.to) && is_some (catch_content text x).ty)) (nat_le x.to y.from) (le-leb x.to y.from (omega arith))) second
joined text middle (x ∷ z ∷ xs) ys first second ends begin =
    let parts = and_parts (follows (catch_content text x) (catch_content text z)) (rises text (z ∷ xs)) first in
    let others = and_parts (nat_le x.to middle) (list_all (λ (c : Catch). nat_le c.to middle) (z ∷ xs)) ends in
    and_from (follows (catch_content text x) (catch_content text z)) (rises text ((z ∷ xs) ++ ys)) parts.0 (joined text middle (z ∷ xs) ys parts.1 second others.1 begin)

-- entries that fit, rise, and begin no earlier than a unit
pub record CatchesFit (text : NameNo → List ℕ) (units low : ℕ) (cs : List Catch) : Type 0 where
  pub fit : list_all (λ (c : Catch). catch_fits units (catch_content text c)) cs ≡ true
  pub rise : rises text cs ≡ true
  pub behind : list_all (λ (c : Catch). nat_le low c.from) cs ≡ true

-- what an entry of a range keeps
record EntryFits (r : TryRange) (units : ℕ) (c : Catch) : Type 0 where
  from : c.from ≡ r.from
  to : c.to ≡ end_of r
  at : c.at < units

entry_fits : (r : TryRange) (units : ℕ) (c : Catch) → of_range r units c ≡ true → EntryFits r units c
entry_fits r units c h =
    let parts = and_parts (c.from == r.from) ((c.to == end_of r) && nat_lt c.at units) h in
    let others = and_parts (c.to == end_of r) (nat_lt c.at units) parts.1 in
    record { from = eqb-true c.from r.from parts.0; to = eqb-true c.to (end_of r) others.0; at = ltb-true c.at units others.1 }

entry_in_code : (text : NameNo → List ℕ) (r : TryRange) (units : ℕ) → end_of r ≤ units → (c : Catch) → of_range r units c ≡ true → catch_fits units (catch_content text c) ≡ true
entry_in_code text r units le c h =
    let is = entry_fits r units c h in
    let from : c.from ≡ r.from = is.from in
    let to : c.to ≡ r.from + r.size = is.to in
    and_from (nat_le c.from c.to) (nat_le c.to units && nat_lt c.at units) (le-leb c.from c.to (omega arith))
    (and_from (nat_le c.to units) (nat_lt c.at units) (le-leb c.to units (omega arith)) (lt-ltb c.at units is.at))

-- the entries of a range before those of later ones
range_before : (text : NameNo → List ℕ) (r : TryRange) (units low : ℕ) (xs ys : List Catch) → low ≤ r.from → end_of r ≤ units → OfRange text r units xs → CatchesFit text units (end_of r) ys
    → CatchesFit text units low (xs ++ ys)
range_before text r units low xs ys le inside here others = record {
  fit = append_all (λ (c : Catch). catch_fits units (catch_content text c)) xs ys (all_more (of_range r units) (λ (c : Catch). catch_fits units (catch_content text c)) (entry_in_code text r units inside) xs here.are) others.fit;
  rise = joined text (end_of r) xs ys here.rise others.rise (all_more (of_range r units) (λ (c : Catch). nat_le c.to (end_of r)) ends xs here.are) others.behind;
  behind = append_all (λ (c : Catch). nat_le low c.from) xs ys (all_more (of_range r units) (λ (c : Catch). nat_le low c.from) begins xs here.are)
      (all_more (λ (c : Catch). nat_le (end_of r) c.from) (λ (c : Catch). nat_le low c.from) further ys others.behind);
}
  where
    ends : (c : Catch) → of_range r units c ≡ true → nat_le c.to (end_of r) ≡ true
    ends c h = let to = (entry_fits r units c h).to in le-leb c.to (end_of r) (omega arith)

    begins : (c : Catch) → of_range r units c ≡ true → nat_le low c.from ≡ true
    begins c h = let from = (entry_fits r units c h).from in le-leb low c.from (omega arith)

    further : (c : Catch) → nat_le (end_of r) c.from ≡ true → nat_le low c.from ≡ true
    further c h = let back = leb-true (end_of r) c.from h in le-leb low c.from (omega arith)

catches_from : (text : NameNo → List ℕ) (n : Named) (at : ℕ) (head : CodeHead) (lists : List HandlerList) → RangesKept n.file at head lists
    → (low i count : ℕ) → i + count ≤ head.tries → (0 < count → low ≤ (try_range n.file (tries_at at head) i).from)
    → CatchesFit text head.units low (flat_map (catches_at n at head lists) (tabulation (λ k. k) i count))
catches_from text n at head lists kept low i zero few le = record { fit = refl; rise = refl; behind = refl }
catches_from text n at head lists kept low i (suc count) few le =
    let r : TryRange = try_range n.file (tries_at at head) i in
    range_before text r head.units low (catches_at n at head lists i) (flat_map (catches_at n at head lists) (tabulation (λ k. k) (i + 1) count))
    (le (omega arith)) (range_ends n.file (tries_at at head) head.units head.tries kept.ranges i (omega arith))
    (range_is text n r n.file head.units lists (lists_at at head + r.handlers) kept.lists)
    (catches_from text n at head lists kept (end_of r) (i + 1) count (omega arith)
    (λ some. range_follows n.file (tries_at at head) head.units head.tries kept.ranges i (omega arith)))

pub catches_fit : (text : NameNo → List ℕ) (n : Named) (at : ℕ) (head : CodeHead) (lists : List HandlerList) → RangesKept n.file at head lists
    → CatchesFit text head.units 0 (catches_of n at head (Some lists))
catches_fit text n at head lists kept = catches_from text n at head lists kept 0 0 head.tries (omega arith) (λ some. omega arith)
