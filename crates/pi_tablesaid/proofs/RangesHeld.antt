-- The ranges and the lists of handlers of a code hold in the file where they hold in the tables.
use Rattle.std.proofs.Common.{◌≡◌, ℕ, zero, suc, ◌+◌, ◌-◌, ◌<◌, ◌≤◌, List, [], ◌∷◌, length, get_or, map, Option, Some, None, true, false, refl, ap, subst, length-append, arith}
use Rattle.std.specs.Prelude.{◌==◌, ◌&&◌, nat_lt, nat_le, All, slice_index}
use Rattle.std.specs.List.{list_all}
use Rattle.std.proofs.lemmas.Bool.{and_parts, and_from, or_right, eq-eqb, lt-ltb, le-leb, leb-true}
use Rattle.std.proofs.lemmas.Bool.Decides.{nat_tests}
use Rattle.std.proofs.lemmas.List.Elements.{All-head, All-tail}
use Rattle.std.proofs.lemmas.Option.{slice_get-get_or}
use Rattle.pi_format.specs.Tables.{count_at, type_ids}
use Rattle.pi_format.specs.Rules.CodeItems.{TryRange, handler_holds, try_range, tries_at, lists_at, range_holds, is_list_at, ranges_have_lists, ranges_hold}
use Rattle.pi_parts.specs.Parts.{offsets}
use Rattle.pi_parts.specs.Lebs.{uleb_bytes}
use Rattle.pi_parts.proofs.ReadBack.{few_sleb, few_negative}
use Rattle.pi_dextables.specs.declared.tables.Body.{Body}
use Rattle.pi_dextables.specs.declared.tables.Catch.{Catch}
use Rattle.pi_dextables.specs.declared.tables.Catches.{Catches}
use Rattle.pi_dextables.specs.declared.tables.Range.{Range}
use Rattle.pi_dextables.specs.declared.tables.Tables.{Tables}
use Rattle.pi_dextables.specs.Codes.{size_bytes, catches_bytes, list_places, list_place, read_handler, read_lists}
use Rattle.pi_dextables.specs.Said.{last_holds, handlers_hold, head_of, first_list, BodySaid}
use Rattle.pi_dextables.specs.Writable.{RangeFits}
use Rattle.pi_dextables.proofs.Each.{each_true}
use Rattle.pi_tablesaid.specs.Closed.{IsType}
use Rattle.pi_tablesaid.specs.Kept.{range_end, ranges_lie, last_stands, handlers_stand}

-- a list has bytes
size_some : (n : ℕ) (last : Option ℕ) → 0 < length (size_bytes n last)
size_some n None = (few_sleb n).0
size_some n (Some to) = (few_negative n).0

catches_some : (l : Catches) → 0 < length (catches_bytes l)
unfolding catches_bytes
catches_some l = simp length-append (omega (arith, size_some (length l.typed) l.last))

-- one of the lists stands at the place of each number of a list
list_found : (base : ℕ) (lists : List Catches) (at offset k : ℕ) → at ≡ base + offset → k < length lists
    → is_list_at (read_lists at lists) (base + slice_index (offsets catches_bytes offset lists) k) ≡ true
list_found base [] at offset k e lt = absurd (omega arith)
list_found base (l ∷ lists) at offset zero e lt =
    let some : (length (catches_bytes l) == 0) ≡ false = (let long = catches_some l in grind (arith, nat_tests)) in
    let here : (at == base + offset) ≡ true = eq-eqb at (base + offset) e in
    rw (some, here) refl
list_found base (l ∷ lists) at offset (suc k) e lt =
    let n = length (catches_bytes l) in
    or_right (at == base + slice_index (offsets catches_bytes (offset + n) lists) k) _
    (list_found base lists (at + n) (offset + n) k (omega (arith, e)) (omega (arith, lt)))

abbrev no_range : Range
no_range = record { from = 0; size = 0; list = 0 }

-- the range of the file that has that number
abbrev read_range : List ℕ → ℕ → Body → ℕ → TryRange
read_range file at b k = try_range file (tries_at at (head_of b)) k

abbrev range_at : Body → ℕ → Range
range_at b k = get_or b.ranges k no_range

range_read : (file : List ℕ) (at : ℕ) (b : Body) → BodySaid file at b → (k : ℕ) → k < length b.ranges
    → read_range file at b k ≡ record { from = (range_at b k).from; size = (range_at b k).size; handlers = list_place b.lists (range_at b k).list }
range_read file at b body k lt = body.ranges k (range_at b k) (slice_get-get_or b.ranges k no_range lt)

pub ranges_found : (file : List ℕ) (at : ℕ) (b : Body) → BodySaid file at b → All (RangeFits b.lists) b.ranges
    → ranges_have_lists file at (head_of b) (read_lists (first_list b at) b.lists) ≡ true
unfolding list_places
ranges_found file at b body fits =
    each_true (λ k. is_list_at (read_lists (first_list b at) b.lists) (lists_at at (head_of b) + (read_range file at b k).handlers)) (length b.ranges) by_range
  where
    by_range : (k : ℕ) → k < length b.ranges → is_list_at (read_lists (first_list b at) b.lists) (lists_at at (head_of b) + (read_range file at b k).handlers) ≡ true
    by_range k lt =
        let place : (read_range file at b k).handlers ≡ list_place b.lists (range_at b k).list = ap (λ (r : TryRange). r.handlers) (range_read file at b body k lt) in
        rw place
        (list_found (lists_at at (head_of b)) b.lists (first_list b at) (length (uleb_bytes (length b.lists))) (range_at b k).list refl (fits k no_range lt).list)

-- ranges that lie in the code, one behind the other
range_ends : (units before : ℕ) (rs : List Range) → ranges_lie units before rs ≡ true → (k : ℕ) → k < length rs → range_end (get_or rs k no_range) ≤ units
range_ends units before [] e k lt = absurd (omega arith)
range_ends units before (r ∷ rs) e k lt =
    let a = and_parts (nat_le before r.from) (nat_le (range_end r) units && ranges_lie units (range_end r) rs) e in
    let b = and_parts (nat_le (range_end r) units) (ranges_lie units (range_end r) rs) a.1 in
    by_number k lt (leb-true (range_end r) units b.0) (range_ends units (range_end r) rs b.1)
  where
    by_number : (k : ℕ) → k < length (r ∷ rs) → range_end r ≤ units → ((j : ℕ) → j < length rs → range_end (get_or rs j no_range) ≤ units)
        → range_end (get_or (r ∷ rs) k no_range) ≤ units
    by_number zero lt here rest = here
    by_number (suc j) lt here rest = rest j (omega arith)

range_follows : (units before : ℕ) (rs : List Range) → ranges_lie units before rs ≡ true → (k : ℕ) → suc k < length rs
    → range_end (get_or rs k no_range) ≤ (get_or rs (suc k) no_range).from
range_follows units before [] e k lt = absurd (omega arith)
range_follows units before (r ∷ []) e k lt = absurd (omega arith)
range_follows units before (r ∷ s ∷ rs) e k lt =
    let a = and_parts (nat_le before r.from) (nat_le (range_end r) units && ranges_lie units (range_end r) (s ∷ rs)) e in
    let b = and_parts (nat_le (range_end r) units) (ranges_lie units (range_end r) (s ∷ rs)) a.1 in
    let c = and_parts (nat_le (range_end r) s.from) (nat_le (range_end s) units && ranges_lie units (range_end s) rs) b.1 in
    by_number k lt (leb-true (range_end r) s.from c.0) (range_follows units (range_end r) (s ∷ rs) b.1)
  where
    by_number : (k : ℕ) → suc k < length (r ∷ s ∷ rs) → range_end r ≤ s.from
        → ((j : ℕ) → suc j < length (s ∷ rs) → range_end (get_or (s ∷ rs) j no_range) ≤ (get_or (s ∷ rs) (suc j) no_range).from)
        → range_end (get_or (r ∷ s ∷ rs) k no_range) ≤ (get_or (r ∷ s ∷ rs) (suc k) no_range).from
    by_number zero lt here rest = here
    by_number (suc j) lt here rest = rest j (omega arith)

-- a range of the file holds by where it begins and ends
first_held : (file : List ℕ) (begin units : ℕ) → (try_range file begin 0).from + (try_range file begin 0).size ≤ units → range_holds file begin units 0 ≡ true
first_held file begin units le = and_from _ true (le-leb _ units le) refl

next_held : (file : List ℕ) (begin units k : ℕ) → (try_range file begin (suc k)).from + (try_range file begin (suc k)).size ≤ units
    → (try_range file begin k).from + (try_range file begin k).size ≤ (try_range file begin (suc k)).from → range_holds file begin units (suc k) ≡ true
next_held file begin units k le behind =
    let one_back : k ≡ suc k - 1 = omega arith in
    let last = subst (λ (j : ℕ). nat_le ((try_range file begin j).from + (try_range file begin j).size) (try_range file begin (suc k)).from ≡ true) one_back (le-leb _ _ behind) in
    and_from _ _ (le-leb _ units le) (or_right (suc k == 0) _ last)

pub ranges_held : (file : List ℕ) (at : ℕ) (b : Body) → BodySaid file at b → 0 < length b.ranges → ranges_lie (length b.units) 0 b.ranges ≡ true
    → ranges_hold file at (head_of b) ≡ true
ranges_held file at b body some lie =
    and_from _ _ (body.within some) (each_true (range_holds file (tries_at at (head_of b)) (length b.units)) (length b.ranges) by_range)
  where
    ends : (k : ℕ) → k < length b.ranges → (read_range file at b k).from + (read_range file at b k).size ≡ range_end (range_at b k)
    ends k lt = ap (λ (r : TryRange). r.from + r.size) (range_read file at b body k lt)

    begins : (k : ℕ) → k < length b.ranges → (read_range file at b k).from ≡ (range_at b k).from
    begins k lt = ap (λ (r : TryRange). r.from) (range_read file at b body k lt)

    by_range : (k : ℕ) → k < length b.ranges → range_holds file (tries_at at (head_of b)) (length b.units) k ≡ true
    by_range zero lt =
        let end = range_ends (length b.units) 0 b.ranges lie 0 lt in
        first_held file (tries_at at (head_of b)) (length b.units) (rw (ends 0 lt) end)
    by_range (suc k) lt =
        let end = range_ends (length b.units) 0 b.ranges lie (suc k) lt in
        let lt' : k < length b.ranges = omega arith in
        let behind = range_follows (length b.units) 0 b.ranges lie k lt in
        next_held file (tries_at at (head_of b)) (length b.units) k (rw (ends (suc k) lt) end) (rw (ends k lt', begins (suc k) lt) behind)

-- handlers of the tables that name types and stand in the code
typed_held : (file : List ℕ) (t : Tables) (units : ℕ) → count_at file type_ids ≡ length t.types → (hs : List Catch) → All (λ h. IsType t h.ty) hs
    → list_all (λ (h : Catch). nat_lt h.to units) hs ≡ true → list_all (handler_holds file units) (map read_handler hs) ≡ true
typed_held file t units types [] there stand = refl
typed_held file t units types (h ∷ hs) there stand =
    let a = and_parts (nat_lt h.to units) (list_all (λ (g : Catch). nat_lt g.to units) hs) stand in
    let ty : nat_lt h.ty (count_at file type_ids) ≡ true = (let lt = All-head (λ (g : Catch). IsType t g.ty) h hs there in rw types (lt-ltb h.ty (length t.types) lt)) in
    and_from _ _ (and_from _ _ ty a.0) (typed_held file t units types hs (All-tail (λ (g : Catch). IsType t g.ty) h hs there) a.1)

last_held : (units : ℕ) (last : Option ℕ) → last_stands units last ≡ true → last_holds units last ≡ true
last_held units None e = refl
last_held units (Some to) e = e

pub lists_held : (file : List ℕ) (t : Tables) (units : ℕ) → count_at file type_ids ≡ length t.types → (at : ℕ) (lists : List Catches)
    → All (λ (l : Catches). All (λ (h : Catch). IsType t h.ty) l.typed) lists → list_all (handlers_stand units) lists ≡ true
    → list_all (handlers_hold file units) (read_lists at lists) ≡ true
lists_held file t units types at [] there stand = refl
lists_held file t units types at (l ∷ lists) there stand =
    let P = λ (l : Catches). All (λ (h : Catch). IsType t h.ty) l.typed in
    let a = and_parts (handlers_stand units l) (list_all (handlers_stand units) lists) stand in
    let b = and_parts (list_all (λ (h : Catch). nat_lt h.to units) l.typed) (last_stands units l.last) a.0 in
    and_from _ _
    (and_from _ _ (typed_held file t units types l.typed (All-head P l lists there) b.0) (last_held units l.last b.1))
    (lists_held file t units types (at + length (catches_bytes l)) lists (All-tail P l lists there) a.1)
