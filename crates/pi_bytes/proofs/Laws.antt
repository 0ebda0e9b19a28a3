-- Laws of MUTF-8: what is written is read again, and what is read is spelled so.
use Rattle.std.proofs.Common.{◌≡◌, ◌≢◌, ℕ, zero, suc, ◌+◌, ◌^◌, ◌<◌, ◌≤◌, List, [], ◌∷◌, ◌++◌, length, drop, Option, Some, None, Result, Ok, Err, true, false, refl, sym, ap, ◌∙◌, arith, append_assoc, subst, length-append, add-zero, zero-add}
use Rattle.std.specs.Prelude.{All, nat_lt, nat_le, ◌==◌, ◌&&◌, Bool, if◌then◌else◌}
use Rattle.std.proofs.lemmas.Bool.Decides.{nat_tests}
use Rattle.std.proofs.lemmas.List.{drop_at}
use Rattle.std.proofs.lemmas.List.Elements.{All-nil, All-cons, All-head, All-tail}
use Rattle.pi_bytes.specs.Mutf8.{spelling, spellings, two_of, three_of, unit_at, ends_text, with_front, after_unit, units_from, units_at, Spells, Stops}

-- a unit that is spelled is read
pub unit_again : (u : ℕ) (rest : List ℕ) → u < 65536 → unit_at (spelling u ++ rest) ≡ Some (u, length (spelling u))
unit_again u rest lt = grind (arith, nat_tests)

two_spelled : (a b : ℕ) (x : ℕ × ℕ) → 192 ≤ a → a < 224 → two_of a b ≡ Some x → spelling x.0 ≡ a ∷ b ∷ []
two_spelled a b x low high e = grind (arith, nat_tests)

three_spelled : (a b c : ℕ) (x : ℕ × ℕ) → 224 ≤ a → a < 240 → three_of a b c ≡ Some x → spelling x.0 ≡ a ∷ b ∷ c ∷ []
three_spelled a b c x low high e = grind (arith, nat_tests)

-- the unit that was read, its bytes and their number
pub record IsUnit (bytes : List ℕ) (x : ℕ × ℕ) : Type 0 where
  pub small : x.0 < 2 ^ 16
  pub spelt : bytes ≡ spelling x.0 ++ drop x.1 bytes
  pub taken : x.1 ≡ length (spelling x.0)

one_small : (a : ℕ) → 0 < a → a < 128 → spelling a ≡ a ∷ []
one_small a low high = grind (arith, nat_tests)

two_small : (a b : ℕ) (x : ℕ × ℕ) → two_of a b ≡ Some x → (x.0 < 65536) × (x.1 ≡ 2)
two_small a b x e = grind (arith, nat_tests)

three_small : (a b c : ℕ) (x : ℕ × ℕ) → three_of a b c ≡ Some x → (x.0 < 65536) × (x.1 ≡ 3)
three_small a b c x e = grind (arith, nat_tests)

is_one : (a : ℕ) (rest : List ℕ) → 0 < a → a < 128 → IsUnit (a ∷ rest) (a, 1)
is_one a rest low high = record {
  small = omega arith;
  spelt = rw (one_small a low high) refl;
  taken = rw (one_small a low high) refl;
}

is_two : (a b : ℕ) (rest : List ℕ) (x : ℕ × ℕ) → 192 ≤ a → a < 224 → two_of a b ≡ Some x → IsUnit (a ∷ b ∷ rest) x
is_two a b rest x low high e =
    let small = two_small a b x e in
    let same = two_spelled a b x low high e in
    record { small = small.0; spelt = rw (same, small.1) refl; taken = rw (same, small.1) refl }

is_three : (a b c : ℕ) (rest : List ℕ) (x : ℕ × ℕ) → 224 ≤ a → a < 240 → three_of a b c ≡ Some x → IsUnit (a ∷ b ∷ c ∷ rest) x
is_three a b c rest x low high e =
    let small = three_small a b c x e in
    let same = three_spelled a b c x low high e in
    record { small = small.0; spelt = rw (same, small.1) refl; taken = rw (same, small.1) refl }

some_is : (u v : ℕ × ℕ) → Some u ≡ Some v → u ≡ v
some_is u v e = cc

-- by the first byte
by_first : (a : ℕ) (rest : List ℕ) (x : ℕ × ℕ) (one two three : Bool)
    → (nat_lt 0 a && nat_lt a 128) ≡ one → (nat_le 192 a && nat_lt a 224) ≡ two → (nat_le 224 a && nat_lt a 240) ≡ three
    → unit_at (a ∷ rest) ≡ Some x → IsUnit (a ∷ rest) x
by_first a rest x true two three e f g h =
    let same = some_is (a, 1) x (rw e at h) in
    subst (λ (y : ℕ × ℕ). IsUnit (a ∷ rest) y) same (is_one a rest (grind (arith, nat_tests)) (grind (arith, nat_tests)))
by_first a [] x false true three e f g h = let no : None ≡ Some x = rw (e, f) at h in cc
by_first a (b ∷ rest) x false true three e f g h =
    is_two a b rest x (grind (arith, nat_tests)) (grind (arith, nat_tests)) (rw (e, f) at h)
by_first a [] x false false true e f g h = let no : None ≡ Some x = rw (e, f, g) at h in cc
by_first a (b ∷ []) x false false true e f g h = let no : None ≡ Some x = rw (e, f, g) at h in cc
by_first a (b ∷ c ∷ rest) x false false true e f g h =
    is_three a b c rest x (grind (arith, nat_tests)) (grind (arith, nat_tests)) (rw (e, f, g) at h)
by_first a rest x false false false e f g h = let no : None ≡ Some x = rw (e, f, g) at h in cc

-- a unit that is read is spelled so
pub unit_is : (bytes : List ℕ) (x : ℕ × ℕ) → unit_at bytes ≡ Some x → IsUnit bytes x
unit_is [] x e = cc
unit_is (a ∷ rest) x e = by_first a rest x (nat_lt 0 a && nat_lt a 128) (nat_le 192 a && nat_lt a 224) (nat_le 224 a && nat_lt a 240) refl refl refl e

-- one unit before others
spelled-cons : (u : ℕ) (us rest : List ℕ) → spellings (u ∷ us) ++ rest ≡ spelling u ++ (spellings us ++ rest)
spelled-cons u us rest = append_assoc (spelling u) (spellings us) rest

length-spelled-cons : (u : ℕ) (us : List ℕ) → length (spellings (u ∷ us)) ≡ length (spelling u) + length (spellings us)
length-spelled-cons u us = length-append (spelling u) (spellings us)

first_again : (n at u : ℕ) (rest : List ℕ) → u < 2 ^ 16
    → units_from (suc n) at (spelling u ++ rest) ≡ with_front (u ∷ []) (units_from n (at + length (spelling u)) rest)
first_again n at u rest lt = rw (unit_again u rest lt, drop_at (spelling u) rest (length (spelling u)) refl) refl

again_from : (units rest : List ℕ) (at : ℕ) → All (λ u. u < 2 ^ 16) units
    → units_from (length units) at (spellings units ++ 0 ∷ rest) ≡ Ok (units, at + length (spellings units))
again_from [] rest at all = ap (λ (n : ℕ). Ok ([], n)) (sym (add-zero at))
again_from (u ∷ us) rest at all =
    let more = again_from us rest (at + length (spelling u)) (All-tail (λ v. v < 2 ^ 16) u us all) in
    let place : at + length (spelling u) + length (spellings us) ≡ at + length (spellings (u ∷ us)) = omega (arith, length-spelled-cons u us) in
    rw (spelled-cons u us (0 ∷ rest), first_again (length us) at u (spellings us ++ 0 ∷ rest) (All-head (λ v. v < 2 ^ 16) u us all), more, place) refl

pub units_again : (units rest : List ℕ) → All (λ u. u < 2 ^ 16) units
    → units_at (length units) (spellings units ++ 0 ∷ rest) ≡ Ok (units, length (spellings units))
unfolding units_at
units_again units rest all = rw (again_from units rest 0 all, zero-add (length (spellings units))) refl

-- what stands behind a place in each outcome
pub record Stopped (count : ℕ) (bytes : List ℕ) (at i : ℕ) : Type 0 where
  pub taken : ℕ
  pub place : i ≡ at + taken
  pub stops : Stops count bytes taken

pub record Read (count : ℕ) (bytes : List ℕ) (at : ℕ) (x : List ℕ × ℕ) : Type 0 where
  pub counted : length x.0 ≡ count
  pub place : x.1 ≡ at + length (spellings x.0)
  pub spells : Spells x.0 bytes

abbrev pub Reads : ℕ → List ℕ → ℕ → Result (List ℕ × ℕ) ℕ → Type 0
Reads count bytes at (Ok x) = Read count bytes at x
Reads count bytes at (Err i) = Stopped count bytes at i

text_ends : (at : ℕ) (bytes : List ℕ) (b : Bool) → ends_text bytes ≡ b → Reads zero bytes at (if b then Ok ([], at) else Err at)
text_ends at [] true e = cc
text_ends at (b ∷ rest) true e =
    let zero_is : b ≡ 0 = grind (arith, nat_tests) in
    record {
      counted = refl;
      place = sym (add-zero at);
      spells = record { are_units = All-nil (λ u. u < 2 ^ 16); rest = rest; spelt = rw zero_is refl };
    }
text_ends at bytes false e = record {
  taken = 0;
  place = sym (add-zero at);
  stops = record {
    units = [];
    are_units = All-nil (λ u. u < 2 ^ 16);
    few = omega arith;
    before = refl;
    rest = bytes;
    spelt = refl;
    no_unit = λ lt. absurd (omega arith);
    no_end = λ same behind f. not_both (ends_text bytes) e (ap ends_text f);
  };
}
  where
    not_both : (b : Bool) → b ≡ false → b ≡ true → ⊥
    not_both b f t = cc

no_unit_here : (n at : ℕ) (bytes : List ℕ) → unit_at bytes ≡ None → Stopped (suc n) bytes at at
no_unit_here n at bytes e = record {
  taken = 0;
  place = sym (add-zero at);
  stops = record {
    units = [];
    are_units = All-nil (λ u. u < 2 ^ 16);
    few = omega arith;
    before = refl;
    rest = bytes;
    spelt = refl;
    no_unit = λ lt u behind small f. none_some bytes (u, length (spelling u)) e (ap unit_at f ∙ unit_again u behind small);
    no_end = λ same. absurd (omega arith);
  };
}
  where
    none_some : (bytes : List ℕ) (x : ℕ × ℕ) → unit_at bytes ≡ None → unit_at bytes ≡ Some x → ⊥
    none_some bytes x f t = cc

-- a unit and what was read behind it
spelt_more : (bytes : List ℕ) (x : ℕ × ℕ) (us rest : List ℕ) → IsUnit bytes x → drop x.1 bytes ≡ spellings us ++ rest
    → bytes ≡ spellings (x.0 ∷ us) ++ rest
spelt_more bytes x us rest u e = u.spelt ∙ ap (λ (bs : List ℕ). spelling x.0 ++ bs) e ∙ sym (spelled-cons x.0 us rest)

place_more : (at : ℕ) (x : ℕ × ℕ) (us : List ℕ) (bytes : List ℕ) → IsUnit bytes x
    → at + x.1 + length (spellings us) ≡ at + length (spellings (x.0 ∷ us))
place_more at x us bytes u = omega (arith, u.taken, length-spelled-cons x.0 us)

reads_more : (n at : ℕ) (bytes : List ℕ) (x : ℕ × ℕ) (t : Result (List ℕ × ℕ) ℕ) → IsUnit bytes x
    → Reads n (drop x.1 bytes) (at + x.1) t → Reads (suc n) bytes at (with_front (x.0 ∷ []) t)
reads_more n at bytes x (Ok y) u w = record {
  counted = ap suc w.counted;
  place = w.place ∙ place_more at x y.0 bytes u;
  spells = record {
    are_units = All-cons (λ v. v < 2 ^ 16) x.0 y.0 u.small w.spells.are_units;
    rest = w.spells.rest;
    spelt = spelt_more bytes x y.0 (0 ∷ w.spells.rest) u w.spells.spelt;
  };
}
reads_more n at bytes x (Err i) u w = record {
  taken = x.1 + w.taken;
  place = omega (arith, w.place);
  stops = record {
    units = x.0 ∷ w.stops.units;
    are_units = All-cons (λ v. v < 2 ^ 16) x.0 w.stops.units u.small w.stops.are_units;
    few = omega (arith, w.stops.few);
    before = omega (arith, u.taken, w.stops.before, length-spelled-cons x.0 w.stops.units);
    rest = w.stops.rest;
    spelt = spelt_more bytes x w.stops.units w.stops.rest u w.stops.spelt;
    no_unit = λ lt. w.stops.no_unit (omega arith);
    no_end = λ same. w.stops.no_end (omega arith);
  };
}

reads_unit : (n at : ℕ) (bytes : List ℕ) (o : Option (ℕ × ℕ)) → unit_at bytes ≡ o
    → ((k : ℕ) → Reads n (drop k bytes) (at + k) (units_from n (at + k) (drop k bytes)))
    → Reads (suc n) bytes at (after_unit at o (λ u k. with_front (u ∷ []) (units_from n (at + k) (drop k bytes))))
reads_unit n at bytes None e later = no_unit_here n at bytes e
reads_unit n at bytes (Some x) e later =
    reads_more n at bytes x (units_from n (at + x.1) (drop x.1 bytes)) (unit_is bytes x e) (later x.1)

reads : (count at : ℕ) (bytes : List ℕ) → Reads count bytes at (units_from count at bytes)
reads zero at bytes = text_ends at bytes (ends_text bytes) refl
reads (suc n) at bytes = reads_unit n at bytes (unit_at bytes) refl (λ k. reads n (at + k) (drop k bytes))

read_of : (count : ℕ) (bytes units : List ℕ) (at : ℕ) → units_at count bytes ≡ Ok (units, at) → Read count bytes 0 (units, at)
unfolding units_at
read_of count bytes units at e = rw e at (reads count 0 bytes)

pub units_counted : (count : ℕ) (bytes units : List ℕ) (at : ℕ) → units_at count bytes ≡ Ok (units, at) → length units ≡ count
units_counted count bytes units at e = (read_of count bytes units at e).counted

pub units_spelled : (count : ℕ) (bytes units : List ℕ) (at : ℕ) → units_at count bytes ≡ Ok (units, at) → Spells units bytes
units_spelled count bytes units at e = (read_of count bytes units at e).spells

pub units_before : (count : ℕ) (bytes units : List ℕ) (at : ℕ) → units_at count bytes ≡ Ok (units, at) → at ≡ length (spellings units)
units_before count bytes units at e = omega (arith, (read_of count bytes units at e).place)

pub bad_stops : (count : ℕ) (bytes : List ℕ) (at : ℕ) → units_at count bytes ≡ Err at → Stops count bytes at
unfolding units_at
bad_stops count bytes at e =
    let read : Stopped count bytes 0 at = rw e at (reads count 0 bytes) in
    let same : read.taken ≡ at = omega (arith, read.place) in
    subst (Stops count bytes) same read.stops

-- and the other way: at such a place reading stops
ends_not : (bytes : List ℕ) → ((behind : List ℕ) → bytes ≢ 0 ∷ behind) → ends_text bytes ≡ false
ends_not [] h = refl
ends_not (b ∷ rest) h = by_test (b == 0) refl
  where
    by_test : (t : Bool) → (b == 0) ≡ t → t ≡ false
    by_test false e = refl
    by_test true e = absurd (h rest (ap (λ (c : ℕ). c ∷ rest) (grind (arith, nat_tests))))

none_at : (bytes : List ℕ) → ((u : ℕ) (behind : List ℕ) → u < 2 ^ 16 → bytes ≢ spelling u ++ behind) → unit_at bytes ≡ None
none_at bytes h = by_unit (unit_at bytes) refl
  where
    by_unit : (o : Option (ℕ × ℕ)) → unit_at bytes ≡ o → o ≡ None
    by_unit None e = refl
    by_unit (Some x) e = let u = unit_is bytes x e in absurd (h x.0 (drop x.1 bytes) u.small u.spelt)

stops_from : (units rest : List ℕ) (count at : ℕ) → All (λ u. u < 2 ^ 16) units → length units ≤ count
    → (length units < count → (u : ℕ) (behind : List ℕ) → u < 2 ^ 16 → rest ≢ spelling u ++ behind)
    → (length units ≡ count → (behind : List ℕ) → rest ≢ 0 ∷ behind)
    → units_from count at (spellings units ++ rest) ≡ Err (at + length (spellings units))
stops_from [] rest zero at all few no_unit no_end = rw (ends_not rest (no_end refl), add-zero at) refl
stops_from [] rest (suc n) at all few no_unit no_end = rw (none_at rest (no_unit (omega arith)), add-zero at) refl
stops_from (u ∷ us) rest zero at all few no_unit no_end = absurd (omega arith)
stops_from (u ∷ us) rest (suc n) at all few no_unit no_end =
    let more = stops_from us rest n (at + length (spelling u)) (All-tail (λ v. v < 2 ^ 16) u us all) (omega arith) (λ lt. no_unit (omega arith)) (λ same. no_end (omega arith)) in
    let place : at + length (spelling u) + length (spellings us) ≡ at + length (spellings (u ∷ us)) = omega (arith, length-spelled-cons u us) in
    rw (spelled-cons u us rest, first_again n at u (spellings us ++ rest) (All-head (λ v. v < 2 ^ 16) u us all), more, place) refl

pub stops_bad : (count : ℕ) (bytes : List ℕ) (at : ℕ) → Stops count bytes at → units_at count bytes ≡ Err at
unfolding units_at
stops_bad count bytes at w =
    rw (w.spelt, w.before, stops_from w.units w.rest count 0 w.are_units w.few w.no_unit w.no_end, zero-add (length (spellings w.units))) refl
