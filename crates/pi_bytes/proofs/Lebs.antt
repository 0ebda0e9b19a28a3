-- What stands at the front of bytes, by what reading a leb128 number gave.
use Rattle.std.proofs.Common.{◌≡◌, ℕ, zero, suc, ◌+◌, ◌-◌, ◌*◌, ◌%◌, ◌<◌, ◌≤◌, List, [], ◌∷◌, ◌++◌, length, take, Result, Ok, Err, true, false, refl, sym, ap, arith, add-one, length-append, length-drop}
use Rattle.std.specs.Prelude.{ℤ, pos, ◌+ℤ◌, ◌*ℤ◌, nat_lt, if◌then◌else◌, All, Bool, IfOk, OnOk, ◌↔◌}
use Rattle.std.proofs.lemmas.Bool.Decides.{nat_tests}
use Rattle.std.proofs.lemmas.List.{length-take-le}
use Rattle.std.proofs.lemmas.List.Elements.{All-nil, All-cons, All-head, All-tail}
use Rattle.pi_bytes.specs.declared.fault.ReadFault.{ReadFault}
use Rattle.pi_bytes.specs.declared.fault.ReadFault.TheVariants.{Short, LongLeb}
use Rattle.pi_bytes.specs.Reading.{◌>>=◌, Gives, reading_at}
use Rattle.pi_bytes.specs.Leb.{ends_uleb, ends_sleb, uleb_by, last_signed, sleb_by, sevens, signed_sevens, IsWhole, EndsInside, IsTooLong, uleb_at, sleb_at}
use Rattle.pi_bytes.specs.Place.{Place, bytes_from, place_behind, bytes_between}

-- a byte that says that another follows
pub goes_on : (b : ℕ) → 128 ≤ b → nat_lt b 128 ≡ false
goes_on b h = grind (arith, nat_tests)

-- what stands there in each outcome
abbrev pub Stands : {A : Type 0} → (ℕ → Bool) → ℕ → List ℕ → Result (A × ℕ) ReadFault → Type 0
Stands ends more bytes (Ok x) = (x.1 ≤ length bytes) × IsWhole ends more (take x.1 bytes)
Stands ends more bytes (Err Short) = EndsInside more bytes
Stands ends more bytes (Err LongLeb) = IsTooLong ends more bytes

-- one last byte
alone : (ends : ℕ → Bool) (more b : ℕ) → b < 128 → (0 ≡ more → ends b ≡ true) → IsWhole ends more (b ∷ [])
alone ends more b lt fits = record {
  front = [];
  last = b;
  parts = refl;
  go_on = All-nil (λ c. 128 ≤ c);
  is_last = lt;
  few = omega arith;
  fits = fits;
}

-- one byte more before the rest
longer : (ends : ℕ → Bool) (more b n : ℕ) (rest : List ℕ) → 128 ≤ b → IsWhole ends more (take n rest)
    → IsWhole ends (suc more) (take (n + 1) (b ∷ rest))
longer ends more b n rest high w = rw (add-one n) (record {
  front = b ∷ w.front;
  last = w.last;
  parts = ap (λ (bs : List ℕ). b ∷ bs) w.parts;
  go_on = All-cons (λ c. 128 ≤ c) b w.front high w.go_on;
  is_last = w.is_last;
  few = omega (arith, w.few);
  fits = λ e. w.fits (omega arith);
})

inside_more : (more b : ℕ) (rest : List ℕ) → 128 ≤ b → EndsInside more rest → EndsInside (suc more) (b ∷ rest)
inside_more more b rest high w = record {
  go_on = All-cons (λ c. 128 ≤ c) b rest high w.go_on;
  few = omega (arith, w.few);
}

long_more : (ends : ℕ → Bool) (more b : ℕ) (rest : List ℕ) → 128 ≤ b → IsTooLong ends more rest → IsTooLong ends (suc more) (b ∷ rest)
long_more ends more b rest high w = record {
  front = b ∷ w.front;
  last = w.last;
  rest = w.rest;
  parts = ap (λ (bs : List ℕ). b ∷ bs) w.parts;
  go_on = All-cons (λ c. 128 ≤ c) b w.front high w.go_on;
  full = ap suc w.full;
  wrong = w.wrong;
}

nothing : (more : ℕ) → EndsInside more []
nothing more = record { go_on = All-nil (λ c. 128 ≤ c); few = omega arith }

-- the last of as many bytes as may stand
last_stands : {A : Type 0} (ends : ℕ → Bool) (b : ℕ) (rest : List ℕ) (x : A) (fits : Bool) → ends b ≡ fits
    → (ends b ≡ true → b < 128)
    → Stands ends zero (b ∷ rest) (if fits then Ok (x, 1) else Err LongLeb)
last_stands ends b rest x true e small = (omega arith, alone ends zero b (small e) (λ _. e))
last_stands ends b rest x false e small = record {
  front = [];
  last = b;
  rest = rest;
  parts = refl;
  go_on = All-nil (λ c. 128 ≤ c);
  full = refl;
  wrong = e;
}

-- a byte of which it is tested whether another follows
more_stands : {A : Type 0} (ends : ℕ → Bool) (more b : ℕ) (rest : List ℕ) (x : A) (f : A → A) (t : Result (A × ℕ) ReadFault) (low : Bool)
    → nat_lt b 128 ≡ low → Stands ends more rest t
    → Stands ends (suc more) (b ∷ rest) (if low then Ok (x, 1) else (t >>= (λ above. Ok (f above.0, above.1 + 1))))
more_stands ends more b rest x f t true e h = (omega arith, alone ends (suc more) b (grind (arith, nat_tests)) (λ z. absurd (omega arith)))
more_stands ends more b rest x f (Ok y) false e h =
    (omega (arith, h.0), longer ends more b y.1 rest (grind (arith, nat_tests)) h.1)
more_stands ends more b rest x f (Err Short) false e h = inside_more more b rest (grind (arith, nat_tests)) h
more_stands ends more b rest x f (Err LongLeb) false e h = long_more ends more b rest (grind (arith, nat_tests)) h

small_uleb : (b : ℕ) → ends_uleb b ≡ true → b < 128
small_uleb b e = grind (arith, nat_tests)

small_sleb : (b : ℕ) → ends_sleb b ≡ true → b < 128
small_sleb b e = grind (arith, nat_tests)

pub uleb_stands : (more : ℕ) (bytes : List ℕ) → Stands ends_uleb more bytes (uleb_by more bytes)
uleb_stands zero [] = nothing zero
uleb_stands (suc more) [] = nothing (suc more)
uleb_stands zero (b ∷ rest) = last_stands ends_uleb b rest b (ends_uleb b) refl (small_uleb b)
uleb_stands (suc more) (b ∷ rest) =
    more_stands ends_uleb more b rest b (λ above. b % 128 + 128 * above) (uleb_by more rest) (nat_lt b 128) refl (uleb_stands more rest)

pub sleb_stands : (more : ℕ) (bytes : List ℕ) → Stands ends_sleb more bytes (sleb_by more bytes)
sleb_stands zero [] = nothing zero
sleb_stands (suc more) [] = nothing (suc more)
sleb_stands zero (b ∷ rest) = last_stands ends_sleb b rest (last_signed b) (ends_sleb b) refl (small_sleb b)
sleb_stands (suc more) (b ∷ rest) =
    more_stands ends_sleb more b rest (last_signed b) (λ above. pos (b % 128) +ℤ (pos 128 *ℤ above)) (sleb_by more rest) (nat_lt b 128) refl (sleb_stands more rest)

-- and the other way
uleb_short_by : (more : ℕ) (bytes : List ℕ) → All (λ b. 128 ≤ b) bytes → length bytes ≤ more → uleb_by more bytes ≡ Err Short
uleb_short_by zero [] all few = refl
uleb_short_by (suc more) [] all few = refl
uleb_short_by zero (b ∷ rest) all few = absurd (omega arith)
uleb_short_by (suc more) (b ∷ rest) all few =
    rw (goes_on b (All-head (λ c. 128 ≤ c) b rest all), uleb_short_by more rest (All-tail (λ c. 128 ≤ c) b rest all) (omega arith)) refl

sleb_short_by : (more : ℕ) (bytes : List ℕ) → All (λ b. 128 ≤ b) bytes → length bytes ≤ more → sleb_by more bytes ≡ Err Short
sleb_short_by zero [] all few = refl
sleb_short_by (suc more) [] all few = refl
sleb_short_by zero (b ∷ rest) all few = absurd (omega arith)
sleb_short_by (suc more) (b ∷ rest) all few =
    rw (goes_on b (All-head (λ c. 128 ≤ c) b rest all), sleb_short_by more rest (All-tail (λ c. 128 ≤ c) b rest all) (omega arith)) refl

uleb_long_by : (front : List ℕ) (last : ℕ) (rest : List ℕ) → All (λ b. 128 ≤ b) front → ends_uleb last ≡ false
    → uleb_by (length front) (front ++ last ∷ rest) ≡ Err LongLeb
uleb_long_by [] last rest all wrong = rw wrong refl
uleb_long_by (b ∷ front) last rest all wrong =
    rw (goes_on b (All-head (λ c. 128 ≤ c) b front all), uleb_long_by front last rest (All-tail (λ c. 128 ≤ c) b front all) wrong) refl

sleb_long_by : (front : List ℕ) (last : ℕ) (rest : List ℕ) → All (λ b. 128 ≤ b) front → ends_sleb last ≡ false
    → sleb_by (length front) (front ++ last ∷ rest) ≡ Err LongLeb
sleb_long_by [] last rest all wrong = rw wrong refl
sleb_long_by (b ∷ front) last rest all wrong =
    rw (goes_on b (All-head (λ c. 128 ≤ c) b front all), sleb_long_by front last rest (All-tail (λ c. 128 ≤ c) b front all) wrong) refl

long_uleb_by : (bytes : List ℕ) → IsTooLong ends_uleb 4 bytes → uleb_by 4 bytes ≡ Err LongLeb
long_uleb_by bytes w = rw (w.parts, sym w.full) (uleb_long_by w.front w.last w.rest w.go_on w.wrong)

long_sleb_by : (bytes : List ℕ) → IsTooLong ends_sleb 4 bytes → sleb_by 4 bytes ≡ Err LongLeb
long_sleb_by bytes w = rw (w.parts, sym w.full) (sleb_long_by w.front w.last w.rest w.go_on w.wrong)

-- what was read is the number of the bytes that it takes
abbrev pub IsRead : {A : Type 0} → (List ℕ → A) → List ℕ → Result (A × ℕ) ReadFault → Type 0
IsRead value bytes (Ok x) = x.0 ≡ value (take x.1 bytes)
IsRead value bytes (Err fault) = Unit {0}

low_is : (b : ℕ) → b < 128 → b ≡ b % 128 + 128 * 0
low_is b h = omega arith

uleb_last : (b : ℕ) (rest : List ℕ) (fits : Bool) → ends_uleb b ≡ fits
    → IsRead sevens (b ∷ rest) (if fits then Ok (b, 1) else Err LongLeb)
uleb_last b rest true e = low_is b (small_uleb b e)
uleb_last b rest false e = tt

uleb_more : (b : ℕ) (rest : List ℕ) (t : Result (ℕ × ℕ) ReadFault) (low : Bool) → nat_lt b 128 ≡ low → IsRead sevens rest t
    → IsRead sevens (b ∷ rest) (if low then Ok (b, 1) else (t >>= (λ above. Ok (b % 128 + 128 * above.0, above.1 + 1))))
uleb_more b rest t true e h = low_is b (grind (arith, nat_tests))
uleb_more b rest (Ok y) false e h = rw (add-one y.1) (ap (λ (v : ℕ). b % 128 + 128 * v) h)
uleb_more b rest (Err fault) false e h = tt

uleb_read : (more : ℕ) (bytes : List ℕ) → IsRead sevens bytes (uleb_by more bytes)
uleb_read zero [] = tt
uleb_read (suc more) [] = tt
uleb_read zero (b ∷ rest) = uleb_last b rest (ends_uleb b) refl
uleb_read (suc more) (b ∷ rest) = uleb_more b rest (uleb_by more rest) (nat_lt b 128) refl (uleb_read more rest)

sleb_last : (b : ℕ) (rest : List ℕ) (fits : Bool) → IsRead signed_sevens (b ∷ rest) (if fits then Ok (last_signed b, 1) else Err LongLeb)
sleb_last b rest true = refl
sleb_last b rest false = tt

pub signed_more : (b : ℕ) (bytes : List ℕ) → 1 ≤ length bytes
    → signed_sevens (b ∷ bytes) ≡ pos (b % 128) +ℤ (pos 128 *ℤ signed_sevens bytes)
signed_more b [] h = absurd (omega arith)
signed_more b (c ∷ rest) h = refl

some_whole : (ends : ℕ → Bool) (more : ℕ) (bytes : List ℕ) → IsWhole ends more bytes → 1 ≤ length bytes
some_whole ends more bytes w = omega (arith, length-append w.front (w.last ∷ []), ap length w.parts)

sleb_more_read : (more b : ℕ) (rest : List ℕ) (t : Result (ℤ × ℕ) ReadFault) (low : Bool)
    → Stands ends_sleb more rest t → IsRead signed_sevens rest t
    → IsRead signed_sevens (b ∷ rest) (if low then Ok (last_signed b, 1) else (t >>= (λ above. Ok (pos (b % 128) +ℤ (pos 128 *ℤ above.0), above.1 + 1))))
sleb_more_read more b rest t true s h = refl
sleb_more_read more b rest (Ok y) false s h =
    rw (add-one y.1, signed_more b (take y.1 rest) (some_whole ends_sleb more (take y.1 rest) s.1)) (ap (λ (v : ℤ). pos (b % 128) +ℤ (pos 128 *ℤ v)) h)
sleb_more_read more b rest (Err fault) false s h = tt

sleb_read : (more : ℕ) (bytes : List ℕ) → IsRead signed_sevens bytes (sleb_by more bytes)
sleb_read zero [] = tt
sleb_read (suc more) [] = tt
sleb_read zero (b ∷ rest) = sleb_last b rest (ends_sleb b)
sleb_read (suc more) (b ∷ rest) =
    sleb_more_read more b rest (sleb_by more rest) (nat_lt b 128) (sleb_stands more rest) (sleb_read more rest)

between-behind : (n : ℕ) (p : Place) → bytes_between p (place_behind n p) ≡ take n (bytes_from p)
between-behind n p =
    let same : p.at + n - p.at ≡ n = omega arith in
    rw same refl

inside_of : (n : ℕ) (p : Place) → p.at ≤ length p.bytes → n ≤ length (bytes_from p) → p.at + n ≤ length p.bytes
inside_of n p within few = omega (arith, length-drop p.at p.bytes)

-- what a call that moves behind what was read answers
ok_value : {A : Type 0} (p q : Place) (y : A × ℕ) (x : A) → reading_at p (Ok y) ≡ Ok (x, q) → y.0 ≡ x
ok_value {A} p q y x e =
    let same : (y.0, place_behind y.1 p) ≡ (x, q) = cc in
    ap (λ (r : A × Place). r.0) same

ok_place : {A : Type 0} (p q : Place) (y : A × ℕ) (x : A) → reading_at p (Ok y) ≡ Ok (x, q) → place_behind y.1 p ≡ q
ok_place {A} p q y x e =
    let same : (y.0, place_behind y.1 p) ≡ (x, q) = cc in
    ap (λ (r : A × Place). r.1) same

between-ok : {A : Type 0} (p q : Place) (y : A × ℕ) (x : A) → reading_at p (Ok y) ≡ Ok (x, q) → bytes_between p q ≡ take y.1 (bytes_from p)
between-ok p q y x e = rw (← ok_place p q y x e) (between-behind y.1 p)

value_of : {A : Type 0} (value : List ℕ → A) (p q : Place) (t : Result (A × ℕ) ReadFault) (r : Result A ReadFault)
    → IsRead value (bytes_from p) t → Gives (λ (x : A). x) (reading_at p t) q r → IfOk r (λ x. x ≡ value (bytes_between p q))
value_of value p q (Ok y) (Ok x) read e = rw (between-ok p q y x e, ← ok_value p q y x e) read
value_of value p q (Err f) (Ok x) read e = cc
value_of value p q (Ok y) (Err f) read e = tt
value_of value p q (Err g) (Err f) read e = tt

whole_of : {A : Type 0} (ends : ℕ → Bool) (more : ℕ) (p q : Place) (t : Result (A × ℕ) ReadFault) (r : Result A ReadFault)
    → Stands ends more (bytes_from p) t → Gives (λ (x : A). x) (reading_at p t) q r → OnOk r (IsWhole ends more (bytes_between p q))
whole_of ends more p q (Ok y) (Ok x) read e = rw (between-ok p q y x e) read.1
whole_of ends more p q (Err f) (Ok x) read e = cc
whole_of ends more p q (Ok y) (Err f) read e = tt
whole_of ends more p q (Err g) (Err f) read e = tt

moved_of : {A : Type 0} (ends : ℕ → Bool) (more : ℕ) (p q : Place) (t : Result (A × ℕ) ReadFault) (r : Result A ReadFault)
    → Stands ends more (bytes_from p) t → Gives (λ (x : A). x) (reading_at p t) q r → OnOk r (q ≡ place_behind (length (bytes_between p q)) p)
moved_of ends more p q (Ok y) (Ok x) read e =
    rw (between-ok p q y x e, length-take-le y.1 (bytes_from p) read.0) (sym (ok_place p q y x e))
moved_of ends more p q (Err f) (Ok x) read e = cc
moved_of ends more p q (Ok y) (Err f) read e = tt
moved_of ends more p q (Err g) (Err f) read e = tt

-- the fault is that of the reading
fault_of : {A : Type 0} (p q : Place) (t : Result (A × ℕ) ReadFault) (r : Result A ReadFault) (fault : ReadFault)
    → Gives (λ (x : A). x) (reading_at p t) q r → (r ≡ Err fault → t ≡ Err fault) × (t ≡ Err fault → r ≡ Err fault)
fault_of p q (Ok y) (Ok x) fault e = (λ h. cc, λ h. cc)
fault_of p q (Err f) (Ok x) fault e = (λ h. cc, λ h. cc)
fault_of p q (Ok y) (Err f) fault e = (λ h. cc, λ h. cc)
fault_of p q (Err g) (Err f) fault e = (λ h. cc, λ h. cc)

pub uleb_gives : (p q : Place) (bytes : List ℕ) (t : Result (ℕ × ℕ) ReadFault) (r : Result ℕ ReadFault)
    → t ≡ uleb_by 4 bytes → bytes ≡ bytes_from p → Gives (λ (x : ℕ). x) (reading_at p t) q r → Gives (λ (x : ℕ). x) (uleb_at p) q r
unfolding uleb_at
uleb_gives p q bytes t r e f h = rw (e, f) at h

pub uleb_value : (p q : Place) (r : Result ℕ ReadFault) → Gives (λ (x : ℕ). x) (uleb_at p) q r
    → IfOk r (λ x. x ≡ sevens (bytes_between p q))
unfolding uleb_at
uleb_value p q r e = value_of sevens p q (uleb_by 4 (bytes_from p)) r (uleb_read 4 (bytes_from p)) e

pub uleb_whole : (p q : Place) (r : Result ℕ ReadFault) → Gives (λ (x : ℕ). x) (uleb_at p) q r
    → OnOk r (IsWhole ends_uleb 4 (bytes_between p q))
unfolding uleb_at
uleb_whole p q r e = whole_of ends_uleb 4 p q (uleb_by 4 (bytes_from p)) r (uleb_stands 4 (bytes_from p)) e

pub uleb_moved : (p q : Place) (r : Result ℕ ReadFault) → Gives (λ (x : ℕ). x) (uleb_at p) q r
    → OnOk r (q ≡ place_behind (length (bytes_between p q)) p)
unfolding uleb_at
uleb_moved p q r e = moved_of ends_uleb 4 p q (uleb_by 4 (bytes_from p)) r (uleb_stands 4 (bytes_from p)) e

pub uleb_short : (p q : Place) (r : Result ℕ ReadFault) → Gives (λ (x : ℕ). x) (uleb_at p) q r
    → (r ≡ Err Short) ↔ EndsInside 4 (bytes_from p)
unfolding uleb_at
uleb_short p q r e =
    let same = fault_of p q (uleb_by 4 (bytes_from p)) r Short e in
    (λ h. rw (same.0 h) at (uleb_stands 4 (bytes_from p)), λ w. same.1 (uleb_short_by 4 (bytes_from p) w.go_on w.few))

pub uleb_long : (p q : Place) (r : Result ℕ ReadFault) → Gives (λ (x : ℕ). x) (uleb_at p) q r
    → (r ≡ Err LongLeb) ↔ IsTooLong ends_uleb 4 (bytes_from p)
unfolding uleb_at
uleb_long p q r e =
    let same = fault_of p q (uleb_by 4 (bytes_from p)) r LongLeb e in
    (λ h. rw (same.0 h) at (uleb_stands 4 (bytes_from p)), λ w. same.1 (long_uleb_by (bytes_from p) w))

pub sleb_gives : (p q : Place) (bytes : List ℕ) (t : Result (ℤ × ℕ) ReadFault) (r : Result ℤ ReadFault)
    → t ≡ sleb_by 4 bytes → bytes ≡ bytes_from p → Gives (λ (x : ℤ). x) (reading_at p t) q r → Gives (λ (x : ℤ). x) (sleb_at p) q r
unfolding sleb_at
sleb_gives p q bytes t r e f h = rw (e, f) at h

pub sleb_value : (p q : Place) (r : Result ℤ ReadFault) → Gives (λ (x : ℤ). x) (sleb_at p) q r
    → IfOk r (λ x. x ≡ signed_sevens (bytes_between p q))
unfolding sleb_at
sleb_value p q r e = value_of signed_sevens p q (sleb_by 4 (bytes_from p)) r (sleb_read 4 (bytes_from p)) e

pub sleb_whole : (p q : Place) (r : Result ℤ ReadFault) → Gives (λ (x : ℤ). x) (sleb_at p) q r
    → OnOk r (IsWhole ends_sleb 4 (bytes_between p q))
unfolding sleb_at
sleb_whole p q r e = whole_of ends_sleb 4 p q (sleb_by 4 (bytes_from p)) r (sleb_stands 4 (bytes_from p)) e

pub sleb_moved : (p q : Place) (r : Result ℤ ReadFault) → Gives (λ (x : ℤ). x) (sleb_at p) q r
    → OnOk r (q ≡ place_behind (length (bytes_between p q)) p)
unfolding sleb_at
sleb_moved p q r e = moved_of ends_sleb 4 p q (sleb_by 4 (bytes_from p)) r (sleb_stands 4 (bytes_from p)) e

pub sleb_short : (p q : Place) (r : Result ℤ ReadFault) → Gives (λ (x : ℤ). x) (sleb_at p) q r
    → (r ≡ Err Short) ↔ EndsInside 4 (bytes_from p)
unfolding sleb_at
sleb_short p q r e =
    let same = fault_of p q (sleb_by 4 (bytes_from p)) r Short e in
    (λ h. rw (same.0 h) at (sleb_stands 4 (bytes_from p)), λ w. same.1 (sleb_short_by 4 (bytes_from p) w.go_on w.few))

pub sleb_long : (p q : Place) (r : Result ℤ ReadFault) → Gives (λ (x : ℤ). x) (sleb_at p) q r
    → (r ≡ Err LongLeb) ↔ IsTooLong ends_sleb 4 (bytes_from p)
unfolding sleb_at
sleb_long p q r e =
    let same = fault_of p q (sleb_by 4 (bytes_from p)) r LongLeb e in
    (λ h. rw (same.0 h) at (sleb_stands 4 (bytes_from p)), λ w. same.1 (long_sleb_by (bytes_from p) w))

pub short_uleb : (p : Place) → EndsInside 4 (bytes_from p) → uleb_at p ≡ Err Short
unfolding uleb_at
short_uleb p w = rw (uleb_short_by 4 (bytes_from p) w.go_on w.few) refl

pub long_uleb : (p : Place) → IsTooLong ends_uleb 4 (bytes_from p) → uleb_at p ≡ Err LongLeb
unfolding uleb_at
long_uleb p w = rw (long_uleb_by (bytes_from p) w) refl

pub short_sleb : (p : Place) → EndsInside 4 (bytes_from p) → sleb_at p ≡ Err Short
unfolding sleb_at
short_sleb p w = rw (sleb_short_by 4 (bytes_from p) w.go_on w.few) refl

pub long_sleb : (p : Place) → IsTooLong ends_sleb 4 (bytes_from p) → sleb_at p ≡ Err LongLeb
unfolding sleb_at
long_sleb p w = rw (long_sleb_by (bytes_from p) w) refl
