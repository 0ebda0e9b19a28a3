-- What a reader reads of a part that stands somewhere.
use Rattle.std.proofs.Common.{◌≡◌, ℕ, zero, suc, ◌+◌, ◌-◌, ◌*◌, ◌/◌, ◌%◌, ◌^◌, ◌<◌, ◌≤◌, List, [], ◌∷◌, ◌++◌, length, drop, Result, Ok, refl, sym, ap, ◌∙◌, length-append, append_assoc, arith}
use Rattle.std.specs.Prelude.{All, Bool, true, false, ℤ, pos, negsuc, ◌+ℤ◌, ◌*ℤ◌, nat_lt, nat_le, if◌then◌else◌}
use Rattle.std.proofs.lemmas.Int.{ints}
use Rattle.std.proofs.lemmas.Bool.Decides.{nat_tests}
use Rattle.byteorder.specs.Endian.{little_bytes, little_number}
use Rattle.byteorder.specs.Numbers.{little_number-reads_back}
use Rattle.std.specs.Int.{bytes_low_first}
use Rattle.pi_bytes.specs.Place.{Place, bytes_from}
use Rattle.pi_bytes.specs.Reading.{reading_at, number_at, ◌>>=◌}
use Rattle.pi_bytes.specs.Leb.{uleb_by, uleb_at, sleb_by, sleb_at, last_signed, ends_sleb}
use Rattle.pi_bytes.specs.Mutf8.{spellings, units_at}
use Rattle.pi_bytes.proofs.Laws.{units_again}
use Rattle.pi_bytes.specs.declared.fault.ReadFault.{ReadFault}
use Rattle.pi_parts.specs.Lebs.{uleb_in, uleb_bytes, sleb_in, sleb_bytes, negative_in, negative_bytes}
use Rattle.pi_parts.proofs.Stands.{Stands}

abbrev pub place : List ℕ → ℕ → Place
place file at = record { bytes = file; at = at }

-- wherever a part stands, a reader reads that there and goes behind it
abbrev pub ReadsOk : {X : Type 0} → (Place → Result (X × Place) ReadFault) → List ℕ → X → Type 0
ReadsOk reader part x = (file : List ℕ) (at : ℕ) → Stands file at part → reader (place file at) ≡ Ok (x, place file (at + length part))

-- numbers are below this, in which at most so many bytes stand before the last
abbrev reach : ℕ → ℕ
reach zero = 16
reach (suc more) = 128 * reach more

-- a byte before others
abbrev low_then : ℕ → Result (ℕ × ℕ) ReadFault → Result (ℕ × ℕ) ReadFault
low_then b r = if nat_lt b 128 then Ok (b, 1) else (r >>= (λ above. Ok (b % 128 + 128 * above.0, above.1 + 1)))

with_low : (b x : ℕ) (r : Result (ℕ × ℕ) ReadFault) (n : ℕ) → 128 ≤ b → b % 128 + 128 * (x / 128) ≡ x → r ≡ Ok (x / 128, n)
    → low_then b r ≡ Ok (x, suc n)
with_low b x r n le whole e =
    let high : nat_lt b 128 ≡ false = grind (arith, nat_tests) in
    let more : n + 1 ≡ suc n = omega arith in
    rw (high, e, whole, more) refl

uleb_step : (b : Bool) (more x : ℕ) (rest : List ℕ) → nat_lt x 128 ≡ b
    → uleb_by more (uleb_in more (x / 128) ++ rest) ≡ Ok (x / 128, length (uleb_in more (x / 128)))
    → uleb_by (suc more) ((if b then x ∷ [] else (x % 128 + 128) ∷ uleb_in more (x / 128)) ++ rest)
    ≡ Ok (x, length (if b then x ∷ [] else (x % 128 + 128) ∷ uleb_in more (x / 128)))
uleb_step true more x rest e above = rw e refl
uleb_step false more x rest e above =
    let parts : (x % 128 + 128) % 128 + 128 * (x / 128) ≡ x = omega arith in
    with_low (x % 128 + 128) x (uleb_by more (uleb_in more (x / 128) ++ rest)) (length (uleb_in more (x / 128))) (omega arith) parts above

uleb_back : (more x : ℕ) (rest : List ℕ) → x < reach more → uleb_by more (uleb_in more x ++ rest) ≡ Ok (x, length (uleb_in more x))
uleb_back zero x rest lt =
    let same : x % 16 ≡ x = omega (arith, lt) in
    rw same (grind (arith, nat_tests, lt))
uleb_back (suc more) x rest lt = uleb_step (nat_lt x 128) more x rest refl (uleb_back more (x / 128) rest (omega (arith, lt)))

read_back : {X : Type 0} (by : List ℕ → Result (X × ℕ) ReadFault) (part : List ℕ) (x : X) → ((rest : List ℕ) → by (part ++ rest) ≡ Ok (x, length part))
    → (file : List ℕ) (at : ℕ) → Stands file at part → reading_at (place file at) (by (bytes_from (place file at))) ≡ Ok (x, place file (at + length part))
read_back by part x back file at h = ap (λ z. reading_at (place file at) (by z)) h ∙ ap (reading_at (place file at)) (back (drop (at + length part) file))

pub uleb_reads : (x : ℕ) → x < 2 ^ 32 → ReadsOk uleb_at (uleb_bytes x) x
unfolding uleb_at uleb_bytes
uleb_reads x lt = read_back (uleb_by 4) (uleb_in 4 x) x (λ rest. uleb_back 4 x rest (omega (arith, lt)))

-- signed numbers
abbrev signed_reach : ℕ → ℕ
signed_reach zero = 8
signed_reach (suc more) = 128 * signed_reach more

last_pos : (n : ℕ) → n < 64 → last_signed n ≡ pos n
last_pos n lt = grind (arith, nat_tests)

ends_pos : (n : ℕ) → n < 8 → ends_sleb n ≡ true
ends_pos n lt = grind (arith, nat_tests)

sum_pos : (b n : ℕ) → b % 128 + 128 * (n / 128) ≡ n → pos (b % 128) +ℤ (pos 128 *ℤ pos (n / 128)) ≡ pos n
sum_pos b n e = omega (arith, ints, e)

abbrev signed_then : ℕ → Result (ℤ × ℕ) ReadFault → Result (ℤ × ℕ) ReadFault
signed_then b r = if nat_lt b 128 then Ok (last_signed b, 1) else (r >>= (λ y. Ok (pos (b % 128) +ℤ (pos 128 *ℤ y.0), y.1 + 1)))

with_signed : (b : ℕ) (r : Result (ℤ × ℕ) ReadFault) (above whole : ℤ) (n : ℕ) → 128 ≤ b → pos (b % 128) +ℤ (pos 128 *ℤ above) ≡ whole → r ≡ Ok (above, n)
    → signed_then b r ≡ Ok (whole, suc n)
with_signed b r above whole n le sum e =
    let high : nat_lt b 128 ≡ false = grind (arith, nat_tests) in
    let more : n + 1 ≡ suc n = omega arith in
    rw (high, e, sum, more) refl

last_byte : (b : ℕ) (r : Result (ℤ × ℕ) ReadFault) (whole : ℤ) → b < 128 → last_signed b ≡ whole → signed_then b r ≡ Ok (whole, 1)
last_byte b r whole lt e =
    let low : nat_lt b 128 ≡ true = grind (arith, nat_tests) in
    let same : signed_then b r ≡ Ok (last_signed b, 1) = ap (λ (t : Bool). if t then Ok (last_signed b, 1) else (r >>= (λ y. Ok (pos (b % 128) +ℤ (pos 128 *ℤ y.0), y.1 + 1)))) low in
    same ∙ ap (λ (k : ℤ). let pair : ℤ × ℕ = (k, 1) in Ok pair) e

sleb_step : (b : Bool) (more n : ℕ) (rest : List ℕ) → nat_lt n 64 ≡ b
    → sleb_by more (sleb_in more (n / 128) ++ rest) ≡ Ok (pos (n / 128), length (sleb_in more (n / 128)))
    → sleb_by (suc more) ((if b then n ∷ [] else (n % 128 + 128) ∷ sleb_in more (n / 128)) ++ rest)
    ≡ Ok (pos n, length (if b then n ∷ [] else (n % 128 + 128) ∷ sleb_in more (n / 128)))
sleb_step true more n rest e above =
    let low : n < 64 = grind (arith, nat_tests) in
    last_byte n (sleb_by more rest) (pos n) (omega arith) (last_pos n low)
sleb_step false more n rest e above =
    let parts : (n % 128 + 128) % 128 + 128 * (n / 128) ≡ n = omega arith in
    with_signed (n % 128 + 128) (sleb_by more (sleb_in more (n / 128) ++ rest)) (pos (n / 128)) (pos n) (length (sleb_in more (n / 128)))
    (omega arith) (sum_pos (n % 128 + 128) n parts) above

sleb_back : (more n : ℕ) (rest : List ℕ) → n < signed_reach more → sleb_by more (sleb_in more n ++ rest) ≡ Ok (pos n, length (sleb_in more n))
sleb_back zero n rest lt =
    let same : n % 8 ≡ n = omega (arith, lt) in
    rw (same, ends_pos n lt, last_pos n (omega (arith, lt))) refl
sleb_back (suc more) n rest lt = sleb_step (nat_lt n 64) more n rest refl (sleb_back more (n / 128) rest (omega (arith, lt)))

pub sleb_reads : (n : ℕ) → n < 2 ^ 31 → ReadsOk sleb_at (sleb_bytes n) (pos n)
unfolding sleb_at sleb_bytes
sleb_reads n lt = read_back (sleb_by 4) (sleb_in 4 n) (pos n) (λ rest. sleb_back 4 n rest (omega (arith, lt)))

last_negative : (n : ℕ) → n < 64 → last_signed ((128 - (n + 1)) % 128) ≡ negsuc n
last_negative n lt = grind (arith, nat_tests, ints)

ends_negative : (n : ℕ) → n < 8 → ends_sleb ((128 - (n + 1)) % 128) ≡ true
ends_negative n lt = grind (arith, nat_tests)

sum_negative : (r m n : ℕ) → r + (n + 1) ≡ 128 * (m + 1) → pos r +ℤ (pos 128 *ℤ negsuc m) ≡ negsuc n
sum_negative r m n e = omega (arith, ints, e)

negative_step : (b : Bool) (more n : ℕ) (rest : List ℕ) → nat_lt (n + 1) 65 ≡ b
    → sleb_by more (negative_in more (n / 128 + 1) ++ rest) ≡ Ok (negsuc (n / 128), length (negative_in more (n / 128 + 1)))
    → sleb_by (suc more) ((if b then (128 - (n + 1)) % 128 ∷ [] else ((128 - (n + 1) % 128) % 128 + 128) ∷ negative_in more ((n + 1 + 127) / 128)) ++ rest)
    ≡ Ok (negsuc n, length (if b then (128 - (n + 1)) % 128 ∷ [] else ((128 - (n + 1) % 128) % 128 + 128) ∷ negative_in more ((n + 1 + 127) / 128)))
negative_step true more n rest e above =
    let low : n < 64 = grind (arith, nat_tests) in
    last_byte ((128 - (n + 1)) % 128) (sleb_by more rest) (negsuc n) (omega arith) (last_negative n low)
negative_step false more n rest e above =
    let up : (n + 1 + 127) / 128 ≡ n / 128 + 1 = omega arith in
    let parts : ((128 - (n + 1) % 128) % 128 + 128) % 128 + (n + 1) ≡ 128 * (n / 128 + 1) = omega arith in
    with_signed ((128 - (n + 1) % 128) % 128 + 128) (sleb_by more (negative_in more ((n + 1 + 127) / 128) ++ rest)) (negsuc (n / 128)) (negsuc n)
    (length (negative_in more ((n + 1 + 127) / 128)))
    (omega arith) (sum_negative (((128 - (n + 1) % 128) % 128 + 128) % 128) (n / 128) n parts) (rw up above)

negative_back : (more n : ℕ) (rest : List ℕ) → n < signed_reach more
    → sleb_by more (negative_in more (n + 1) ++ rest) ≡ Ok (negsuc n, length (negative_in more (n + 1)))
negative_back zero n rest lt =
    let same : (n + 1) % 16 ≡ n + 1 = omega (arith, lt) in
    rw (same, ends_negative n lt, last_negative n (omega (arith, lt))) refl
negative_back (suc more) n rest lt = negative_step (nat_lt (n + 1) 65) more n rest refl (negative_back more (n / 128) rest (omega (arith, lt)))

pub negative_reads : (n : ℕ) → n < 2 ^ 31 → ReadsOk sleb_at (negative_bytes (n + 1)) (negsuc n)
unfolding sleb_at negative_bytes
negative_reads n lt = read_back (sleb_by 4) (negative_in 4 (n + 1)) (negsuc n) (λ rest. negative_back 4 n rest (omega (arith, lt)))

-- numbers of whole bytes
long_little : (i n x : ℕ) → length (bytes_low_first i n x) ≡ n
long_little i zero x = refl
long_little i (suc n) x = ap suc (long_little (suc i) n x)

little_back : (n x : ℕ) (rest : List ℕ) → x < 256 ^ n → little_number n (little_bytes n x ++ rest) ≡ x
little_back n x rest lt = little_number-reads_back n x rest lt

pub number_reads : (n x : ℕ) → x < 256 ^ n → ReadsOk (number_at n) (little_bytes n x) x
number_reads n x lt file at h =
    let part = little_bytes n x in
    let rest = drop (at + length part) file in
    let long : length part ≡ n = long_little 0 n x in
    let all : length (drop at file) ≡ n + length rest = ap length h ∙ (length-append part rest ∙ ap (λ k. k + length rest) long) in
    let fits : nat_le n (length (drop at file)) ≡ true = grind (arith, nat_tests) in
    let value : little_number n (drop at file) ≡ x = ap (little_number n) h ∙ little_back n x rest lt in
    let end : at + n ≡ at + length part = ap (λ k. at + k) (sym long) in
    rw (fits, value, end) refl

-- how long leb128 numbers are
uleb_size : (b : Bool) (x more : ℕ) (others : List ℕ) → (0 < length others) × (length others ≤ more + 1)
    → (0 < length (if b then x ∷ [] else (x % 128 + 128) ∷ others)) × (length (if b then x ∷ [] else (x % 128 + 128) ∷ others) ≤ suc more + 1)
uleb_size true x more others r = (omega arith, omega arith)
uleb_size false x more others r = (omega arith, omega (arith, r.1))

uleb_long : (more x : ℕ) → (0 < length (uleb_in more x)) × (length (uleb_in more x) ≤ more + 1)
uleb_long zero x = (omega arith, omega arith)
uleb_long (suc more) x = uleb_size (nat_lt x 128) x more (uleb_in more (x / 128)) (uleb_long more (x / 128))

pub few_uleb : (x : ℕ) → (0 < length (uleb_bytes x)) × (length (uleb_bytes x) ≤ 5)
unfolding uleb_bytes
few_uleb x = uleb_long 4 x

sleb_size : (b : Bool) (x more : ℕ) (others : List ℕ) → (0 < length others) × (length others ≤ more + 1)
    → (0 < length (if b then x ∷ [] else (x % 128 + 128) ∷ others)) × (length (if b then x ∷ [] else (x % 128 + 128) ∷ others) ≤ suc more + 1)
sleb_size true x more others r = (omega arith, omega arith)
sleb_size false x more others r = (omega arith, omega (arith, r.1))

sleb_long : (more x : ℕ) → (0 < length (sleb_in more x)) × (length (sleb_in more x) ≤ more + 1)
sleb_long zero x = (omega arith, omega arith)
sleb_long (suc more) x = sleb_size (nat_lt x 64) x more (sleb_in more (x / 128)) (sleb_long more (x / 128))

pub few_sleb : (x : ℕ) → (0 < length (sleb_bytes x)) × (length (sleb_bytes x) ≤ 5)
unfolding sleb_bytes
few_sleb x = sleb_long 4 x

negative_size : (b : Bool) (x more : ℕ) (others : List ℕ) → (0 < length others) × (length others ≤ more + 1)
    → (0 < length (if b then (128 - x) % 128 ∷ [] else ((128 - x % 128) % 128 + 128) ∷ others)) × (length (if b then (128 - x) % 128 ∷ [] else ((128 - x % 128) % 128 + 128) ∷ others) ≤ suc more + 1)
negative_size true x more others r = (omega arith, omega arith)
negative_size false x more others r = (omega arith, omega (arith, r.1))

negative_long : (more x : ℕ) → (0 < length (negative_in more x)) × (length (negative_in more x) ≤ more + 1)
negative_long zero x = (omega arith, omega arith)
negative_long (suc more) x = negative_size (nat_lt x 65) x more (negative_in more ((x + 127) / 128)) (negative_long more ((x + 127) / 128))

pub few_negative : (x : ℕ) → (0 < length (negative_bytes x)) × (length (negative_bytes x) ≤ 5)
unfolding negative_bytes
few_negative x = negative_long 4 x

-- a text
pub text_reads : (units file : List ℕ) (at : ℕ) → All (λ u. u < 2 ^ 16) units → Stands file at (spellings units ++ 0 ∷ [])
    → units_at (length units) (drop at file) ≡ Ok (units, length (spellings units))
text_reads units file at all h = rw (h, append_assoc (spellings units) (0 ∷ []) (drop (at + length (spellings units ++ 0 ∷ [])) file)) (units_again units (drop (at + length (spellings units ++ 0 ∷ [])) file) all)
