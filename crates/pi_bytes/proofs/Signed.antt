-- How far from 0 a signed number of few bytes can be.
use Rattle.std.proofs.Common.{◌≡◌, ℕ, zero, suc, ◌+◌, ◌-◌, ◌*◌, ◌%◌, ◌<◌, ◌≤◌, List, [], ◌∷◌, length, get_or, drop, Result, Ok, Err, false, refl, arith}
use Rattle.std.specs.Prelude.{ℤ, pos, neg_ℤ, ◌+ℤ◌, ◌*ℤ◌, ◌≤ℤ◌, ◌<ℤ◌, nat_lt, if◌then◌else◌}
use mir.Syntax.{w32}
use mir.Val.{to_z, of_z}
use Rattle.std.proofs.lemmas.Int.{ints}
use Rattle.std.proofs.lemmas.Bool.Decides.{nat_tests}
use Rattle.pi_bytes.specs.Numbers.{most_bytes}
use Rattle.pi_bytes.specs.declared.fault.ReadFault.{ReadFault}
use Rattle.pi_bytes.specs.declared.fault.ReadFault.TheVariants.{LongLeb}
use Rattle.pi_bytes.specs.Reading.{◌>>=◌}
use Rattle.pi_bytes.specs.Leb.{ends_sleb, last_signed, sleb_by}

-- how far from 0 a signed number can be in which at most that many bytes stand before the last
abbrev pub reach : ℕ → ℕ
reach zero = 8
reach (suc n) = 128 * reach n

-- a number that was read is nearer to 0 than that
abbrev pub InReach : ℕ → Result (ℤ × ℕ) ReadFault → Type 0
InReach r (Ok x) = (neg_ℤ (pos r) ≤ℤ x.0) × (x.0 <ℤ pos r)
InReach r (Err fault) = Unit {0}

pub reach_least : (n : ℕ) → 8 ≤ reach n
reach_least zero = omega arith
reach_least (suc n) = omega (arith, reach_least n)

pub reach_most : (n : ℕ) → n ≤ 3 → reach n ≤ most_bytes
reach_most zero h = omega arith
reach_most (suc zero) h = omega arith
reach_most (suc (suc zero)) h = omega arith
reach_most (suc (suc (suc zero))) h = omega arith
reach_most (suc (suc (suc (suc n)))) h = absurd (omega arith)

last_low : (b : ℕ) → b < 128 → neg_ℤ (pos 64) ≤ℤ last_signed b
last_low b h = grind (arith, nat_tests, ints)

last_high : (b : ℕ) → b < 128 → last_signed b <ℤ pos 64
last_high b h = grind (arith, nat_tests, ints)

step_last : (b : ℕ) → InReach 8 (if ends_sleb b then Ok (last_signed b, 1) else Err LongLeb)
step_last b = grind (arith, nat_tests, ints)

step : (b r : ℕ) (t : Result (ℤ × ℕ) ReadFault) → 8 ≤ r → InReach r t
    → InReach (128 * r) (if nat_lt b 128 then Ok (last_signed b, 1) else (t >>= (λ above. Ok (pos (b % 128) +ℤ (pos 128 *ℤ above.0), above.1 + 1))))
step b r (Ok y) least h = grind (arith, nat_tests, ints)
step b r (Err fault) least h = grind (arith, nat_tests, ints)

pub in_reach : (more : ℕ) (bytes : List ℕ) → InReach (reach more) (sleb_by more bytes)
in_reach zero [] = tt
in_reach (suc more) [] = tt
in_reach zero (b ∷ rest) = step_last b
in_reach (suc more) (b ∷ rest) = step b (reach more) (sleb_by more rest) (reach_least more) (in_reach more rest)

-- the number above a byte, where at most four stand before the last
pub above_fits : (more : ℕ) (bytes : List ℕ) (x : ℤ × ℕ) → 0 < more → more ≤ 4 → sleb_by (more - 1) bytes ≡ Ok x
    → (neg_ℤ (pos most_bytes) ≤ℤ x.0) × (x.0 <ℤ pos most_bytes)
above_fits more bytes x some few e =
    let least = reach_most (more - 1) (omega arith) in
    let near : InReach (reach (more - 1)) (Ok x) = rw e at (in_reach (more - 1) bytes) in
    (omega (arith, ints, near.0), omega (arith, ints, near.1))

suc_less : (n : ℕ) → suc n - 1 ≡ n
suc_less n = omega arith

-- a byte before the last
pub sleb_more : (more : ℕ) (bytes : List ℕ) (x : ℤ × ℕ) → 0 < more → 1 ≤ length bytes → 128 ≤ get_or bytes 0 0
    → sleb_by (more - 1) (drop 1 bytes) ≡ Ok x
    → sleb_by more bytes ≡ Ok (pos (get_or bytes 0 0 % 128) +ℤ (pos 128 *ℤ x.0), x.1 + 1)
sleb_more zero bytes x some long high e = absurd (omega arith)
sleb_more (suc more) [] x some long high e = absurd (omega arith)
sleb_more (suc more) (b ∷ rest) x some long high e =
    let same : sleb_by more rest ≡ Ok x = rw (suc_less more) at e in
    let no : nat_lt b 128 ≡ false = grind (arith, nat_tests) in
    rw (no, same) refl

-- a sum of 32 bits is the sum
pub summed : (low : ℕ) (above : ℤ) → low < 128 → neg_ℤ (pos most_bytes) ≤ℤ above → above <ℤ pos most_bytes
    → to_z w32 (of_z w32 (to_z w32 low +ℤ to_z w32 (of_z w32 (pos 128 *ℤ to_z w32 (of_z w32 above)))))
    ≡ pos low +ℤ (pos 128 *ℤ above)
summed low above bound least most = omega (arith, ints)
