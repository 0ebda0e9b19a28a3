-- Sums with a signed number modulo 2^32 are sums with its bits: distances from an address, and keys from the first one on.
use Rattle.std.proofs.Common.{◌≡◌, ℕ, suc, ◌+◌, ◌-◌, ◌*◌, ◌%◌, ◌^◌, ◌<◌, ◌≤◌, ℤ, pos, negsuc, Bool, true, false, nat_lt, refl, ◌∙◌, arith}
use Rattle.std.specs.Prelude.{◌+ℤ◌}
use Rattle.std.proofs.lemmas.Bool.{ltb-false}
use Rattle.std.proofs.lemmas.Int.{ints}
use Rattle.pi_insn.specs.Numbers.{signed_number}
use Rattle.pi_format.specs.Says.Insns.{word_of, target}
use Rattle.pi_classtables.specs.Forms.{distance_bits}

-- a whole number from -2^32 on
turned : (z : ℤ) (m : ℕ) → z +ℤ pos (2 ^ 32) ≡ pos m → word_of z ≡ m % 2 ^ 32
turned (pos n) m e =
    let is : n + 2 ^ 32 ≡ m = cc in
    omega arith
turned (negsuc n) m e =
    let is : m + suc n ≡ 2 ^ 32 = omega (arith, ints) in
    omega arith

-- the bits of a negative number, taken from an address or put below a number
below : (a d : ℕ) → 2147483648 ≤ d → d < 2 ^ 32 → pos a +ℤ negsuc (2 * 2147483648 - suc d) +ℤ pos (2 ^ 32) ≡ pos (a + d)
below a d le lt = omega (arith, ints)

above : (d k : ℕ) → 2147483648 ≤ d → d < 2 ^ 32 → negsuc (2 * 2147483648 - suc d) +ℤ pos k +ℤ pos (2 ^ 32) ≡ pos (d + k)
above d k le lt = omega (arith, ints)

pub target_sum : (a d : ℕ) → d < 2 ^ 32 → target a (signed_number 2147483648 d) ≡ (a + d) % 2 ^ 32
target_sum a d lt = by_test (nat_lt d 2147483648) refl
  where
    by_test : (b : Bool) → nat_lt d 2147483648 ≡ b → target a (signed_number 2147483648 d) ≡ (a + d) % 2 ^ 32
    by_test true e = rw e refl
    by_test false e = rw e (turned (pos a +ℤ negsuc (2 * 2147483648 - suc d)) (a + d) (below a d (ltb-false d 2147483648 e) lt))

pub key_sum : (d k : ℕ) → d < 2 ^ 32 → word_of (signed_number 2147483648 d +ℤ pos k) ≡ (d + k) % 2 ^ 32
key_sum d k lt = by_test (nat_lt d 2147483648) refl
  where
    by_test : (b : Bool) → nat_lt d 2147483648 ≡ b → word_of (signed_number 2147483648 d +ℤ pos k) ≡ (d + k) % 2 ^ 32
    by_test true e = rw e refl
    by_test false e = rw e (turned (negsuc (2 * 2147483648 - suc d) +ℤ pos k) (d + k) (above d k (ltb-false d 2147483648 e) lt))

-- the way to an address leads there
bits_there : (at to : ℕ) → at < 2 ^ 32 → to < 2 ^ 32 → (at + distance_bits at to) % 2 ^ 32 ≡ to
bits_there at to place end = omega arith

pub bits_fit : (at to : ℕ) → distance_bits at to < 2 ^ 32
bits_fit at to = omega arith

pub target_again : (at to : ℕ) → at < 2 ^ 32 → to < 2 ^ 32 → target at (signed_number 2147483648 (distance_bits at to)) ≡ to
target_again at to place end = target_sum at (distance_bits at to) (bits_fit at to) ∙ bits_there at to place end
