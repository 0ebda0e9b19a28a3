-- The sign of a number of so many bytes, and how large such a number is.
use Rattle.std.proofs.Common.{◌≡◌, ◌≢◌, ℕ, zero, suc, ◌+◌, ◌*◌, ◌^◌, ◌<◌, ◌≤◌, refl, arith}
use Rattle.std.proofs.Math.Nat.{one-le-pow, pow-le-pow_right}

pub last_sign : (arg : ℕ) → arg < 8 → arg ≢ 0 → arg ≢ 1 → arg ≢ 2 → arg ≢ 3 → arg ≢ 4 → arg ≢ 5 → arg ≢ 6 → 2 ^ 63 ≡ 2 ^ (8 * arg + 7)
last_sign arg lt a b c d e f g = let is : arg ≡ 7 = omega arith in rw is refl

pub word_sign : (arg : ℕ) → arg < 4 → 2 ^ (8 * arg + 7) ≤ 2 ^ 31
word_sign arg lt =
    let some : 0 < 2 = omega arith in
    let le : 8 * arg + 7 ≤ 31 = omega (arith, lt) in
    pow-le-pow_right some le

pub long_sign : (arg : ℕ) → arg < 8 → 2 ^ (8 * arg + 7) ≤ 2 ^ 63
long_sign arg lt =
    let some : 0 < 2 = omega arith in
    let le : 8 * arg + 7 ≤ 63 = omega (arith, lt) in
    pow-le-pow_right some le

pub some_sign : (arg : ℕ) → arg < 8 → 1 ≤ 2 ^ (8 * arg + 7)
some_sign arg lt = one-le-pow (8 * arg + 7) 2 (omega arith)

-- a number of so many bytes is below twice their sign
pub two_signs : (arg n : ℕ) → arg < 8 → n < 256 ^ (arg + 1) → n < 2 * 2 ^ (8 * arg + 7)
two_signs zero n lt e = omega (arith, e)
two_signs (suc zero) n lt e = omega (arith, e)
two_signs (suc (suc zero)) n lt e = omega (arith, e)
two_signs (suc (suc (suc zero))) n lt e = omega (arith, e)
two_signs (suc (suc (suc (suc zero)))) n lt e = omega (arith, e)
two_signs (suc (suc (suc (suc (suc zero))))) n lt e = omega (arith, e)
two_signs (suc (suc (suc (suc (suc (suc zero)))))) n lt e = omega (arith, e)
two_signs (suc (suc (suc (suc (suc (suc (suc zero))))))) n lt e = omega (arith, e)
two_signs (suc (suc (suc (suc (suc (suc (suc (suc arg)))))))) n lt e = absurd (omega arith)

pub small_word : (arg n : ℕ) → arg < 4 → n < 256 ^ (arg + 1) → n < 2 ^ 32
small_word arg n lt e = omega (arith, two_signs arg n (omega (arith, lt)) e, word_sign arg lt)
