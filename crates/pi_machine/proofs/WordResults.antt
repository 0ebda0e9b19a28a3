-- Results of arithmetic on words and longs are words and longs.
use Rattle.std.proofs.Common.{◌≡◌, ℕ, zero, suc, List, ◌+◌, ◌-◌, ◌/◌, ◌%◌, ◌^◌, ◌<◌, ◌≤◌, Bool, true, false, Some, ℤ, pos, negsuc, neg_ℤ, nat_abs, refl, subst, arith, ◌*◌, length}
use Rattle.std.specs.Prelude.{int_div, int_rem, ltb}
use Rattle.std.proofs.lemmas.Bool.{ltb-true, ltb-false}
use Rattle.std.proofs.Math.Nat.{div-le_self, mod-le, mod-lt}
use Rattle.std.specs.Int.{Width, w8, w16, w32, w64, cast_signed, cast_unsigned, int_shr}
use Rattle.std.specs.Int.Bits.{and_lt, or_lt, xor_lt}
use Rattle.pi_model.specs.declared.insn.BinOp.{BinOp}
use Rattle.pi_model.specs.declared.insn.BinOp.TheVariants.{Add, Sub, Rsub, Mul, Div, Rem, And, Or, Xor, Shl, Shr, Ushr}
use Rattle.pi_model.specs.declared.insn.UnOp.{UnOp}
use Rattle.pi_model.specs.declared.insn.UnOp.TheVariants.{NegInt, NotInt, NegLong, NotLong, IntToLong, LongToInt, IntToByte, IntToChar, IntToShort}
use Rattle.pi_model.specs.declared.insn.Access.{Access}
use Rattle.pi_model.specs.declared.insn.Access.TheVariants as access
use Rattle.pi_model.specs.Arithmetic.{unless_zero, binary_result, sign_extension}
use Rattle.pi_machine.specs.State.{Thing}
use Rattle.pi_machine.specs.Operands.{narrow_word}
use Rattle.pi_machine.specs.Rows.Numbers.{unary_value}
use Rattle.pi_machine.specs.Sound.{IsSoundValue, FewBytesAreShort}
use Rattle.pi_model.specs.Values.{Instance, Array, Text}
use Rattle.std.proofs.lemmas.Nat.{pow_pos}
use Rattle.pi_machine.proofs.Truths.{some_same}

-- how far a number is from 0 or from -1
abbrev pub far : ℤ → ℕ
far (pos n) = n
far (negsuc n) = n

far_neg : (n : ℕ) → far (neg_ℤ (pos n)) ≤ n
far_neg zero = omega arith
far_neg (suc n) = omega arith

far_div : (a b : ℤ) → far (int_div a b) ≤ far a + 1
far_div (pos a) (pos b) = let h : a / b ≤ a = div-le_self a b in omega (arith, h)
far_div (pos a) (negsuc b) = let h : a / suc b ≤ a = div-le_self a (suc b) in let k = far_neg (a / suc b) in omega (arith, h, k)
far_div (negsuc a) (pos b) = let h : suc a / b ≤ suc a = div-le_self (suc a) b in let k = far_neg (suc a / b) in omega (arith, h, k)
far_div (negsuc a) (negsuc b) = let h : suc a / suc b ≤ suc a = div-le_self (suc a) (suc b) in omega (arith, h)

far_rem : (a d : ℤ) → far (int_rem a d) ≤ far a + 1
far_rem (pos a) d = let h : a % nat_abs d ≤ a = mod-le a (nat_abs d) in omega (arith, h)
far_rem (negsuc a) d = let h : suc a % nat_abs d ≤ suc a = mod-le (suc a) (nat_abs d) in let k = far_neg (suc a % nat_abs d) in omega (arith, h, k)

far_shr : (a : ℤ) (k : ℕ) → far (int_shr a k) ≤ far a
far_shr (pos a) k = div-le_self a (2 ^ k)
far_shr (negsuc a) k = div-le_self a (2 ^ k)

-- a width: the numbers below twice a half are its own, those from the half on stand for negative ones
pub record HasHalf (w : Width) (k half : ℕ) : Type 0 where
  pub some : 0 < half
  pub whole : 2 ^ k ≡ half + half
  pub negative : (n : ℕ) → cast_unsigned w (negsuc n) ≡ half + half - suc n
  pub signed : (n : ℕ) → n < half + half → far (cast_signed w n) < half

module _ {w : Width} {k half : ℕ} (h : HasHalf w k half) where
  pub unsigned_small : (z : ℤ) → far z < half + half → cast_unsigned w z < half + half
  unsigned_small (pos n) e = e
  unsigned_small (negsuc n) e = let s : 0 < half = h.some in let is : cast_unsigned w (negsuc n) ≡ half + half - suc n = h.negative n in omega (arith, s, is)

  wraps : (n : ℕ) → n % 2 ^ k < half + half
  wraps n =
      let s : 0 < half = h.some in
      let is : 2 ^ k ≡ half + half = h.whole in
      let m : n % 2 ^ k < 2 ^ k = mod-lt n (omega (arith, s, is)) in
      omega (arith, m, is)

  below : (n : ℕ) → n < half + half → n < 2 ^ k
  below n e = let is : 2 ^ k ≡ half + half = h.whole in omega (arith, e, is)

  above : (n : ℕ) → n < 2 ^ k → n < half + half
  above n e = let is : 2 ^ k ≡ half + half = h.whole in omega (arith, e, is)

  some_is : (x r : ℕ) → Some x ≡ Some r → x < half + half → r < half + half
  some_is x r e b = subst (λ n. n < half + half) (some_same x r e) b

  unless_is : (b x r : ℕ) → unless_zero b x ≡ Some r → x < half + half → r < half + half
  unless_is zero x r e y = cc
  unless_is (suc b) x r e y = some_is x r e y

  pub result_small : (op : BinOp) (a b r : ℕ) → a < half + half → b < half + half → binary_result w k op a b ≡ Some r → r < half + half
  result_small Add a b r x y e = some_is _ r e (wraps _)
  result_small Sub a b r x y e = some_is _ r e (wraps _)
  result_small Rsub a b r x y e = some_is _ r e (wraps _)
  result_small Mul a b r x y e = some_is _ r e (wraps _)
  result_small Div a b r x y e =
      let n : far (cast_signed w a) < half = h.signed a x in
      let m : far (int_div (cast_signed w a) (cast_signed w b)) ≤ far (cast_signed w a) + 1 = far_div (cast_signed w a) (cast_signed w b) in
      unless_is b _ r e (unsigned_small (int_div (cast_signed w a) (cast_signed w b)) (omega (arith, n, m)))
  result_small Rem a b r x y e =
      let n : far (cast_signed w a) < half = h.signed a x in
      let m : far (int_rem (cast_signed w a) (cast_signed w b)) ≤ far (cast_signed w a) + 1 = far_rem (cast_signed w a) (cast_signed w b) in
      unless_is b _ r e (unsigned_small (int_rem (cast_signed w a) (cast_signed w b)) (omega (arith, n, m)))
  result_small And a b r x y e = some_is _ r e (above _ (and_lt k a b (below a x) (below b y)))
  result_small Or a b r x y e = some_is _ r e (above _ (or_lt k a b (below a x) (below b y)))
  result_small Xor a b r x y e = some_is _ r e (above _ (xor_lt k a b (below a x) (below b y)))
  result_small Shl a b r x y e = some_is _ r e (wraps _)
  result_small Shr a b r x y e =
      let n : far (cast_signed w a) < half = h.signed a x in
      let m : far (int_shr (cast_signed w a) (b % k)) ≤ far (cast_signed w a) = far_shr (cast_signed w a) (b % k) in
      some_is _ r e (unsigned_small (int_shr (cast_signed w a) (b % k)) (omega (arith, n, m)))
  result_small Ushr a b r x y e =
      let m : a / 2 ^ (b % k) ≤ a = div-le_self a (2 ^ (b % k)) in some_is _ r e (omega (arith, m, x))

-- the two widths
int_signed : (n : ℕ) (b : Bool) → n < 2 ^ 32 → ltb n (2 ^ 31) ≡ b → far (cast_signed w32 n) < 2 ^ 31
int_signed n true e t = rw t (ltb-true n (2 ^ 31) t)
int_signed n false e t = let m : 2 ^ 31 ≤ n = ltb-false n (2 ^ 31) t in rw t (omega (arith, e, m))

long_signed : (n : ℕ) (b : Bool) → n < 2 ^ 64 → ltb n (2 ^ 63) ≡ b → far (cast_signed w64 n) < 2 ^ 63
long_signed n true e t = rw t (ltb-true n (2 ^ 63) t)
long_signed n false e t = let m : 2 ^ 63 ≤ n = ltb-false n (2 ^ 63) t in rw t (omega (arith, e, m))

byte_signed : (n : ℕ) (b : Bool) → n < 2 ^ 8 → ltb n (2 ^ 7) ≡ b → far (cast_signed w8 n) < 2 ^ 7
byte_signed n true e t = rw t (ltb-true n (2 ^ 7) t)
byte_signed n false e t = let m : 2 ^ 7 ≤ n = ltb-false n (2 ^ 7) t in rw t (omega (arith, e, m))

short_signed : (n : ℕ) (b : Bool) → n < 2 ^ 16 → ltb n (2 ^ 15) ≡ b → far (cast_signed w16 n) < 2 ^ 15
short_signed n true e t = rw t (ltb-true n (2 ^ 15) t)
short_signed n false e t = let m : 2 ^ 15 ≤ n = ltb-false n (2 ^ 15) t in rw t (omega (arith, e, m))

pub int_half : HasHalf w32 32 (2 ^ 31)
int_half = record { some = omega arith; whole = refl; negative = λ n. refl; signed = λ n e. int_signed n (ltb n (2 ^ 31)) e refl }

pub long_half : HasHalf w64 64 (2 ^ 63)
long_half = record { some = omega arith; whole = refl; negative = λ n. refl; signed = λ n e. long_signed n (ltb n (2 ^ 63)) e refl }

-- the result of an operation on one operand, and what a narrow place keeps of a word
pub wrapped : (k n : ℕ) → n % 2 ^ k < 2 ^ k
wrapped k n = mod-lt n (pow_pos k)

pub byte_small : (n : ℕ) → sign_extension w8 8 n < 2 ^ 32
byte_small n =
    let m : n % 2 ^ 8 < 2 ^ 8 = wrapped 8 n in
    let f : far (cast_signed w8 (n % 2 ^ 8)) < 2 ^ 7 = byte_signed (n % 2 ^ 8) (ltb (n % 2 ^ 8) (2 ^ 7)) m refl in
    unsigned_small int_half (cast_signed w8 (n % 2 ^ 8)) (omega (arith, f))

pub short_small : (n : ℕ) → sign_extension w16 16 n < 2 ^ 32
short_small n =
    let m : n % 2 ^ 16 < 2 ^ 16 = wrapped 16 n in
    let f : far (cast_signed w16 (n % 2 ^ 16)) < 2 ^ 15 = short_signed (n % 2 ^ 16) (ltb (n % 2 ^ 16) (2 ^ 15)) m refl in
    unsigned_small int_half (cast_signed w16 (n % 2 ^ 16)) (omega (arith, f))

pub unary_small : (things : List Thing) (op : UnOp) (n : ℕ) → n < 2 ^ 64 → IsSoundValue things (unary_value op n)
unary_small things NegInt n e = wrapped 32 _
unary_small things NotInt n e = omega arith
unary_small things NegLong n e = wrapped 64 _
unary_small things NotLong n e = omega arith
unary_small things IntToLong n e =
    let m : n % 2 ^ 32 < 2 ^ 32 = wrapped 32 n in
    let f : far (cast_signed w32 (n % 2 ^ 32)) < 2 ^ 31 = int_signed (n % 2 ^ 32) (ltb (n % 2 ^ 32) (2 ^ 31)) m refl in
    unsigned_small long_half (cast_signed w32 (n % 2 ^ 32)) (omega (arith, f))
unary_small things LongToInt n e = wrapped 32 n
unary_small things IntToByte n e = byte_small n
unary_small things IntToChar n e = let m : n % 2 ^ 16 < 2 ^ 16 = wrapped 16 n in omega (arith, m)
unary_small things IntToShort n e = short_small n

pub narrowed_small : (k : Access) (n : ℕ) → n < 2 ^ 32 → narrow_word k n < 2 ^ 32
narrowed_small access.Plain n e = e
narrowed_small access.Wide n e = e
narrowed_small access.Ref n e = e
narrowed_small access.Bool n e = let m : n % 2 ^ 8 < 2 ^ 8 = wrapped 8 n in omega (arith, m)
narrowed_small access.Byte n e = byte_small n
narrowed_small access.Char n e = let m : n % 2 ^ 16 < 2 ^ 16 = wrapped 16 n in omega (arith, m)
narrowed_small access.Short n e = short_small n

-- an object of few bytes is short
text_short : (n : ℕ) → (16 + 2 * n + 7) / 8 * 8 < 2 ^ 32 → n < 2 ^ 31
text_short n e = omega (arith, e)

pub few_bytes_are_short : FewBytesAreShort
few_bytes_are_short p (Instance c fields) e = tt
few_bytes_are_short p (Array ty items) e = tt
few_bytes_are_short p (Text units) e = text_short (length units) e
