-- Whole-number arithmetic of ints and longs. A word is a number below 2^32, a long one below 2^64; each is read as
-- signed where the operation asks for it. The rules are those of the bytecode page, by cases.
use Rattle.std.specs.Prelude.{ℕ, zero, suc, ◌+◌, ◌-◌, ◌*◌, ◌/◌, ◌%◌, ◌^◌, ◌==◌, not, Option, Some, None, Bool, if◌then◌else◌, int_div, int_rem, int_lt, bit_and, bit_or, bit_xor}
use Rattle.std.specs.Int.{Width, w8, w16, w32, w64, cast_signed, cast_unsigned, int_shr}
use Rattle.pi_model.specs.declared.insn.BinOp.{BinOp}
use Rattle.pi_model.specs.declared.insn.BinOp.TheVariants.{Add, Sub, Rsub, Mul, Div, Rem, And, Or, Xor, Shl, Shr, Ushr}
use Rattle.pi_model.specs.declared.insn.UnOp.{UnOp}
use Rattle.pi_model.specs.declared.insn.UnOp.TheVariants.{NegInt, NotInt, NegLong, NotLong, IntToLong, LongToInt, IntToByte, IntToChar, IntToShort}
use Rattle.pi_model.specs.declared.insn.Cond.{Cond}
use Rattle.pi_model.specs.declared.insn.Cond.TheVariants.{Eq, Ne, Lt, Ge, Gt, Le}

-- a quotient or a remainder; there is none by 0
abbrev pub unless_zero : ℕ → ℕ → Option ℕ
unless_zero zero result = None
unless_zero (suc n) result = Some result

-- The result of an operation at a width and its number of bits. Sums, differences and products wrap. Division rounds toward 0, and that of the
-- least number by -1 wraps to itself. The distance of a shift is taken modulo the width.
abbrev pub binary_result : Width → ℕ → BinOp → ℕ → ℕ → Option ℕ
binary_result w k Add a b = Some ((a + b) % 2 ^ k)
binary_result w k Sub a b = Some ((a + (2 ^ k - b)) % 2 ^ k)
binary_result w k Rsub a b = Some ((b + (2 ^ k - a)) % 2 ^ k)
binary_result w k Mul a b = Some ((a * b) % 2 ^ k)
binary_result w k Div a b = unless_zero b (cast_unsigned w (int_div (cast_signed w a) (cast_signed w b)))
binary_result w k Rem a b = unless_zero b (cast_unsigned w (int_rem (cast_signed w a) (cast_signed w b)))
binary_result w k And a b = Some (bit_and a b)
binary_result w k Or a b = Some (bit_or a b)
binary_result w k Xor a b = Some (bit_xor a b)
binary_result w k Shl a b = Some ((a * 2 ^ (b % k)) % 2 ^ k)
binary_result w k Shr a b = Some (cast_unsigned w (int_shr (cast_signed w a) (b % k)))
binary_result w k Ushr a b = Some (a / 2 ^ (b % k))

-- two ints
abbrev pub int_result : BinOp → ℕ → ℕ → Option ℕ
int_result op a b = binary_result w32 32 op a b

-- two longs; the distance of a shift is an int
abbrev pub long_result : BinOp → ℕ → ℕ → Option ℕ
long_result op a b = binary_result w64 64 op a b

-- the low bits of a word, so many at a width, extended by their sign
abbrev pub sign_extension : Width → ℕ → ℕ → ℕ
sign_extension w k n = cast_unsigned w32 (cast_signed w (n % 2 ^ k))

-- the result of an operation on one operand; one on an int reads the low 32 bits
abbrev pub unary_result : UnOp → ℕ → ℕ
unary_result NegInt n = (2 ^ 32 - n % 2 ^ 32) % 2 ^ 32
unary_result NotInt n = 2 ^ 32 - 1 - n % 2 ^ 32
unary_result NegLong n = (2 ^ 64 - n) % 2 ^ 64
unary_result NotLong n = 2 ^ 64 - 1 - n
unary_result IntToLong n = cast_unsigned w64 (cast_signed w32 (n % 2 ^ 32))
unary_result LongToInt n = n % 2 ^ 32
unary_result IntToByte n = sign_extension w8 8 n
unary_result IntToChar n = n % 2 ^ 16
unary_result IntToShort n = sign_extension w16 16 n

-- -1, 0 or 1 as a word, by the order of two longs
abbrev pub long_comparison : ℕ → ℕ → ℕ
long_comparison a b =
    if int_lt (cast_signed w64 a) (cast_signed w64 b) then 2 ^ 32 - 1 else
    if int_lt (cast_signed w64 b) (cast_signed w64 a) then 1 else 0

-- two words are in that order
abbrev pub condition_holds : Cond → ℕ → ℕ → Bool
condition_holds Eq a b = a == b
condition_holds Ne a b = not (a == b)
condition_holds Lt a b = int_lt (cast_signed w32 a) (cast_signed w32 b)
condition_holds Ge a b = not (int_lt (cast_signed w32 a) (cast_signed w32 b))
condition_holds Gt a b = int_lt (cast_signed w32 b) (cast_signed w32 a)
condition_holds Le a b = not (int_lt (cast_signed w32 b) (cast_signed w32 a))
