-- Arithmetic and comparisons of ints and longs, worked out by hand: rows of what is computed and what it has to be. A negative number of
-- so many bits is written by what it lacks to that power of 2.
use Rattle.std.proofs.Common.{◌≡◌, ℕ, [], ◌∷◌, ◌++◌, Option, Some, None, refl}
use Rattle.std.specs.Prelude.{◌+◌, ◌-◌, ◌^◌, true, false}
use Rattle.pi_model.specs.declared.insn.BinOp.{BinOp}
use Rattle.pi_model.specs.declared.insn.BinOp.TheVariants.{Add, Sub, Rsub, Mul, Div, Rem, And, Or, Xor, Shl, Shr, Ushr}
use Rattle.pi_model.specs.declared.insn.Cond.TheVariants.{Eq, Ne, Lt, Ge, Gt, Le}
use Rattle.pi_model.specs.declared.insn.UnOp.{UnOp}
use Rattle.pi_model.specs.declared.insn.UnOp.TheVariants.{NegInt, NotInt, NegLong, NotLong, IntToLong, LongToInt, IntToByte, IntToChar, IntToShort}
use Rattle.pi_model.specs.Arithmetic.{int_result, long_result, unary_result, long_comparison, condition_holds}
use Rattle.pi_model.proofs.Samples.{Rows, Hold}

-- a negative number
abbrev minus : ℕ → ℕ → ℕ
minus bits n = 2 ^ bits - n

abbrev least : ℕ → ℕ
least bits = 2 ^ (bits - 1)

abbrev greatest : ℕ → ℕ
greatest bits = 2 ^ (bits - 1) - 1

-- rows of an operation on two operands of so many bits
abbrev RowsAt : Type 0
RowsAt = (BinOp → ℕ → ℕ → Option ℕ) → ℕ → Rows (Option ℕ)

-- sums and differences wrap past both ends; a reverse difference is the second operand minus the first
abbrev sums : RowsAt
sums op bits =
    (op Add 2 3, Some 5)
    ∷ (op Add (greatest bits) 1, Some (least bits))
    ∷ (op Add (least bits) (minus bits 1), Some (greatest bits))
    ∷ (op Add (minus bits 1) 1, Some 0)
    ∷ (op Sub 5 3, Some 2)
    ∷ (op Sub 7 0, Some 7)
    ∷ (op Sub 0 1, Some (minus bits 1))
    ∷ (op Sub (least bits) 1, Some (greatest bits))
    ∷ (op Rsub 3 5, Some 2)
    ∷ (op Rsub (least bits) 0, Some (least bits))
    ∷ []

-- a quotient is rounded toward 0, a remainder has the sign of the first operand, and by 0 there is neither; the least
-- number by -1 is itself
abbrev products : RowsAt
products op bits =
    (op Mul 6 7, Some 42)
    ∷ (op Mul (minus bits 3) 4, Some (minus bits 12))
    ∷ (op Mul (minus bits 3) (minus bits 4), Some 12)
    ∷ (op Div 7 2, Some 3)
    ∷ (op Div (minus bits 7) 2, Some (minus bits 3))
    ∷ (op Div 7 (minus bits 2), Some (minus bits 3))
    ∷ (op Div (minus bits 7) (minus bits 2), Some 3)
    ∷ (op Div (minus bits 1) 2, Some 0)
    ∷ (op Div (least bits) (minus bits 1), Some (least bits))
    ∷ (op Div 7 0, None)
    ∷ (op Rem 7 2, Some 1)
    ∷ (op Rem (minus bits 7) 2, Some (minus bits 1))
    ∷ (op Rem 7 (minus bits 2), Some 1)
    ∷ (op Rem (minus bits 7) (minus bits 2), Some (minus bits 1))
    ∷ (op Rem (least bits) (minus bits 1), Some 0)
    ∷ (op Rem 7 0, None)
    ∷ (op Rem 0 0, None)
    ∷ []

-- 12 and 10 have one bit in common, three between them, and differ in two; -1 has every bit
abbrev bit_rows : RowsAt
bit_rows op bits =
    (op And 12 10, Some 8)
    ∷ (op And (minus bits 1) (least bits), Some (least bits))
    ∷ (op Or 12 10, Some 14)
    ∷ (op Or (least bits) (greatest bits), Some (minus bits 1))
    ∷ (op Xor 12 10, Some 6)
    ∷ (op Xor (minus bits 1) (least bits), Some (greatest bits))
    ∷ []

-- a distance past the width begins again at 0, and -1, always an int, is the longest; a right shift is rounded down,
-- and one without sign makes a negative number positive
abbrev shifts : RowsAt
shifts op bits =
    (op Shl 3 4, Some 48)
    ∷ (op Shl 3 (bits - 1), Some (least bits))
    ∷ (op Shl 3 (bits + 1), Some 6)
    ∷ (op Shl 1 (minus 32 1), Some (least bits))
    ∷ (op Shr 17 2, Some 4)
    ∷ (op Shr (minus bits 7) 1, Some (minus bits 4))
    ∷ (op Shr (minus bits 8) (bits + 1), Some (minus bits 4))
    ∷ (op Shr (least bits) (bits - 1), Some (minus bits 1))
    ∷ (op Ushr 17 2, Some 4)
    ∷ (op Ushr (minus bits 1) 1, Some (greatest bits))
    ∷ (op Ushr (least bits) (bits + 1), Some (2 ^ (bits - 2)))
    ∷ (op Ushr (minus bits 5) bits, Some (minus bits 5))
    ∷ []

abbrev at_width : RowsAt
at_width op bits = sums op bits ++ products op bits ++ bit_rows op bits ++ shifts op bits

ints : Hold (at_width int_result 32)
ints = refl

longs : Hold (at_width long_result 64)
longs = refl

-- an int keeps its low 32 bits
int_wraps : int_result Mul 65536 65537 ≡ Some 65536
int_wraps = refl

-- a long passes 32 bits, and keeps its low 64
past_an_int : Hold (
    (long_result Add (2 ^ 32 - 1) 1, Some (2 ^ 32))
    ∷ (long_result Mul 65536 65537, Some (2 ^ 32 + 65536))
    ∷ (long_result Mul (2 ^ 33) (2 ^ 32), Some 0)
    ∷ (long_result Shl 3 33, Some (2 ^ 34 + 2 ^ 33))
    ∷ (long_result Shr (2 ^ 40) 33, Some 128)
    ∷ (long_result Ushr (2 ^ 40) 33, Some 128)
    ∷ [])
past_an_int = refl

-- a negation and a complement; the negation of the least number is itself
abbrev of_one : UnOp → UnOp → ℕ → Rows ℕ
of_one negation complement bits =
    (unary_result negation 5, minus bits 5)
    ∷ (unary_result negation 0, 0)
    ∷ (unary_result negation (least bits), least bits)
    ∷ (unary_result complement 5, minus bits 6)
    ∷ (unary_result complement 0, minus bits 1)
    ∷ (unary_result complement (minus bits 1), 0)
    ∷ (unary_result complement (least bits), greatest bits)
    ∷ []

of_an_int : Hold (of_one NegInt NotInt 32)
of_an_int = refl

of_a_long : Hold (of_one NegLong NotLong 64)
of_a_long = refl

-- what is cut to fewer bits keeps the low ones, and the highest of them is the sign, except of a char
conversions : Hold (
    (unary_result IntToByte 261, 5)
    ∷ (unary_result IntToByte 128, minus 32 128)
    ∷ (unary_result IntToChar 65541, 5)
    ∷ (unary_result IntToChar (minus 32 1), 65535)
    ∷ (unary_result IntToShort 65541, 5)
    ∷ (unary_result IntToShort 32768, minus 32 32768)
    ∷ (unary_result IntToLong (greatest 32), greatest 32)
    ∷ (unary_result IntToLong (minus 32 5), minus 64 5)
    ∷ (unary_result LongToInt (2 ^ 32 + 5), 5)
    ∷ (unary_result LongToInt (minus 64 1), minus 32 1)
    ∷ [])
conversions = refl

-- -1, 0 or 1 as an int
comparisons : Hold (
    (long_comparison (least 64) (greatest 64), minus 32 1)
    ∷ (long_comparison (minus 64 1) (minus 64 1), 0)
    ∷ (long_comparison 0 (minus 64 1), 1)
    ∷ [])
comparisons = refl

-- the conditions of branches, which compare words as signed numbers
conditions_that_hold : Hold (
    (condition_holds Eq (minus 32 1) (minus 32 1), true)
    ∷ (condition_holds Ne (least 32) 0, true)
    ∷ (condition_holds Lt (minus 32 1) 0, true)
    ∷ (condition_holds Lt (least 32) (greatest 32), true)
    ∷ (condition_holds Ge 0 (minus 32 1), true)
    ∷ (condition_holds Ge (least 32) (least 32), true)
    ∷ (condition_holds Gt (greatest 32) (least 32), true)
    ∷ (condition_holds Le (least 32) (minus 32 1), true)
    ∷ (condition_holds Le (greatest 32) (greatest 32), true)
    ∷ [])
conditions_that_hold = refl

conditions_that_fail : Hold (
    (condition_holds Eq 1 (minus 32 1), false)
    ∷ (condition_holds Ne 0 0, false)
    ∷ (condition_holds Lt (minus 32 1) (minus 32 1), false)
    ∷ (condition_holds Ge (least 32) (greatest 32), false)
    ∷ (condition_holds Gt (minus 32 1) 0, false)
    ∷ (condition_holds Gt 0 0, false)
    ∷ (condition_holds Le 0 (minus 32 1), false)
    ∷ [])
conditions_that_fail = refl
