-- Instructions on numbers through a running main. Four steps come before its first instruction, and each print and each
-- return is one.
use Rattle.std.proofs.Common.{ℕ, List, [], ◌∷◌, ◌++◌, refl}
use Rattle.std.specs.Prelude.{codes}
use Rattle.pi_model.specs.declared.insn.Insn.{Insn}
use Rattle.pi_model.specs.declared.insn.Insn.TheVariants.{Const, ConstWide, CmpLong, Unary, Binary, BinaryLit, ReturnVoid}
use Rattle.pi_model.specs.declared.insn.Arith.TheVariants.{Int, Long}
use Rattle.pi_model.specs.declared.insn.BinOp.{BinOp}
use Rattle.pi_model.specs.declared.insn.BinOp.TheVariants.{Add, Sub, Rsub, Mul, Div, Rem, And, Or, Xor, Shl, Shr, Ushr}
use Rattle.pi_model.specs.declared.insn.UnOp.{UnOp}
use Rattle.pi_model.specs.declared.insn.UnOp.TheVariants.{NegInt, NotInt, NegLong, NotLong, IntToLong, LongToInt, IntToByte, IntToChar, IntToShort}
use Rattle.pi_machine.proofs.Examples.{outcome, Outcomes, prints, throws}
use Rattle.pi_machine.proofs.Sample.{print, print_long}

-- the least and the greatest int and long, and -1
abbrev min_int : ℕ
min_int = 0x80000000

abbrev max_int : ℕ
max_int = 0x7fffffff

abbrev min_long : ℕ
min_long = 0x8000000000000000

abbrev max_long : ℕ
max_long = 0x7fffffffffffffff

abbrev minus_one : ℕ
minus_one = 0xffffffff

abbrev minus_one_long : ℕ
minus_one_long = 0xffffffffffffffff

-- the operations on the ints of the registers 0 and 1, each printed
abbrev ints_of : List BinOp → List Insn
ints_of [] = ReturnVoid ∷ []
ints_of (op ∷ ops) = Binary (Int op) 2 0 1 ∷ print 2 ∷ ints_of ops

-- the operations on the longs of the registers 0 and 2, each printed
abbrev longs_of : List BinOp → List Insn
longs_of [] = ReturnVoid ∷ []
longs_of (op ∷ ops) = Binary (Long op) 4 0 2 ∷ print_long 4 ∷ longs_of ops

-- the operations on the int of register 0 and a literal, each printed
abbrev literals_of : ℕ → List BinOp → List Insn
literals_of v [] = ReturnVoid ∷ []
literals_of v (op ∷ ops) = BinaryLit op 1 0 v ∷ print 1 ∷ literals_of v ops

abbrev operations : List BinOp
operations = Add ∷ Sub ∷ Mul ∷ Div ∷ Rem ∷ And ∷ Or ∷ Xor ∷ Shl ∷ Shr ∷ Ushr ∷ []

abbrev shifts : List BinOp
shifts = Shl ∷ Shr ∷ Ushr ∷ []

-- operations on ints
int_operations : Outcomes (
    -- 7 and -2: a quotient is rounded toward 0, and the shifts are by 30
    prints (Const 0 7 ∷ Const 1 0xfffffffe ∷ ints_of operations)
    (codes "5\n9\n-14\n-3\n1\n6\n-1\n-7\n-1073741824\n0\n0\n") 29
    -- -7 and 2: a remainder has the sign of the first operand, and shr keeps the sign where ushr does not
    ∷ prints (Const 0 0xfffffff9 ∷ Const 1 2 ∷ ints_of operations)
    (codes "-5\n-9\n-14\n-3\n-1\n0\n-5\n-5\n-28\n-2\n1073741822\n") 29
    -- -7 and -2: a quotient of two negative numbers is positive, and the remainder is negative
    ∷ prints (Const 0 0xfffffff9 ∷ Const 1 0xfffffffe ∷ ints_of (Add ∷ Sub ∷ Mul ∷ Div ∷ Rem ∷ And ∷ Or ∷ Xor ∷ []))
    (codes "-9\n-5\n14\n3\n-1\n-8\n-1\n7\n") 23
    -- 0 and 5: a difference below 0
    ∷ prints (Const 0 0 ∷ Const 1 5 ∷ ints_of operations) (codes "5\n-5\n0\n0\n0\n0\n5\n5\n0\n0\n0\n") 29
    -- the least int and -1: the sum, the product and the quotient wrap, and the remainder is 0
    ∷ prints (Const 0 min_int ∷ Const 1 minus_one ∷ ints_of (Add ∷ Mul ∷ Div ∷ Rem ∷ [])) (codes "2147483647\n-2147483648\n-2147483648\n0\n") 15
    -- the greatest int and itself: the sum is -2 and the product 1
    ∷ prints (Const 0 max_int ∷ Const 1 max_int ∷ ints_of (Add ∷ Sub ∷ Mul ∷ Div ∷ [])) (codes "-2\n0\n1\n1\n") 15
    -- a shift of an int by 33 is one by 1
    ∷ prints (Const 0 0x80000003 ∷ Const 1 33 ∷ ints_of shifts) (codes "6\n-1073741823\n1073741825\n") 13
    -- a shift of an int by -1 is one by 31
    ∷ prints (Const 0 0x80000003 ∷ Const 1 minus_one ∷ ints_of shifts) (codes "-2147483648\n-1\n1\n") 13
    -- a shift of an int by 32 is none
    ∷ prints (Const 0 0x80000003 ∷ Const 1 32 ∷ ints_of shifts) (codes "-2147483645\n-2147483645\n-2147483645\n") 13
    -- the result may go into a register of its operands
    ∷ prints (Const 0 3 ∷ Const 1 4 ∷ Binary (Int Sub) 0 0 1 ∷ print 0 ∷ Binary (Int Sub) 1 0 1 ∷ print 1 ∷ ReturnVoid ∷ []) (codes "-1\n-5\n") 11
    ∷ [])
unfolding outcome
int_operations = refl

-- operations on longs
long_operations : Outcomes (
    -- ten thousand millions and -3
    prints (ConstWide 0 10000000000 ∷ ConstWide 2 0xfffffffffffffffd ∷ longs_of (Add ∷ Sub ∷ Mul ∷ Div ∷ Rem ∷ And ∷ Or ∷ Xor ∷ []))
    (codes "9999999997\n10000000003\n-30000000000\n-3333333333\n1\n10000000000\n-3\n-10000000003\n") 23
    -- and their negations
    ∷ prints (ConstWide 0 0xfffffffdabf41c00 ∷ ConstWide 2 3 ∷ longs_of (Add ∷ Sub ∷ Mul ∷ Div ∷ Rem ∷ [])) (codes "-9999999997\n-10000000003\n-30000000000\n-3333333333\n-1\n") 17
    -- the least long and -1: the sum, the product and the quotient wrap, and the remainder is 0
    ∷ prints (ConstWide 0 min_long ∷ ConstWide 2 minus_one_long ∷ longs_of (Add ∷ Mul ∷ Div ∷ Rem ∷ []))
    (codes "9223372036854775807\n-9223372036854775808\n-9223372036854775808\n0\n") 15
    -- 0 and the least long: the difference is the least long
    ∷ prints (ConstWide 0 0 ∷ ConstWide 2 min_long ∷ longs_of (Add ∷ Sub ∷ Mul ∷ Div ∷ Rem ∷ []))
    (codes "-9223372036854775808\n-9223372036854775808\n0\n0\n0\n") 17
    -- the distance of a shift of a long is an int; by 65 it is a shift by 1
    ∷ prints (ConstWide 0 10000000000 ∷ Const 2 65 ∷ longs_of shifts) (codes "20000000000\n5000000000\n5000000000\n") 13
    -- of -1: shr keeps the sign
    ∷ prints (ConstWide 0 minus_one_long ∷ Const 2 65 ∷ longs_of shifts) (codes "-2\n-1\n9223372036854775807\n") 13
    -- a shift of a long by 33 is one by 33
    ∷ prints (ConstWide 0 3 ∷ Const 2 33 ∷ longs_of shifts) (codes "25769803776\n0\n0\n") 13
    -- a shift of a long by -1 is one by 63
    ∷ prints (ConstWide 0 min_long ∷ Const 2 minus_one ∷ longs_of shifts) (codes "0\n-1\n1\n") 13
    ∷ [])
unfolding outcome
long_operations = refl

-- operations with a literal
literal_operations : Outcomes (
    -- 10 and the literal -3: rsub is the literal minus the register, and the shifts are by 29
    prints (Const 0 10 ∷ literals_of 0xfffffffd (Add ∷ Rsub ∷ Mul ∷ Div ∷ Rem ∷ And ∷ Or ∷ Xor ∷ Shl ∷ Shr ∷ Ushr ∷ []))
    (codes "7\n-13\n-30\n-3\n1\n8\n-1\n-9\n1073741824\n0\n0\n") 28
    -- -10 and the literal 2
    ∷ prints (Const 0 0xfffffff6 ∷ literals_of 2 (Add ∷ Rsub ∷ Mul ∷ Div ∷ Rem ∷ And ∷ Or ∷ Xor ∷ Shl ∷ Shr ∷ Ushr ∷ []))
    (codes "-8\n12\n-20\n-5\n0\n2\n-10\n-12\n-40\n-3\n1073741821\n") 28
    -- the least int and the literal -1; rsub of the least int from 0 wraps
    ∷ prints (Const 0 min_int ∷ BinaryLit Rsub 2 0 0 ∷ print 2 ∷ literals_of minus_one (Div ∷ Rem ∷ Rsub ∷ []))
    (codes "-2147483648\n-2147483648\n0\n2147483647\n") 14
    ∷ [])
unfolding outcome
literal_operations = refl

-- divisions by 0
divisions_by_zero : Outcomes (
    -- division and remainder by 0 throw ArithmeticException: of ints, of longs, by a literal
    throws (Const 0 7 ∷ Const 1 0 ∷ Binary (Int Div) 2 0 1 ∷ ReturnVoid ∷ []) 8 8
    -- so does the remainder of 0 by 0
    ∷ throws (Const 0 0 ∷ Const 1 0 ∷ Binary (Int Rem) 2 0 1 ∷ ReturnVoid ∷ []) 8 8
    -- a quotient of longs
    ∷ throws (ConstWide 0 7 ∷ ConstWide 2 0 ∷ Binary (Long Div) 4 0 2 ∷ ReturnVoid ∷ []) 8 8
    -- a remainder of longs, of the least one
    ∷ throws (ConstWide 0 min_long ∷ ConstWide 2 0 ∷ Binary (Long Rem) 4 0 2 ∷ ReturnVoid ∷ []) 8 8
    -- a quotient by the literal 0
    ∷ throws (Const 0 7 ∷ BinaryLit Div 1 0 0 ∷ ReturnVoid ∷ []) 8 7
    -- a remainder by the literal 0, of the least int
    ∷ throws (Const 0 min_int ∷ BinaryLit Rem 1 0 0 ∷ ReturnVoid ∷ []) 8 7
    -- a long divisor whose low half alone is 0 divides
    ∷ prints (ConstWide 0 8589934593 ∷ ConstWide 2 4294967296 ∷ longs_of (Div ∷ Rem ∷ [])) (codes "2\n1\n") 11
    ∷ [])
unfolding outcome
divisions_by_zero = refl

-- operations on one int, each of its own operand, and an int made a long
abbrev unary : UnOp → ℕ → List Insn
unary op n = Const 0 n ∷ Unary op 1 0 ∷ print 1 ∷ []

abbrev widened : ℕ → List Insn
widened n = Const 0 n ∷ Unary IntToLong 1 0 ∷ print_long 1 ∷ []

-- operations on one long, and a long made an int
abbrev unary_long : UnOp → ℕ → List Insn
unary_long op n = ConstWide 0 n ∷ Unary op 2 0 ∷ print_long 2 ∷ []

abbrev shortened : ℕ → List Insn
shortened n = ConstWide 0 n ∷ Unary LongToInt 0 0 ∷ print 0 ∷ []

-- the comparison of two longs
abbrev compares : ℕ → ℕ → List Insn
compares m n = ConstWide 0 m ∷ ConstWide 2 n ∷ CmpLong 4 0 2 ∷ print 4 ∷ []

-- negations, conversions and comparisons
unary_operations : Outcomes (
    -- the negation of the least int is itself
    prints (unary NegInt 5 ++ unary NegInt 0 ++ unary NegInt min_int ++ unary NotInt 5 ++ unary NotInt minus_one ++ ReturnVoid ∷ [])
    (codes "-5\n0\n-2147483648\n-6\n0\n") 20
    -- and so with longs
    ∷ prints (unary_long NegLong 5000000000 ++ unary_long NegLong 0 ++ unary_long NegLong min_long ++ unary_long NotLong 5 ++ unary_long NotLong min_long ++ ReturnVoid ∷ [])
    (codes "-5000000000\n0\n-9223372036854775808\n-6\n9223372036854775807\n") 20
    -- an int becomes a long by its sign; a long an int by its low half
    ∷ prints (widened minus_one ++ widened max_int ++ widened min_int ++ shortened 6442450944 ++ shortened 4294967301 ++ shortened minus_one_long ++ ReturnVoid ∷ [])
    (codes "-1\n2147483647\n-2147483648\n-2147483648\n5\n-1\n") 23
    -- byte and short keep their low bits by sign, char by zeros
    ∷ prints (unary IntToByte 0x180 ++ unary IntToByte 0x17f ++ unary IntToChar minus_one ++ unary IntToShort 0x18000 ++ unary IntToShort 0x17fff ++ ReturnVoid ∷ [])
    (codes "-128\n127\n65535\n-32768\n32767\n") 20
    -- by their signs, and the high half before the low one
    ∷ prints (compares minus_one_long 1 ++ compares 5 5 ++ compares 1 minus_one_long ++ compares min_long max_long ++ compares 4294967296 1 ++ compares 1 2 ++ ReturnVoid ∷ [])
    (codes "-1\n0\n1\n-1\n1\n-1\n") 29
    ∷ [])
unfolding outcome
unary_operations = refl
