-- Arrays that are filled from registers and from data. Four steps come before main's first instruction.
use Rattle.std.proofs.Common.{None, ℕ, List, [], ◌∷◌, ◌++◌, refl}
use Rattle.std.specs.Prelude.{codes}
use Rattle.pi_model.specs.declared.numbers.NameNo.{NameNo}
use Rattle.pi_model.specs.declared.insn.Insn.{Insn}
use Rattle.pi_model.specs.declared.insn.Insn.TheVariants.{Const, ConstString, NewInstance, NewArray, ArrayLength, Aget, Filled, FillArray, MoveResult, MoveException, InstanceOf, ReturnVoid}
use Rattle.pi_model.specs.declared.insn.Access.{Access}
use Rattle.pi_model.specs.declared.insn.Access.TheVariants.{Plain, Wide, Ref, Bool, Byte, Char, Short}
use Rattle.pi_model.specs.declared.insn.Kind.TheVariants as kind
use Rattle.pi_machine.proofs.Examples.{Run, outcome, Outcomes, prints_in, prints, throws}
use Rattle.pi_machine.proofs.Sample.{no, object, string, ints, longs, bools, bytes, chars, shorts, strings, int_rows, handler, main_program, print, print_long, print_text}

-- an element of the array in register 1 is printed
abbrev gets : Access → ℕ → List Insn
gets kind i = Const 2 i ∷ Aget kind 3 1 2 ∷ print 3 ∷ []

-- arrays filled from registers
filled_from_registers : Outcomes (
    -- an array of the ints of registers, in their order
    prints (Const 4 5 ∷ Const 5 6 ∷ Filled ints (5 ∷ 4 ∷ 5 ∷ []) ∷ MoveResult kind.Ref 1 ∷ ArrayLength 3 1 ∷ print 3 ∷ gets Plain 0 ++ gets Plain 1 ++ gets Plain 2 ++ ReturnVoid ∷ [])
    (codes "3\n6\n5\n6\n") 20
    -- of no register: an array of no element
    ∷ prints (Filled ints [] ∷ MoveResult kind.Ref 1 ∷ ArrayLength 3 1 ∷ print 3 ∷ ReturnVoid ∷ []) (codes "0\n") 9
    -- references and null
    ∷ prints (ConstString 4 string ∷ Const 5 0 ∷ Filled strings (4 ∷ 5 ∷ []) ∷ MoveResult kind.Ref 1 ∷ Const 2 0 ∷ Aget Ref 3 1 2 ∷ print_text 3 ∷ gets Ref 1 ++ ReturnVoid ∷ [])
    (codes "Ljava/lang/String;0\n") 15
    -- arrays among arrays
    ∷ prints (Const 4 9 ∷ Filled ints (4 ∷ []) ∷ MoveResult kind.Ref 5 ∷ Filled int_rows (5 ∷ 5 ∷ []) ∷ MoveResult kind.Ref 1 ∷ Const 2 1 ∷ Aget Ref 1 1 2 ∷ gets Plain 0 ++ ReturnVoid ∷ [])
    (codes "9\n") 15
    -- the types of what is filled in are not tested: an Object among texts
    ∷ prints (NewInstance 4 object ∷ Filled strings (4 ∷ []) ∷ MoveResult kind.Ref 1 ∷ Const 2 0 ∷ Aget Ref 3 1 2 ∷ InstanceOf 3 3 string ∷ print 3 ∷ ReturnVoid ∷ []) (codes "0\n") 12
    ∷ [])
unfolding outcome
filled_from_registers = refl

-- an array of three elements takes its data, and what it holds is printed
abbrev filled_by : Access → NameNo → ℕ → List ℕ → List ℕ → Run
filled_by kind ty width items output = prints (Const 0 3 ∷ NewArray 1 0 ty ∷ FillArray 1 width items ∷ gets kind 0 ++ gets kind 1 ++ gets kind 2 ++ ReturnVoid ∷ []) output 17

-- arrays filled from data
filled_from_data : Outcomes (
    -- of width 1: bytes by their sign, booleans by zeros
    filled_by Byte bytes 1 (1 ∷ 0x7f ∷ 0x80 ∷ []) (codes "1\n127\n-128\n")
    -- booleans
    ∷ filled_by Bool bools 1 (1 ∷ 0 ∷ 0xff ∷ []) (codes "1\n0\n255\n")
    -- of width 2: shorts by their sign, chars by zeros
    ∷ filled_by Short shorts 2 (0x8000 ∷ 0x7fff ∷ 0xffff ∷ []) (codes "-32768\n32767\n-1\n")
    -- chars
    ∷ filled_by Char chars 2 (0x8000 ∷ 65 ∷ 0xffff ∷ []) (codes "32768\n65\n65535\n")
    -- of width 4
    ∷ filled_by Plain ints 4 (0x80000000 ∷ 7 ∷ 0xffffffff ∷ []) (codes "-2147483648\n7\n-1\n")
    -- of width 8
    ∷ prints (Const 0 2 ∷ NewArray 1 0 longs ∷ FillArray 1 8 (0xffffffffffffffff ∷ 5000000000 ∷ []) ∷ Const 2 0 ∷ Aget Wide 3 1 2 ∷ print_long 3 ∷ Const 2 1 ∷ Aget Wide 3 1 2 ∷ print_long 3 ∷ ReturnVoid ∷ [])
    (codes "-1\n5000000000\n") 14
    -- what is behind the data keeps what it held
    ∷ prints (Const 4 5 ∷ Filled ints (4 ∷ 4 ∷ 4 ∷ []) ∷ MoveResult kind.Ref 1 ∷ FillArray 1 4 (8 ∷ 9 ∷ []) ∷ gets Plain 0 ++ gets Plain 1 ++ gets Plain 2 ++ ReturnVoid ∷ [])
    (codes "8\n9\n5\n") 18
    -- data of no item changes nothing, also in an array of no element
    ∷ prints (Const 4 5 ∷ Filled ints (4 ∷ []) ∷ MoveResult kind.Ref 1 ∷ FillArray 1 4 [] ∷ gets Plain 0 ++ Const 0 0 ∷ NewArray 1 0 bytes ∷ FillArray 1 1 [] ∷ ReturnVoid ∷ []) (codes "5\n") 15
    -- more items than elements throw ArrayIndexOutOfBoundsException
    ∷ throws (Const 0 2 ∷ NewArray 1 0 ints ∷ FillArray 1 4 (1 ∷ 2 ∷ 3 ∷ []) ∷ ReturnVoid ∷ []) 17 8
    -- so does one item for an array of no element
    ∷ throws (Const 0 0 ∷ NewArray 1 0 longs ∷ FillArray 1 8 (1 ∷ []) ∷ ReturnVoid ∷ []) 17 8
    -- and nothing is written: both elements hold 7 after the throw was caught
    ∷ prints_in
    (main_program (Const 0 7 ∷ Filled ints (0 ∷ 0 ∷ []) ∷ MoveResult kind.Ref 1 ∷ FillArray 1 4 (1 ∷ 2 ∷ 3 ∷ []) ∷ ReturnVoid ∷ MoveException 4 ∷ InstanceOf 5 4 (no 17) ∷ print 5 ∷ gets Plain 0 ++ gets Plain 1 ++ ReturnVoid ∷ [])
    (handler 5 6 None 7 ∷ []))
    (codes "1\n7\n7\n") 19
    -- null throws NullPointerException, whatever the data
    ∷ throws (Const 0 0 ∷ FillArray 0 4 (1 ∷ []) ∷ ReturnVoid ∷ []) 9 7
    -- also data of no item
    ∷ throws (Const 0 0 ∷ FillArray 0 1 [] ∷ ReturnVoid ∷ []) 9 7
    ∷ [])
unfolding outcome
filled_from_data = refl
