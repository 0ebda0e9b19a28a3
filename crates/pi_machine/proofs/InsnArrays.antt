-- Arrays through a running main. Four steps come before its first instruction.
use Rattle.std.proofs.Common.{Some, ℕ, List, [], ◌∷◌, ◌++◌, refl}
use Rattle.std.specs.Prelude.{codes}
use Rattle.pi_model.specs.declared.numbers.NameNo.{NameNo}
use Rattle.pi_model.specs.declared.insn.Insn.{Insn}
use Rattle.pi_model.specs.declared.insn.Insn.TheVariants.{Const, ConstWide, ConstString, ConstClass, NewInstance, NewArray, ArrayLength, Aget, Aput, ReturnVoid}
use Rattle.pi_model.specs.declared.insn.Access.{Access}
use Rattle.pi_model.specs.declared.insn.Access.TheVariants.{Plain, Wide, Ref, Bool, Byte, Char, Short}
use Rattle.pi_model.specs.Program.{Program}
use Rattle.pi_machine.proofs.Examples.{Run, outcome, Outcomes, prints_in, throws_in, prints, throws}
use Rattle.pi_machine.proofs.Sample.{no, object, string, ints, longs, bools, bytes, chars, shorts, objects, strings, int_rows, own, class, chain, main_method, print, print_long, print_text}
use Rattle.pi_machine.proofs.Layouts.{a, b}

-- lengths, and elements as they begin
lengths : Outcomes (
    -- arrays of length 0 and 4
    prints (Const 0 0 ∷ NewArray 1 0 ints ∷ ArrayLength 2 1 ∷ print 2 ∷ Const 0 4 ∷ NewArray 1 0 strings ∷ ArrayLength 2 1 ∷ print 2 ∷ ReturnVoid ∷ []) (codes "0\n4\n") 13
    -- the length of an array of longs counts longs
    ∷ prints (Const 0 3 ∷ NewArray 1 0 longs ∷ ArrayLength 1 1 ∷ print 1 ∷ ReturnVoid ∷ []) (codes "3\n") 9
    -- a negative length throws NegativeArraySizeException
    ∷ throws (Const 0 0xffffffff ∷ NewArray 1 0 ints ∷ ReturnVoid ∷ []) 11 7
    -- so does the least int
    ∷ throws (Const 0 0x80000000 ∷ NewArray 1 0 objects ∷ ReturnVoid ∷ []) 11 7
    -- the length of null throws NullPointerException
    ∷ throws (Const 0 0 ∷ ArrayLength 1 0 ∷ ReturnVoid ∷ []) 9 7
    -- elements begin as zero
    ∷ prints (Const 0 2 ∷ Const 2 1 ∷ NewArray 1 0 ints ∷ Aget Plain 3 1 2 ∷ print 3 ∷ NewArray 1 0 longs ∷ Aget Wide 3 1 2 ∷ print_long 3
    ∷ NewArray 1 0 strings ∷ Aget Ref 3 1 2 ∷ print 3 ∷ NewArray 1 0 chars ∷ Aget Char 3 1 2 ∷ print 3 ∷ ReturnVoid ∷ []) (codes "0\n0\n0\n0\n") 19
    ∷ [])
unfolding outcome
lengths = refl

-- a new array of three elements in register 1; a word is written to the element of an index, and an element is printed
abbrev three : NameNo → List Insn
three ty = Const 0 3 ∷ NewArray 1 0 ty ∷ []

abbrev puts : Access → ℕ → ℕ → List Insn
puts kind i n = Const 2 i ∷ Const 3 n ∷ Aput kind 3 1 2 ∷ []

abbrev gets : Access → ℕ → List Insn
gets kind i = Const 2 i ∷ Aget kind 3 1 2 ∷ print 3 ∷ []

-- the first and the last element hold what was written, the one between them nothing
abbrev keeps : Access → NameNo → ℕ → ℕ → List ℕ → Run
keeps kind ty m n output = prints (three ty ++ puts kind 0 m ++ puts kind 2 n ++ gets kind 0 ++ gets kind 1 ++ gets kind 2 ++ ReturnVoid ∷ []) output 22

-- elements that were written
elements_kept : Outcomes (
    -- ints keep all bits
    keeps Plain ints 0x80000000 7 (codes "-2147483648\n0\n7\n")
    -- narrow elements keep 8 or 16 bits: byte and short by their sign, char and boolean by zeros
    ∷ keeps Bool bools 0x1ff 0x102 (codes "255\n0\n2\n")
    -- bytes
    ∷ keeps Byte bytes 0x180 0x17f (codes "-128\n0\n127\n")
    -- chars
    ∷ keeps Char chars 0xffffffff 0x12345 (codes "65535\n0\n9029\n")
    -- shorts
    ∷ keeps Short shorts 0x18000 0x17fff (codes "-32768\n0\n32767\n")
    -- longs keep both halves
    ∷ prints (three longs ++ Const 2 0 ∷ ConstWide 3 5000000000 ∷ Aput Wide 3 1 2 ∷ Const 2 2 ∷ ConstWide 3 0x8000000000000000 ∷ Aput Wide 3 1 2
    ∷ Const 2 0 ∷ Aget Wide 5 1 2 ∷ print_long 5 ∷ Const 2 1 ∷ Aget Wide 5 1 2 ∷ print_long 5 ∷ Const 2 2 ∷ Aget Wide 5 1 2 ∷ print_long 5 ∷ ReturnVoid ∷ [])
    (codes "5000000000\n0\n-9223372036854775808\n") 22
    -- references, and null between them
    ∷ prints (three strings ++ Const 2 0 ∷ ConstString 3 string ∷ Aput Ref 3 1 2 ∷ Const 2 2 ∷ ConstString 3 (no 50) ∷ Aput Ref 3 1 2
    ∷ Const 2 0 ∷ Aget Ref 4 1 2 ∷ print_text 4 ∷ Const 2 2 ∷ Aget Ref 4 1 2 ∷ print_text 4 ∷ Const 2 1 ∷ Aget Ref 4 1 2 ∷ print 4 ∷ ReturnVoid ∷ [])
    (codes "Ljava/lang/String;text0\n") 22
    -- two arrays do not touch each other
    ∷ prints (three ints ++ NewArray 4 0 ints ∷ puts Plain 1 7 ++ Aget Plain 5 4 2 ∷ print 5 ∷ Aget Plain 5 1 2 ∷ print 5 ∷ ReturnVoid ∷ []) (codes "0\n7\n") 15
    ∷ [])
unfolding outcome
elements_kept = refl

-- an access at that index, in an array of three elements or of null, throws a throwable of that class
abbrev get_throws : Access → NameNo → ℕ → ℕ → Run
get_throws kind ty i class = throws (three ty ++ Const 2 i ∷ Aget kind 3 1 2 ∷ ReturnVoid ∷ []) class 9

abbrev put_throws : Access → NameNo → Insn → ℕ → ℕ → Run
put_throws kind ty value i class = throws (three ty ++ Const 2 i ∷ value ∷ Aput kind 3 1 2 ∷ ReturnVoid ∷ []) class 10

-- the indices -1, 3 and the least are out of bounds for reads and writes of a kind
abbrev bounded : Access → NameNo → Insn → List Run
bounded kind ty value =
    get_throws kind ty 0xffffffff 17 ∷ get_throws kind ty 3 17 ∷ get_throws kind ty 0x80000000 17
    ∷ put_throws kind ty value 0xffffffff 17 ∷ put_throws kind ty value 3 17 ∷ put_throws kind ty value 0x80000000 17 ∷ []

-- indices out of bounds
bounds : Outcomes (
    -- arrays of ints
    bounded Plain ints (Const 3 0)
    -- of longs
    ++ bounded Wide longs (ConstWide 3 0)
    -- of references, with null to be stored
    ++ bounded Ref strings (Const 3 0)
    -- of booleans
    ++ bounded Bool bools (Const 3 0)
    -- of bytes
    ++ bounded Byte bytes (Const 3 0)
    -- of chars
    ++ bounded Char chars (Const 3 0)
    -- of shorts
    ++ bounded Short shorts (Const 3 0))
unfolding outcome
bounds = refl

-- arrays without an element, and null
elements_of_none : Outcomes (
    -- an array of no element has no index
    throws (Const 0 0 ∷ NewArray 1 0 ints ∷ Aget Plain 2 1 0 ∷ ReturnVoid ∷ []) 17 8
    -- null is tested before the index, for each kind in a register
    ∷ throws (Const 1 0 ∷ Const 2 0xffffffff ∷ Aget Plain 3 1 2 ∷ ReturnVoid ∷ []) 9 8
    -- a read of a long
    ∷ throws (Const 1 0 ∷ Const 2 0 ∷ Aget Wide 3 1 2 ∷ ReturnVoid ∷ []) 9 8
    -- a write of a byte
    ∷ throws (Const 1 0 ∷ Const 2 0xffffffff ∷ Const 3 7 ∷ Aput Byte 3 1 2 ∷ ReturnVoid ∷ []) 9 9
    -- a write of a reference
    ∷ throws (Const 1 0 ∷ Const 2 0xffffffff ∷ ConstString 3 string ∷ Aput Ref 3 1 2 ∷ ReturnVoid ∷ []) 9 9
    ∷ [])
unfolding outcome
elements_of_none = refl

-- main before LA;, which implements the interface LI;, and LB; below it; the arrays of these
abbrev arrays_of_a : NameNo
arrays_of_a = own 4

abbrev arrays_of_b : NameNo
arrays_of_b = own 5

abbrev arrays_of_i : NameNo
arrays_of_i = own 6

abbrev world : List Insn → Program
world insns = chain (codes "LT;" ∷ codes "LA;" ∷ codes "LB;" ∷ codes "LI;" ∷ codes "[LA;" ∷ codes "[LB;" ∷ codes "[LI;" ∷ []) (
    class 1 (own 0) 1 (Some object) [] [] (main_method insns [] ∷ [])
    ∷ class 1 a 1 (Some object) (own 3 ∷ []) [] []
    ∷ class 1 b 1 (Some a) [] [] []
    ∷ class 1 (own 3) 0x601 (Some object) [] [] []
    ∷ [])

-- the types of what is stored
stored_references : Outcomes (
    -- the index is tested before the type of what is stored
    throws (three strings ++ Const 2 3 ∷ NewInstance 3 object ∷ Aput Ref 3 1 2 ∷ ReturnVoid ∷ []) 17 10
    -- an object that does not fit the component throws ArrayStoreException
    ∷ throws (three strings ++ Const 2 2 ∷ NewInstance 3 object ∷ Aput Ref 3 1 2 ∷ ReturnVoid ∷ []) 12 10
    -- a class object among texts
    ∷ throws (three strings ++ Const 2 0 ∷ ConstClass 3 string ∷ Aput Ref 3 1 2 ∷ ReturnVoid ∷ []) 12 10
    -- rows of an array of arrays of ints are arrays of ints alone
    ∷ throws (three int_rows ++ Const 2 0 ∷ NewArray 3 0 longs ∷ Aput Ref 3 1 2 ∷ ReturnVoid ∷ []) 12 10
    -- an array of ints among rows
    ∷ prints (three int_rows ++ Const 2 1 ∷ NewArray 3 0 ints ∷ Aput Ref 3 1 2 ∷ Aget Ref 4 1 2 ∷ ArrayLength 5 4 ∷ print 5 ∷ ReturnVoid ∷ []) (codes "3\n") 13
    -- anything may stand among Objects, and null anywhere
    ∷ prints (three objects ++ Const 2 0 ∷ ConstClass 3 string ∷ Aput Ref 3 1 2 ∷ NewArray 3 0 longs ∷ Aput Ref 3 1 2 ∷ Const 3 0 ∷ Aput Ref 3 1 2 ∷ print 3 ∷ ReturnVoid ∷ []) (codes "0\n") 15
    -- a subclass and an implementing class fit; entering LB; and LA; takes six steps
    ∷ prints_in (world (three arrays_of_a ++ Const 2 0 ∷ NewInstance 3 b ∷ Aput Ref 3 1 2 ∷ NewArray 1 0 arrays_of_i ∷ Aput Ref 3 1 2 ∷ print 2 ∷ ReturnVoid ∷ [])) (codes "0\n") 19
    -- a superclass does not fit, and for an array of interfaces the interface itself is asked for
    ∷ throws_in (world (three arrays_of_b ++ Const 2 0 ∷ NewInstance 3 a ∷ Aput Ref 3 1 2 ∷ ReturnVoid ∷ [])) 12 13
    -- an array of interfaces takes no object without the interface
    ∷ throws_in (world (three arrays_of_i ++ Const 2 0 ∷ NewInstance 3 object ∷ Aput Ref 3 1 2 ∷ ReturnVoid ∷ [])) 12 10
    ∷ [])
unfolding outcome
stored_references = refl
