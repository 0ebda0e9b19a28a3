-- System.arraycopy through a running main. Four steps come before main's first instruction, and three enter System.
use Rattle.std.proofs.Common.{None, ℕ, List, [], ◌∷◌, ◌++◌, refl}
use Rattle.std.specs.Prelude.{codes}
use Rattle.pi_model.specs.declared.numbers.NameNo.{NameNo}
use Rattle.pi_model.specs.declared.insn.Insn.{Insn}
use Rattle.pi_model.specs.declared.insn.Insn.TheVariants.{Nop, Move, MoveResult, MoveException, Const, ConstString, ConstClass, NewInstance, InstanceOf, NewArray, Filled, FillArray, Aget, Invoke, ReturnVoid}
use Rattle.pi_model.specs.declared.insn.Access.{Access}
use Rattle.pi_model.specs.declared.insn.Access.TheVariants.{Plain, Wide, Ref, Byte, Char}
use Rattle.pi_model.specs.declared.insn.How.TheVariants.{Static}
use Rattle.pi_model.specs.declared.insn.Kind.TheVariants as kind
use Rattle.pi_machine.proofs.Examples.{Run, outcome, Outcomes, prints_in, prints, throws}
use Rattle.pi_machine.proofs.Sample.{no, object, string, system, int, void, ints, longs, bools, bytes, chars, shorts, objects, strings, int_rows, handler, method_ref, main_program, print, print_long, print_text}

-- from the array in register 0 at the place in 1 into that in 2 at the place in 3, so many as 4 says
abbrev copy : Insn
copy = Invoke Static (method_ref system (no 57) (object ∷ int ∷ object ∷ int ∷ int ∷ []) void) (0 ∷ 1 ∷ 2 ∷ 3 ∷ 4 ∷ [])

abbrev copies : ℕ → ℕ → ℕ → List Insn
copies from to count = Const 1 from ∷ Const 3 to ∷ Const 4 count ∷ copy ∷ []

-- an element of the array in register 2 is printed
abbrev gets : Access → ℕ → List Insn
gets kind i = Const 5 i ∷ Aget kind 6 2 5 ∷ print 6 ∷ []

abbrev gets_text : ℕ → List Insn
gets_text i = Const 5 i ∷ Aget Ref 6 2 5 ∷ print_text 6 ∷ []

-- the array of the ints 1, 2, 3 in register 0, and of 7, 7, 7 in register 2
abbrev one_two_three : List Insn
one_two_three = Const 5 1 ∷ Const 6 2 ∷ Const 7 3 ∷ Filled ints (5 ∷ 6 ∷ 7 ∷ []) ∷ MoveResult kind.Ref 0 ∷ []

abbrev sevens : List Insn
sevens = Const 5 7 ∷ Filled ints (5 ∷ 5 ∷ 5 ∷ []) ∷ MoveResult kind.Ref 2 ∷ []

abbrev gets_three : List Insn
gets_three = gets Plain 0 ++ gets Plain 1 ++ gets Plain 2 ++ ReturnVoid ∷ []

-- numbers are copied
copies_of_numbers : Outcomes (
    -- two elements into another array, whose third stays
    prints (one_two_three ++ sevens ++ copies 1 0 2 ++ gets_three) (codes "2\n3\n7\n") 29
    -- all of them
    ∷ prints (one_two_three ++ sevens ++ copies 0 0 3 ++ gets_three) (codes "1\n2\n3\n") 29
    -- none, at the end of both
    ∷ prints (one_two_three ++ sevens ++ copies 3 3 0 ++ gets_three) (codes "7\n7\n7\n") 29
    -- within one array to higher places: as by a copy between
    ∷ prints (one_two_three ++ Move kind.Ref 2 0 ∷ copies 0 1 2 ++ gets_three) (codes "1\n1\n2\n") 27
    -- and to lower ones
    ∷ prints (one_two_three ++ Move kind.Ref 2 0 ∷ copies 1 0 2 ++ gets_three) (codes "2\n3\n3\n") 27
    -- onto itself
    ∷ prints (one_two_three ++ Move kind.Ref 2 0 ∷ copies 0 0 3 ++ gets_three) (codes "1\n2\n3\n") 27
    -- longs are copied whole
    ∷ prints (Const 4 2 ∷ NewArray 0 4 longs ∷ FillArray 0 8 (5000000000 ∷ 0xffffffffffffffff ∷ []) ∷ NewArray 2 4 longs ∷ copies 0 0 2 ++ Const 5 0 ∷ Aget Wide 6 2 5 ∷ print_long 6 ∷ Const 5 1 ∷ Aget Wide 6 2 5 ∷ print_long 6 ∷ ReturnVoid ∷ [])
    (codes "5000000000\n-1\n") 22
    -- bytes and chars keep their values
    ∷ prints (Const 4 2 ∷ NewArray 0 4 bytes ∷ FillArray 0 1 (0x80 ∷ 0x7f ∷ []) ∷ NewArray 2 4 bytes ∷ copies 0 0 2 ++ gets Byte 0 ++ gets Byte 1 ++ ReturnVoid ∷ [])
    (codes "-128\n127\n") 22
    -- chars, from the second place to the first
    ∷ prints (Const 4 2 ∷ NewArray 0 4 chars ∷ FillArray 0 2 (0xffff ∷ 65 ∷ []) ∷ NewArray 2 4 chars ∷ copies 1 0 1 ++ gets Char 0 ++ gets Char 1 ++ ReturnVoid ∷ [])
    (codes "65\n0\n") 22
    ∷ [])
unfolding outcome
copies_of_numbers = refl

-- references are copied
copies_of_references : Outcomes (
    -- references that fit and null go into an array of a narrower component
    prints (ConstString 5 string ∷ Const 6 0 ∷ Filled objects (5 ∷ 6 ∷ []) ∷ MoveResult kind.Ref 0 ∷ Const 4 2 ∷ NewArray 2 4 strings ∷ copies 0 0 2 ++ gets_text 0 ++ gets Ref 1 ++ ReturnVoid ∷ [])
    (codes "Ljava/lang/String;0\n") 24
    -- The first reference that does not fit throws ArrayStoreException, and those before it stay copied: two texts, then
    -- an Object, then a text.
    ∷ prints_in (
    main_program (ConstString 5 string ∷ ConstString 6 (no 50) ∷ NewInstance 7 object ∷ Filled objects (5 ∷ 6 ∷ 7 ∷ 5 ∷ []) ∷ MoveResult kind.Ref 0 ∷ Const 4 4 ∷ NewArray 2 4 strings
    ∷ copies 0 0 4 ++ ReturnVoid ∷ MoveException 5 ∷ InstanceOf 6 5 (no 12) ∷ print 6 ∷ gets_text 0 ++ gets_text 1 ++ gets Ref 2 ++ gets Ref 3 ++ ReturnVoid ∷ [])
    (handler 12 15 None 16 ∷ []))
    (codes "1\nLjava/lang/String;text0\n0\n") 35
    -- within one array: its component as named is asked for, though it held the Object before
    ∷ prints_in (
    main_program (ConstString 5 string ∷ NewInstance 7 object ∷ Filled strings (5 ∷ 7 ∷ 5 ∷ []) ∷ MoveResult kind.Ref 0 ∷ Move kind.Ref 2 0
    ∷ copies 0 1 2 ++ ReturnVoid ∷ MoveException 5 ∷ InstanceOf 6 5 (no 12) ∷ print 6 ∷ gets_text 0 ++ gets_text 1 ++ gets_text 2 ++ ReturnVoid ∷ [])
    (handler 10 13 None 14 ∷ []))
    (codes "1\nLjava/lang/String;Ljava/lang/String;Ljava/lang/String;") 30
    ∷ [])
unfolding outcome
copies_of_references = refl

-- what is in registers 0 and 2 after three instructions is copied: it throws a throwable of a class, or it passes
abbrev fails : List Insn → ℕ → ℕ → ℕ → ℕ → Run
fails make from to count class = throws (make ++ copies from to count ++ ReturnVoid ∷ []) class 15

abbrev passes : List Insn → ℕ → ℕ → ℕ → Run
passes make from to count = prints (make ++ copies from to count ++ ReturnVoid ∷ []) [] 15

-- two arrays of three elements, or one of them beside what another instruction gives
abbrev arrays : NameNo → NameNo → List Insn
arrays from to = Const 4 3 ∷ NewArray 0 4 from ∷ NewArray 2 4 to ∷ []

abbrev into : Insn → List Insn
into from = Const 4 3 ∷ from ∷ NewArray 2 4 objects ∷ []

abbrev out_of : Insn → List Insn
out_of to = Const 4 3 ∷ NewArray 0 4 objects ∷ to ∷ []

-- what is no array
no_arrays : Outcomes (
    -- null first: as either of the two, and whatever the other is
    fails (into (Const 0 0)) 0 0 1 9
    -- null as the array to be written, with a negative place
    ∷ fails (out_of (Const 2 0)) 0xffffffff 0 1 9
    -- both null, and nothing to copy
    ∷ fails (Nop ∷ Const 0 0 ∷ Const 2 0 ∷ []) 0 0 0 9
    -- null beside what is no array
    ∷ fails (Nop ∷ Const 0 0 ∷ NewInstance 2 object ∷ []) 0 0 0 9
    -- what is no array beside null
    ∷ fails (Nop ∷ ConstString 0 string ∷ Const 2 0 ∷ []) 0 0 0xffffffff 9
    -- then what is no array throws ArrayStoreException, also with numbers out of range and with nothing to copy
    ∷ fails (into (NewInstance 0 object)) 0xffffffff 0 0 12
    -- a text as the array to be read
    ∷ fails (into (ConstString 0 string)) 0 0 0 12
    -- an Object as the array to be written
    ∷ fails (out_of (NewInstance 2 object)) 0 0 9 12
    -- a class object
    ∷ fails (out_of (ConstClass 2 string)) 0 0 0 12
    ∷ [])
unfolding outcome
no_arrays = refl

-- components of different kinds
other_components : Outcomes (
    -- and components of different kinds, before the range
    fails (arrays ints longs) 0 0 0 12
    -- longs to ints, with numbers out of range
    ∷ fails (arrays longs ints) 9 9 9 12
    -- chars to bytes
    ∷ fails (arrays chars bytes) 0 0 1 12
    -- chars to shorts, which are as wide
    ∷ fails (arrays chars shorts) 0 0 1 12
    -- booleans to bytes, which are as wide
    ∷ fails (arrays bools bytes) 0 0 1 12
    -- ints to references, with a negative number
    ∷ fails (arrays ints objects) 0 0 0xffffffff 12
    -- references to ints
    ∷ fails (arrays objects ints) 0 0 0 12
    ∷ [])
unfolding outcome
other_components = refl

-- ranges out of bounds
ranges : Outcomes (
    -- then the numbers: each of the three negative, and each range past its end
    fails (arrays ints ints) 0xffffffff 0 1 17
    -- the place to be written
    ∷ fails (arrays ints ints) 0 0x80000000 1 17
    -- the number of elements
    ∷ fails (arrays ints ints) 1 1 0xffffffff 17
    -- a range that goes past what is read
    ∷ fails (arrays ints ints) 2 0 2 17
    -- a range that goes past what is written
    ∷ fails (arrays ints ints) 0 2 2 17
    -- no element, but behind the end
    ∷ fails (arrays strings objects) 4 0 0 17
    -- the sum of a place and a number does not wrap
    ∷ fails (arrays ints ints) 1 0 0x7fffffff 17
    ∷ [])
unfolding outcome
ranges = refl

-- arrays of arrays
rows_of_arrays : Outcomes (
    -- arrays of arrays are arrays of references: null rows go among texts, and nothing at all into rows
    passes (arrays int_rows strings) 0 0 3
    -- no element of the Objects goes among rows
    ∷ passes (arrays objects int_rows) 3 0 0
    ∷ [])
unfolding outcome
rows_of_arrays = refl
