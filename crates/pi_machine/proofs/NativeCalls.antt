-- The natives of Object, String, Text and Out through a running main. Four steps come before its first instruction, and a
-- native is one step.
use Rattle.std.proofs.Common.{Some, ℕ, ◌+◌, List, [], ◌∷◌, ◌++◌, refl}
use Rattle.std.specs.Prelude.{codes}
use Rattle.pi_model.specs.declared.numbers.NameNo.{NameNo}
use Rattle.pi_model.specs.declared.insn.Insn.{Insn}
use Rattle.pi_model.specs.declared.insn.Insn.TheVariants.{Move, MoveResult, Return, Const, ConstWide, ConstString, ConstClass, NewInstance, InstanceOf, NewArray, ArrayLength, Filled, FillArray, Aget, Aput, Iget, Iput, Goto, If, Invoke, ReturnVoid}
use Rattle.pi_model.specs.declared.insn.Access.TheVariants.{Plain, Wide, Ref}
use Rattle.pi_model.specs.declared.insn.Cond.TheVariants.{Eq}
use Rattle.pi_model.specs.declared.insn.How.TheVariants.{Virtual, Super, Static}
use Rattle.pi_model.specs.declared.insn.Kind.TheVariants as kind
use Rattle.pi_model.specs.Program.{Program}
use Rattle.pi_machine.specs.Printed.{printed_text}
use Rattle.pi_machine.proofs.Examples.{Same, outcome, Outcomes, prints_in, throws_in, prints, throws}
use Rattle.pi_machine.proofs.Sample.{no, object, string, class_class, text_class, cloneable, int, long, bool, char, ints, longs, chars, own, class, code, method, instance_field, field_ref, method_ref, chain, main_method, print, print_long, print_text}
use Rattle.pi_machine.proofs.Layouts.{a, b, x}

-- the calls; each leaves its result in register 1 but for those of arrays and longs
abbrev clone : ℕ → ℕ → List Insn
clone to from = Invoke Virtual (method_ref object (no 51) [] object) (from ∷ []) ∷ MoveResult kind.Ref to ∷ []

abbrev get_class : ℕ → ℕ → List Insn
get_class to from = Invoke Virtual (method_ref object (no 52) [] class_class) (from ∷ []) ∷ MoveResult kind.Ref to ∷ []

abbrev text_length : ℕ → List Insn
text_length a = Invoke Virtual (method_ref string (no 53) [] int) (a ∷ []) ∷ MoveResult kind.Word 1 ∷ print 1 ∷ []

abbrev char_at : ℕ → ℕ → List Insn
char_at a i = Const 1 i ∷ Invoke Virtual (method_ref string (no 54) (int ∷ []) char) (a ∷ 1 ∷ []) ∷ MoveResult kind.Word 1 ∷ print 1 ∷ []

abbrev equals : ℕ → ℕ → List Insn
equals a b = Invoke Virtual (method_ref string (no 55) (object ∷ []) bool) (a ∷ b ∷ []) ∷ MoveResult kind.Word 1 ∷ print 1 ∷ []

abbrev concat : ℕ → ℕ → ℕ → List Insn
concat to a b = Invoke Virtual (method_ref string (no 56) (string ∷ []) string) (a ∷ b ∷ []) ∷ MoveResult kind.Ref to ∷ []

abbrev of_long : ℕ → ℕ → List Insn
of_long to a = Invoke Static (method_ref text_class (no 58) (long ∷ []) string) (a ∷ (a + 1) ∷ []) ∷ MoveResult kind.Ref to ∷ []

abbrev of_chars : ℕ → ℕ → ℕ → ℕ → List Insn
of_chars to a at count = Invoke Static (method_ref text_class (no 59) (chars ∷ int ∷ int ∷ []) string) (a ∷ at ∷ count ∷ []) ∷ MoveResult kind.Ref to ∷ []

-- A B of one byte, an e with an accent of two, the euro sign of three, a pair of four; a high half before another unit
-- and a low half alone are question marks. The text is a literal.
abbrev units : List ℕ
units = 66 ∷ 0xe9 ∷ 0x20ac ∷ 0xd83d ∷ 0xde00 ∷ 0xd83d ∷ 66 ∷ 0xde00 ∷ []

-- prints of numbers and texts
prints_values : Outcomes (
    -- ints print as signed numbers
    prints (Const 0 0xffffffff ∷ print 0 ∷ Const 0 0 ∷ print 0 ∷ Const 0 0x80000000 ∷ print 0 ∷ Const 0 0x7fffffff ∷ print 0 ∷ ReturnVoid ∷ []) (codes "-1\n0\n-2147483648\n2147483647\n") 13
    -- and so do longs
    ∷ prints (ConstWide 0 0xffffffffffffffff ∷ print_long 0 ∷ ConstWide 0 4294967295 ∷ print_long 0 ∷ ConstWide 0 0x8000000000000000 ∷ print_long 0 ∷ ConstWide 0 0x7fffffffffffffff ∷ print_long 0 ∷ ReturnVoid ∷ [])
    (codes "-1\n4294967295\n-9223372036854775808\n9223372036854775807\n") 13
    -- a print of the text null throws NullPointerException
    ∷ throws (Const 0 0 ∷ print_text 0 ∷ ReturnVoid ∷ []) 9 7
    -- with its length, which counts units
    ∷ prints_in (chain (codes "LT;" ∷ units ∷ []) (class 1 (own 0) 1 (Some object) [] [] (main_method (ConstString 0 (own 1) ∷ print_text 0 ∷ text_length 0 ++ ReturnVoid ∷ []) [] ∷ []) ∷ []))
    (66 ∷ 0xc3 ∷ 0xa9 ∷ 0xe2 ∷ 0x82 ∷ 0xac ∷ 0xf0 ∷ 0x9f ∷ 0x98 ∷ 0x80 ∷ 63 ∷ 66 ∷ 63 ∷ codes "8\n") 10
    ∷ [])
unfolding outcome
prints_values = refl

-- texts as bytes
printed_texts : Same (
    -- the ends of each length in bytes
    (printed_text (0 ∷ 0x7f ∷ []), 0 ∷ 0x7f ∷ [])
    -- of two bytes
    ∷ (printed_text (0x80 ∷ 0x7ff ∷ []), 0xc2 ∷ 0x80 ∷ 0xdf ∷ 0xbf ∷ [])
    -- of three, on both sides of the surrogates
    ∷ (printed_text (0x800 ∷ 0xd7ff ∷ 0xe000 ∷ 0xffff ∷ []), 0xe0 ∷ 0xa0 ∷ 0x80 ∷ 0xed ∷ 0x9f ∷ 0xbf ∷ 0xee ∷ 0x80 ∷ 0x80 ∷ 0xef ∷ 0xbf ∷ 0xbf ∷ [])
    -- of four
    ∷ (printed_text (0xd800 ∷ 0xdc00 ∷ 0xdbff ∷ 0xdfff ∷ []), 0xf0 ∷ 0x90 ∷ 0x80 ∷ 0x80 ∷ 0xf4 ∷ 0x8f ∷ 0xbf ∷ 0xbf ∷ [])
    -- a high half at the end, two high halves before a low one, and two halves in the wrong order
    ∷ (
      printed_text (0xd83d ∷ []) ++ printed_text (0xd83d ∷ 0xd83d ∷ 0xde00 ∷ []) ++ printed_text (0xde00 ∷ 0xd83d ∷ []),
      63 ∷ 63 ∷ 0xf0 ∷ 0x9f ∷ 0x98 ∷ 0x80 ∷ 63 ∷ 63 ∷ [],
    )
    -- the first and the last half of each sort
    ∷ (printed_text (0xd800 ∷ 65 ∷ 0xdbff ∷ 65 ∷ 0xdc00 ∷ 0xdfff ∷ []), 63 ∷ 65 ∷ 63 ∷ 65 ∷ 63 ∷ 63 ∷ [])
    ∷ [])
printed_texts = refl

-- from an address on: 1 is printed where the registers 1 and 2 hold the same reference, else 0
abbrev same : ℕ → List Insn
same at = If Eq 1 2 (at + 3) ∷ Const 3 0 ∷ Goto (at + 4) ∷ Const 3 1 ∷ print 3 ∷ []

-- the natives of texts
natives_of_texts : Outcomes (
    -- a pair that is split over two prints is two question marks, and one that is put together is one character
    prints_in (chain (codes "LT;" ∷ (0xd83d ∷ []) ∷ (0xde00 ∷ []) ∷ []) (class 1 (own 0) 1 (Some object) [] [] (
    main_method (ConstString 0 (own 1) ∷ ConstString 1 (own 2) ∷ print_text 0 ∷ print_text 1 ∷ concat 2 0 1 ++ print_text 2 ∷ ReturnVoid ∷ []) [] ∷ []) ∷ []))
    (63 ∷ 63 ∷ 0xf0 ∷ 0x9f ∷ 0x98 ∷ 0x80 ∷ []) 12
    -- the length of the literal "print", and its first and its last unit
    ∷ prints (ConstString 0 (no 49) ∷ text_length 0 ++ char_at 0 0 ++ char_at 0 4 ++ ReturnVoid ∷ []) (codes "5\n112\n116\n") 17
    -- charAt out of range throws StringIndexOutOfBoundsException: at the length, at -1, at the least int
    ∷ throws (ConstString 0 (no 49) ∷ char_at 0 5) 18 8
    -- at -1
    ∷ throws (ConstString 0 (no 49) ∷ char_at 0 0xffffffff) 18 8
    -- at the least int
    ∷ throws (ConstString 0 (no 49) ∷ char_at 0 0x80000000) 18 8
    -- equals: itself, another text of the same units, another text, one that begins with it, null
    ∷ prints (ConstString 0 (no 30) ∷ ConstString 2 (no 31) ∷ concat 3 0 2 ++ concat 4 0 2 ++ equals 0 0 ++ equals 3 4 ++ equals 0 2 ++ equals 0 3 ++ Const 5 0 ∷ equals 0 5 ++ ReturnVoid ∷ [])
    (codes "1\n1\n0\n0\n0\n") 27
    -- and what is no text: an Object, an array of chars, the class object
    ∷ prints (ConstString 0 (no 30) ∷ NewInstance 2 object ∷ ConstClass 3 int ∷ Const 4 1 ∷ NewArray 4 4 chars ∷ equals 0 2 ++ equals 0 3 ++ equals 0 4 ++ ReturnVoid ∷ []) (codes "0\n0\n0\n") 19
    -- concat gives a text of the units of both
    ∷ prints (ConstString 0 (no 49) ∷ ConstString 2 (no 50) ∷ concat 3 0 2 ++ print_text 3 ∷ concat 3 3 3 ++ text_length 3 ++ ReturnVoid ∷ []) (codes "printtext18\n") 15
    -- with null it throws NullPointerException
    ∷ throws (ConstString 0 (no 49) ∷ Const 2 0 ∷ concat 3 0 2) 9 8
    -- concat with a text of no unit makes a new text too
    ∷ prints_in (chain (codes "LT;" ∷ [] ∷ []) (class 1 (own 0) 1 (Some object) [] [] (main_method (ConstString 1 (no 49) ∷ ConstString 2 (own 1) ∷ concat 2 1 2 ++ same 6 ++ equals 1 2 ++ ReturnVoid ∷ []) [] ∷ []) ∷ []))
    (codes "0\n1\n") 16
    ∷ [])
unfolding outcome
natives_of_texts = refl

-- the array of the chars a, b, c in register 0, then a text of so many of them from a place
abbrev from_chars : ℕ → ℕ → List Insn
from_chars at count = Const 1 3 ∷ NewArray 0 1 chars ∷ FillArray 0 2 (97 ∷ 98 ∷ 99 ∷ []) ∷ Const 1 at ∷ Const 2 count ∷ of_chars 3 0 1 2 ++ print_text 3 ∷ ReturnVoid ∷ []

-- texts of longs and of chars
new_texts : Outcomes (
    -- a text of a long: of 0, of -1, of the least and the greatest
    prints (ConstWide 0 0 ∷ of_long 2 0 ++ print_text 2 ∷ ConstWide 0 0xffffffffffffffff ∷ of_long 2 0 ++ print_text 2 ∷ ConstWide 0 0x7fffffffffffffff ∷ of_long 2 0 ++ print_text 2
    ∷ ConstWide 0 0x8000000000000000 ∷ of_long 2 0 ++ print_text 2 ∷ text_length 2 ++ ReturnVoid ∷ [])
    (codes "0-19223372036854775807-922337203685477580820\n") 24
    -- two of them
    ∷ prints (from_chars 1 2) (codes "bc") 13
    -- all of them
    ∷ prints (from_chars 0 3) (codes "abc") 13
    -- none, at the end
    ∷ prints (from_chars 3 0) [] 13
    -- a range that is not in the array throws ArrayIndexOutOfBoundsException
    ∷ throws (from_chars 0xffffffff 1) 17 11
    -- a negative number of chars
    ∷ throws (from_chars 1 0xffffffff) 17 11
    -- a range that goes past the end
    ∷ throws (from_chars 2 2) 17 11
    -- no char, but behind the end
    ∷ throws (from_chars 4 0) 17 11
    -- null is tested before the range
    ∷ throws (Const 0 0 ∷ Const 1 0xffffffff ∷ of_chars 3 0 1 1) 9 8
    -- the text keeps its units when the array changes
    ∷ prints (Const 1 1 ∷ NewArray 0 1 chars ∷ Const 2 0 ∷ FillArray 0 2 (97 ∷ []) ∷ of_chars 3 0 2 1 ++ FillArray 0 2 (98 ∷ []) ∷ print_text 3 ∷ ReturnVoid ∷ []) (codes "a") 13
    ∷ [])
unfolding outcome
new_texts = refl

-- LA; has fields and is a Cloneable, LB; and LC; are below it, and LC; has a clone that calls the one above; LN; is none;
-- LM; implements LK;, an interface below Cloneable
abbrev n : NameNo
n = own 3

abbrev m : NameNo
m = own 4

abbrev arrays_of_n : NameNo
arrays_of_n = own 7

abbrev world : List Insn → Program
world insns = chain (codes "LT;" ∷ codes "LA;" ∷ codes "LB;" ∷ codes "LN;" ∷ codes "LM;" ∷ codes "LK;" ∷ codes "x" ∷ codes "[LN;" ∷ codes "LC;" ∷ []) (
    class 1 (own 0) 1 (Some object) [] [] (main_method insns [] ∷ [])
    ∷ class 1 a 1 (Some object) (cloneable ∷ []) (instance_field x int ∷ instance_field x long ∷ instance_field x string ∷ []) []
    ∷ class 1 b 1 (Some a) [] [] []
    ∷ class 1 n 1 (Some object) [] [] []
    ∷ class 1 m 1 (Some object) (own 5 ∷ []) [] []
    ∷ class 1 (own 5) 0x601 (Some object) (cloneable ∷ []) [] []
    ∷ class 1 (own 8) 1 (Some a) [] [] (method (no 51) [] object 1 (code 2 1 (Invoke Super (method_ref object (no 51) [] object) (1 ∷ []) ∷ MoveResult kind.Ref 0 ∷ Return kind.Ref 0 ∷ []) []) ∷ [])
    ∷ [])

-- clones
clones : Outcomes (
    -- a clone has the fields of the instance, and is another object of the same class
    prints_in (world (NewInstance 0 b ∷ Const 1 7 ∷ Iput Plain 1 0 (field_ref a x int) ∷ ConstWide 1 5000000000 ∷ Iput Wide 1 0 (field_ref a x long) ∷ ConstString 1 (no 50) ∷ Iput Ref 1 0 (field_ref a x string)
    ∷ clone 4 0 ++ Const 1 8 ∷ Iput Plain 1 0 (field_ref a x int) ∷ Iget Plain 1 4 (field_ref a x int) ∷ print 1 ∷ Iget Wide 1 4 (field_ref a x long) ∷ print_long 1 ∷ Iget Ref 1 4 (field_ref a x string) ∷ print_text 1
    ∷ InstanceOf 1 4 b ∷ print 1 ∷ ReturnVoid ∷ []))
    (codes "7\n5000000000\ntext1\n") 30
    -- a clone by invoke-super is of the receiver's class, not of that of the code; three steps in the method
    ∷ prints_in (world (NewInstance 0 (own 8) ∷ Const 1 7 ∷ Iput Plain 1 0 (field_ref a x int) ∷ clone 4 0 ++ InstanceOf 1 4 (own 8) ∷ print 1 ∷ Iget Plain 1 4 (field_ref a x int) ∷ print 1 ∷ ReturnVoid ∷ []))
    (codes "1\n7\n") 23
    -- a class is Cloneable by an interface of its interface too
    ∷ prints_in (world (NewInstance 0 m ∷ clone 1 0 ++ Move kind.Ref 2 0 ∷ same 6 ++ ReturnVoid ∷ [])) (codes "0\n") 16
    -- what is not Cloneable throws CloneNotSupportedException: an instance, a literal, a new text, a class object
    ∷ throws_in (world (NewInstance 0 n ∷ clone 1 0)) 7 10
    -- a literal
    ∷ throws_in (world (ConstString 0 string ∷ clone 1 0)) 7 7
    -- a new text
    ∷ throws_in (world (ConstString 0 string ∷ concat 0 0 0 ++ clone 1 0)) 7 9
    -- a class object, also one of a Cloneable class
    ∷ throws_in (world (ConstClass 0 a ∷ clone 1 0)) 7 7
    -- a clone of an array has its elements, and does not change with it
    ∷ prints_in (world (Const 4 5 ∷ Const 5 6 ∷ Filled ints (4 ∷ 5 ∷ []) ∷ MoveResult kind.Ref 0 ∷ clone 1 0 ++ Const 2 1 ∷ Aput Plain 2 0 2 ∷ Aget Plain 3 1 2 ∷ print 3 ∷ ArrayLength 3 1 ∷ print 3 ∷ InstanceOf 3 1 ints ∷ print 3 ∷ ReturnVoid ∷ []))
    (codes "6\n2\n1\n") 19
    -- longs are cloned whole
    ∷ prints_in (world (Const 0 1 ∷ NewArray 0 0 longs ∷ FillArray 0 8 (5000000000 ∷ []) ∷ clone 1 0 ++ Const 2 0 ∷ Aget Wide 3 1 2 ∷ print_long 3 ∷ ReturnVoid ∷ [])) (codes "5000000000\n") 13
    -- the elements of an array of references are the same objects, though their class is not Cloneable
    ∷ prints_in (world (NewInstance 1 n ∷ Const 0 1 ∷ NewArray 0 0 arrays_of_n ∷ Const 3 0 ∷ Aput Ref 1 0 3 ∷ clone 0 0 ++ Aget Ref 2 0 3 ∷ same 10 ++ ReturnVoid ∷ [])) (codes "1\n") 19
    -- of an array of no element too
    ∷ prints_in (world (Const 0 0 ∷ NewArray 0 0 ints ∷ clone 1 0 ++ ArrayLength 2 1 ∷ print 2 ∷ ReturnVoid ∷ [])) (codes "0\n") 11
    -- null has no clone and no class
    ∷ throws_in (world (Const 0 0 ∷ clone 1 0)) 9 7
    ∷ [])
unfolding outcome
clones = refl

-- in register 1 the class of what register 0 holds, in 2 the class object of a type: are they the same?
abbrev asks : NameNo → ℕ → List Insn
asks t at = get_class 1 0 ++ ConstClass 2 t ∷ same (at + 5) ++ ReturnVoid ∷ []

-- the classes of objects
classes_of_objects : Outcomes (
    -- nor has it a class
    throws_in (world (Const 0 0 ∷ get_class 1 0)) 9 7
    -- the class of an instance is its own, not that above it
    ∷ prints_in (world (NewInstance 0 b ∷ asks b 1)) (codes "1\n") 18
    -- and so not the one above
    ∷ prints_in (world (NewInstance 0 b ∷ asks a 1)) (codes "0\n") 19
    -- that of an array is its type, that of a text String, and that of a class object Class
    ∷ prints_in (world (Const 0 1 ∷ NewArray 0 0 arrays_of_n ∷ asks arrays_of_n 2)) (codes "1\n") 13
    -- a text
    ∷ prints_in (world (ConstString 0 int ∷ asks string 1)) (codes "1\n") 12
    -- a class object
    ∷ prints_in (world (ConstClass 0 a ∷ asks class_class 1)) (codes "1\n") 12
    ∷ [])
unfolding outcome
classes_of_objects = refl
