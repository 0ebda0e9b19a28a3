-- Calls through a running main. Four steps come before its first instruction; a call is one step, and so is a return.
use Rattle.std.proofs.Common.{Some, None, ℕ, ◌+◌, List, [], ◌∷◌, ◌++◌, Option, refl}
use Rattle.std.specs.Prelude.{codes}
use Rattle.pi_model.specs.declared.numbers.NameNo.{NameNo}
use Rattle.pi_model.specs.declared.describe.Catch.{Catch}
use Rattle.pi_model.specs.declared.describe.Code.{Code}
use Rattle.pi_model.specs.declared.describe.MethodDesc.{MethodDesc}
use Rattle.pi_model.specs.declared.insn.Insn.{Insn}
use Rattle.pi_model.specs.declared.insn.Insn.TheVariants.{MoveResult, MoveException, Return, Const, ConstWide, ConstString, ConstClass, NewInstance, InstanceOf, NewArray, ArrayLength, If, IfZ, Goto, Iget, Iput, Invoke, Binary, BinaryLit, ReturnVoid}
use Rattle.pi_model.specs.declared.insn.Access.TheVariants.{Plain}
use Rattle.pi_model.specs.declared.insn.Arith.TheVariants.{Int}
use Rattle.pi_model.specs.declared.insn.BinOp.TheVariants.{Add, Mul}
use Rattle.pi_model.specs.declared.insn.Cond.TheVariants.{Eq, Gt}
use Rattle.pi_model.specs.declared.insn.How.{How}
use Rattle.pi_model.specs.declared.insn.How.TheVariants.{Virtual, Super, Direct, Static, Interface}
use Rattle.pi_model.specs.declared.insn.Kind.TheVariants as kind
use Rattle.pi_model.specs.Program.{Program}
use Rattle.pi_machine.proofs.Examples.{Run, outcome, Outcomes, prints_in, throws_in}
use Rattle.pi_machine.proofs.Sample.{no, object, string, class_class, int, long, void, ints, init, own, class, code, handler, method, instance_field, field_ref, method_ref, chain, main_method, print, print_long}
use Rattle.pi_machine.proofs.Layouts.{a, b, c, i, j, x, y, z, f, a_array}

-- The classes, by the numbers of their names: LB; below LA;, LC; below LB;, LD; and LE; below LA;. LB; implements LI;,
-- an interface below LJ;. LX; is abstract and implements LI;, and LY; and LW; are below it.
abbrev d : NameNo
d = own 9

abbrev e : NameNo
e = own 12

abbrev w : NameNo
w = own 13

-- m and q are found by the receiver's type, s and u call m of the superclass
abbrev m : NameNo
m = own 14

abbrev p : NameNo
p = own 15

abbrev q : NameNo
q = own 16

abbrev s : NameNo
s = own 17

abbrev u : NameNo
u = own 18

abbrev clone : NameNo
clone = no 51

abbrev get_class : NameNo
get_class = no 52

-- a method without parameters that gives a number, in two steps; with flags, and by the receiver's type
abbrev with_flags : NameNo → ℕ → ℕ → MethodDesc
with_flags name flags n = method name [] int flags (code 2 1 (Const 0 n ∷ Return kind.Word 0 ∷ []) [])

abbrev gives : NameNo → ℕ → MethodDesc
gives name n = with_flags name 1 n

abbrev abstract : NameNo → MethodDesc
abstract name = method name [] int 0x401 None

-- a method that calls m of the superclass, as a class names it, and gives its result; three steps and those of m
abbrev calls_above : NameNo → NameNo → MethodDesc
calls_above name class = method name [] int 1 (code 2 1 (Invoke Super (method_ref class m [] int) (1 ∷ []) ∷ MoveResult kind.Word 0 ∷ Return kind.Word 0 ∷ []) [])

-- static methods: they print their first register and their arguments; and a factorial
abbrev pair : Option Code
pair = code 4 2 (print 0 ∷ print 2 ∷ print 3 ∷ ReturnVoid ∷ []) []

abbrev with_long : Option Code
with_long = code 5 4 (print 0 ∷ print 1 ∷ print_long 2 ∷ print 4 ∷ ReturnVoid ∷ []) []

abbrev seven : Option Code
seven = code 8 7 (print 1 ∷ print 6 ∷ print 7 ∷ ReturnVoid ∷ []) []

abbrev factorial : Option Code
factorial = code 3 1 (IfZ Gt 2 3 ∷ Const 0 1 ∷ Return kind.Word 0 ∷ BinaryLit Add 0 2 0xffffffff ∷ Invoke Static (method_ref (own 0) f (int ∷ []) int) (0 ∷ [])
    ∷ MoveResult kind.Word 0 ∷ Binary (Int Mul) 0 0 2 ∷ Return kind.Word 0 ∷ []) []

abbrev seven_ints : List NameNo
seven_ints = int ∷ int ∷ int ∷ int ∷ int ∷ int ∷ int ∷ []

abbrev catching : List Insn → List Catch → Program
catching insns tries = chain (
    codes "LT;" ∷ codes "LA;" ∷ codes "LB;" ∷ codes "LC;" ∷ codes "LI;" ∷ codes "LJ;" ∷ codes "LX;" ∷ codes "LY;" ∷ codes "f" ∷ codes "LD;" ∷ codes "z" ∷ codes "[LA;"
    ∷ codes "LE;" ∷ codes "LW;" ∷ codes "m" ∷ codes "p" ∷ codes "q" ∷ codes "s" ∷ codes "u" ∷ []) (
    class 1 (own 0) 1 (Some object) [] [] (main_method insns tries
    ∷ method f (int ∷ int ∷ []) void 9 pair ∷ method f (int ∷ long ∷ int ∷ []) void 9 with_long ∷ method f seven_ints void 9 seven ∷ method f (int ∷ []) int 9 factorial ∷ [])
    ∷ class 1 a 1 (Some object) [] (instance_field f int ∷ [])
    (method init (int ∷ []) void 0x10001 (code 2 2 (Iput Plain 1 0 (field_ref a f int) ∷ ReturnVoid ∷ []) [])
    ∷ with_flags p 2 3 ∷ method z [] int 9 (code 1 0 (Const 0 9 ∷ Return kind.Word 0 ∷ []) [])
    ∷ gives m 1 ∷ method m (long ∷ []) long 1 (code 3 3 (Return kind.Wide 1 ∷ []) []) ∷ [])
    ∷ class 1 b 1 (Some a) (i ∷ []) [] (gives m 2 ∷ gives p 30 ∷ gives q 6 ∷ calls_above s a ∷ calls_above u b ∷ [])
    ∷ class 1 c 1 (Some b) [] [] (calls_above z a ∷ [])
    ∷ class 1 d 1 (Some a) [] [] (with_flags m 2 4 ∷ [])
    ∷ class 1 e 1 (Some a) [] [] (method m [] int 9 (code 1 0 (Const 0 5 ∷ Return kind.Word 0 ∷ []) []) ∷ method clone [] object 1 (code 2 1 (Const 0 0 ∷ Return kind.Ref 0 ∷ []) []) ∷ [])
    ∷ class 1 i 0x601 (Some object) (j ∷ []) [] (abstract m ∷ abstract z ∷ [])
    ∷ class 1 j 0x601 (Some object) [] [] (abstract q ∷ [])
    ∷ class 1 x 0x401 (Some object) (i ∷ []) [] (abstract m ∷ [])
    ∷ class 1 y 1 (Some x) [] [] (calls_above s x ∷ [])
    ∷ class 1 w 1 (Some x) [] [] (gives m 8 ∷ [])
    ∷ [])

abbrev world : List Insn → Program
world insns = catching insns []

abbrev shows : List Insn → List ℕ → ℕ → Run
shows insns output steps = prints_in (world insns) output steps

-- a method of a class without parameters is called with register 0, and its result is printed: three steps and its own
abbrev calls : How → NameNo → NameNo → List Insn
calls how class name = Invoke how (method_ref class name [] int) (0 ∷ []) ∷ MoveResult kind.Word 1 ∷ print 1 ∷ []

-- static methods and their arguments
static_calls : Outcomes (
    -- arguments arrive in the last registers in the order of the call, and the others begin as 0
    shows (Const 1 5 ∷ Const 2 6 ∷ Invoke Static (method_ref (own 0) f (int ∷ int ∷ []) void) (2 ∷ 1 ∷ []) ∷ print 1 ∷ ReturnVoid ∷ []) (codes "0\n6\n5\n5\n") 13
    -- a long is two arguments
    ∷ shows (Const 0 5 ∷ ConstWide 1 5000000000 ∷ Const 3 6 ∷ Invoke Static (method_ref (own 0) f (int ∷ long ∷ int ∷ []) void) (0 ∷ 1 ∷ 2 ∷ 3 ∷ []) ∷ ReturnVoid ∷ [])
    (codes "0\n5\n5000000000\n6\n") 14
    -- many arguments in a row
    ∷ shows (Const 1 1 ∷ Const 6 6 ∷ Const 7 7 ∷ Invoke Static (method_ref (own 0) f seven_ints void) (1 ∷ 2 ∷ 3 ∷ 4 ∷ 5 ∷ 6 ∷ 7 ∷ []) ∷ ReturnVoid ∷ [])
    (codes "1\n6\n7\n") 13
    -- a method that calls itself: six steps for each of 3, 2 and 1, and three for 0
    ∷ shows (Const 0 3 ∷ Invoke Static (method_ref (own 0) f (int ∷ []) int) (0 ∷ []) ∷ MoveResult kind.Word 0 ∷ print 0 ∷ ReturnVoid ∷ []) (codes "6\n") 30
    -- a static method is found in the superclass, whose class alone is entered
    ∷ shows (Invoke Static (method_ref b z [] int) [] ∷ MoveResult kind.Word 1 ∷ print 1 ∷ ReturnVoid ∷ []) (codes "9\n") 13
    ∷ [])
unfolding outcome
static_calls = refl

-- methods by the receiver's class, by the code's class, and private ones
methods_by_receiver : Outcomes (
    -- the receiver's class decides: its own m, that of LB;, and for LC; the one it inherits
    shows (NewInstance 0 a ∷ calls Virtual a m ++ NewInstance 0 b ∷ calls Virtual a m ++ NewInstance 0 c ∷ calls Virtual a m ++ ReturnVoid ∷ []) (codes "1\n2\n2\n") 32
    -- a private or a static method of that name overrides nothing
    ∷ shows (NewInstance 0 d ∷ calls Virtual a m ++ calls Direct d m ++ ReturnVoid ∷ []) (codes "1\n4\n") 22
    -- nor does a static one
    ∷ shows (NewInstance 0 e ∷ calls Virtual a m ++ ReturnVoid ∷ []) (codes "1\n") 17
    -- a method of the same name and another prototype is another method; the receiver comes before the long
    ∷ shows (NewInstance 0 b ∷ ConstWide 1 5000000000 ∷ Invoke Virtual (method_ref b m (long ∷ []) long) (0 ∷ 1 ∷ 2 ∷ []) ∷ MoveResult kind.Wide 3 ∷ print_long 3 ∷ ReturnVoid ∷ [])
    (codes "5000000000\n") 17
    -- invoke-super begins above the class of the code, whatever class the receiver or the reference is of: LB; calls the m
    -- of LA;, and LC; that of LB;
    ∷ shows (NewInstance 0 c ∷ calls Virtual b s ++ calls Virtual b u ++ calls Virtual c z ++ ReturnVoid ∷ []) (codes "1\n1\n2\n") 39
    -- invoke-direct calls the method that was found: a private one, though the receiver's class has a public one
    ∷ shows (NewInstance 0 b ∷ calls Direct a p ++ calls Virtual b p ++ ReturnVoid ∷ []) (codes "3\n30\n") 22
    -- a constructor sets a field of the new instance
    ∷ shows (NewInstance 0 a ∷ Const 1 5 ∷ Invoke Direct (method_ref a init (int ∷ []) void) (0 ∷ 1 ∷ []) ∷ Iget Plain 2 0 (field_ref a f int) ∷ print 2 ∷ ReturnVoid ∷ []) (codes "5\n") 15
    ∷ [])
unfolding outcome
methods_by_receiver = refl

-- methods of interfaces
interface_calls : Outcomes (
    -- an interface's method is that of the receiver's class, also one of a superinterface and one that a subclass inherits
    shows (NewInstance 0 c ∷ calls Interface i m ++ calls Interface i q ++ calls Interface j q ++ ReturnVoid ∷ []) (codes "2\n6\n6\n") 30
    -- a class below an abstract one that implements the interface
    ∷ shows (NewInstance 0 w ∷ calls Interface i m ++ calls Virtual x m ++ ReturnVoid ∷ []) (codes "8\n8\n") 22
    -- a receiver without the interface throws IncompatibleClassChangeError, though it has such a method
    ∷ throws_in (world (NewInstance 0 a ∷ calls Interface i m)) 22 10
    -- so do an array, a text and a class object
    ∷ throws_in (world (Const 0 1 ∷ NewArray 0 0 a_array ∷ calls Interface i m)) 22 8
    -- a text
    ∷ throws_in (world (ConstString 0 string ∷ calls Interface j q)) 22 7
    -- a class object, also one of a class with the interface
    ∷ throws_in (world (ConstClass 0 b ∷ calls Interface i m)) 22 7
    ∷ [])
unfolding outcome
interface_calls = refl

-- calls that find no method with code
abstract_calls : Outcomes (
    -- AbstractMethodError: the receiver's class has no such method
    throws_in (world (NewInstance 0 b ∷ calls Interface i z)) 23 13
    -- and where the nearest one is abstract: of a class, by an interface, above the code's class
    ∷ throws_in (world (NewInstance 0 y ∷ calls Virtual x m)) 23 13
    -- called by the interface
    ∷ throws_in (world (NewInstance 0 y ∷ calls Interface i m)) 23 13
    -- the throwable leaves the frame of s and that of main
    ∷ throws_in (world (NewInstance 0 y ∷ calls Virtual y s)) 23 15
    -- no method above the class of the code
    ∷ throws_in (world (NewInstance 0 a ∷ calls Super a m)) 23 10
    ∷ [])
unfolding outcome
abstract_calls = refl

-- 1 is printed where the class of register 0, called for in that way, is that of a type, else 0; six steps or seven
abbrev class_is : How → NameNo → NameNo → ℕ → List Insn
class_is how class t at = Invoke how (method_ref class get_class [] class_class) (0 ∷ []) ∷ MoveResult kind.Ref 1 ∷ ConstClass 2 t ∷ If Eq 1 2 (at + 8) ∷ Const 3 0 ∷ Goto (at + 9) ∷ Const 3 1 ∷ print 3 ∷ []

-- methods of Object, and of arrays
methods_of_object : Outcomes (
    -- where Object declares the method, an interface's call is one by the receiver's class: LA; has not the interface
    shows (NewInstance 0 a ∷ class_is Interface i a 1 ++ ReturnVoid ∷ []) (codes "1\n") 15
    -- an override of it is called
    ∷ shows (NewInstance 0 e ∷ Invoke Interface (method_ref i clone [] object) (0 ∷ []) ∷ MoveResult kind.Ref 1 ∷ print 1 ∷ ReturnVoid ∷ []) (codes "0\n") 17
    -- what a callee throws goes to the handler that covers its call, behind the step that leaves the callee's frame
    ∷ prints_in (catching (NewInstance 0 y ∷ calls Virtual y s ++ ReturnVoid ∷ MoveException 1 ∷ InstanceOf 2 1 (no 22) ∷ print 2 ∷ ReturnVoid ∷ []) (handler 1 2 (Some (no 23)) 9 ∷ []))
    (codes "1\n") 19
    -- methods of array types are those of Object
    ∷ shows (Const 0 3 ∷ NewArray 1 0 ints ∷ Invoke Virtual (method_ref ints clone [] object) (1 ∷ []) ∷ MoveResult kind.Ref 2 ∷ ArrayLength 3 2 ∷ print 3 ∷ ReturnVoid ∷ []) (codes "3\n") 11
    -- the class of an array is its type
    ∷ shows (Const 0 3 ∷ NewArray 0 0 a_array ∷ class_is Virtual a_array a_array 2 ++ ReturnVoid ∷ []) (codes "1\n") 13
    ∷ [])
unfolding outcome
methods_of_object = refl

-- receivers that are null
null_receivers : Outcomes (
    -- a null receiver throws NullPointerException in each way of a call, before the class or the method is looked at
    throws_in (world (Const 0 0 ∷ calls Virtual a m)) 9 7
    -- a native
    ∷ throws_in (world (Const 0 0 ∷ Invoke Virtual (method_ref string (no 53) [] int) (0 ∷ []) ∷ [])) 9 7
    -- invoke-super
    ∷ throws_in (world (Const 0 0 ∷ calls Super a m)) 9 7
    -- invoke-direct
    ∷ throws_in (world (Const 0 0 ∷ calls Direct a p)) 9 7
    -- invoke-interface, of a method that no class has
    ∷ throws_in (world (Const 0 0 ∷ calls Interface i z)) 9 7
    -- an abstract method
    ∷ throws_in (world (Const 0 0 ∷ calls Virtual x m)) 9 7
    ∷ [])
unfolding outcome
null_receivers = refl
