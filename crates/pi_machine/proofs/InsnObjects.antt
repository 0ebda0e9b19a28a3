-- Moves, constants, objects, fields and returns through a running main. Four steps come before its first instruction.
use Rattle.std.proofs.Common.{Some, None, ℕ, List, [], ◌∷◌, ◌++◌, refl}
use Rattle.std.specs.Prelude.{codes}
use Rattle.pi_model.specs.declared.numbers.NameNo.{NameNo}
use Rattle.pi_model.specs.declared.describe.ClassDesc.{ClassDesc}
use Rattle.pi_model.specs.declared.describe.Catch.{Catch}
use Rattle.pi_model.specs.declared.insn.Insn.{Insn}
use Rattle.pi_model.specs.declared.insn.Insn.TheVariants.{Nop, Goto, Move, MoveResult, MoveException, Return, Const, ConstWide, ConstString, ConstClass, NewInstance, InstanceOf, IfZ, Throw, Monitor, Iget, Iput, Sget, Sput, Invoke, ReturnVoid}
use Rattle.pi_model.specs.declared.insn.Cond.TheVariants.{Eq}
use Rattle.pi_model.specs.declared.insn.How.TheVariants.{Static}
use Rattle.pi_model.specs.declared.insn.Access.{Access}
use Rattle.pi_model.specs.declared.insn.Access.TheVariants.{Plain, Wide, Ref, Bool, Byte, Char, Short}
use Rattle.pi_model.specs.declared.insn.FieldRef.{FieldRef}
use Rattle.pi_model.specs.declared.insn.Kind.TheVariants as kind
use Rattle.pi_model.specs.Program.{Program}
use Rattle.pi_machine.specs.Ends.{Uncaught}
use Rattle.pi_machine.proofs.Examples.{Run, outcome, Outcomes, ends_with, prints_in, throws_in, prints, throws}
use Rattle.pi_machine.proofs.Sample.{no, object, string, class_class, throwable, exception, runtime_exception, arithmetic, null_pointer, int, long, bool, byte, char, short, void, message, own, class, code, handler, method, static_field, instance_field, field_ref, method_ref, chain, main_method, main_program, wide, finish, print, print_long, print_text}
use Rattle.pi_machine.proofs.Layouts.{a, b, c, x, y}

-- LA; with a static field s and an instance field x of each type, LB; below it with a field y, and LC; below that with
-- an x of its own
abbrev s : NameNo
s = own 4

abbrev m : NameNo
m = own 5

abbrev types : List NameNo
types = int ∷ long ∷ bool ∷ byte ∷ char ∷ short ∷ string ∷ []

abbrev class_a : ClassDesc
class_a = class 1 a 1 (Some object) []
    (static_field s int ∷ static_field s long ∷ static_field s bool ∷ static_field s byte ∷ static_field s char ∷ static_field s short ∷ static_field s string
    ∷ instance_field x int ∷ instance_field x long ∷ instance_field x bool ∷ instance_field x byte ∷ instance_field x char ∷ instance_field x short ∷ instance_field x string ∷ []) []

abbrev class_b : ClassDesc
class_b = class 1 b 1 (Some a) [] (instance_field y int ∷ []) []

abbrev class_c : ClassDesc
class_c = class 1 c 1 (Some b) [] (instance_field x int ∷ []) []

-- main of these instructions in LT;, which has a static method m of each result behind main
abbrev world : List Insn → List Catch → Program
world insns tries = chain (codes "LT;" ∷ codes "LA;" ∷ codes "LB;" ∷ codes "LC;" ∷ codes "s" ∷ codes "m" ∷ codes "x" ∷ codes "y" ∷ []) (
    class 1 (own 0) 1 (Some object) [] [] (
    main_method insns tries
    ∷ method m [] int 9 (code 1 0 (Const 0 7 ∷ Return kind.Word 0 ∷ []) [])
    ∷ method m [] long 9 (code 3 0 (ConstWide 1 5000000000 ∷ Return kind.Wide 1 ∷ []) [])
    ∷ method m [] string 9 (code 1 0 (ConstString 0 string ∷ Return kind.Ref 0 ∷ []) [])
    ∷ method m [] object 9 (code 1 0 (Const 0 0 ∷ Return kind.Ref 0 ∷ []) [])
    ∷ method m [] void 9 (code 0 0 (Nop ∷ ReturnVoid ∷ []) [])
    ∷ [])
    ∷ class_a ∷ class_b ∷ class_c ∷ [])

abbrev shows : List Insn → List ℕ → ℕ → Run
shows insns output steps = prints_in (world insns []) output steps

-- the field x and the static field s of LA;, by type
abbrev x_of : NameNo → FieldRef
x_of ty = field_ref a x ty

abbrev s_of : NameNo → FieldRef
s_of ty = field_ref a s ty

-- moves and constants
moves_and_constants : Outcomes (
    -- nop goes on
    prints (Nop ∷ Nop ∷ ReturnVoid ∷ []) [] 7
    -- moves of a word, a long, a reference and null
    ∷ prints (Const 0 3 ∷ Move kind.Word 1 0 ∷ print 1 ∷ ConstWide 2 5000000000 ∷ Move kind.Wide 4 2 ∷ print_long 4 ∷ ConstString 2 string ∷ Move kind.Ref 3 2 ∷ print_text 3 ∷ Const 2 0 ∷ Move kind.Ref 3 2 ∷ print 3 ∷ ReturnVoid ∷ [])
    (codes "3\n5000000000\nLjava/lang/String;0\n") 17
    -- a literal is the text of its name, without a newline when it is printed
    ∷ prints (ConstString 0 (no 50) ∷ print_text 0 ∷ ConstString 0 (no 49) ∷ print_text 0 ∷ ReturnVoid ∷ []) (codes "textprint") 9
    -- a class object is a Class, and its class is not entered
    ∷ shows (ConstClass 0 a ∷ InstanceOf 1 0 class_class ∷ print 1 ∷ InstanceOf 1 0 a ∷ print 1 ∷ ReturnVoid ∷ []) (codes "1\n0\n") 10
    ∷ [])
unfolding outcome
moves_and_constants = refl

-- a value is written to a field of the object in register 0, read back and printed
abbrev through : Access → NameNo → ℕ → List Insn
through kind ty n = Const 1 n ∷ Iput kind 1 0 (x_of ty) ∷ Iget kind 2 0 (x_of ty) ∷ print 2 ∷ []

-- fields of instances
instance_fields : Outcomes (
    -- A new instance has zero fields. Three steps enter its class first, set no static value, and leave it done.
    shows (NewInstance 0 a ∷ Iget Plain 1 0 (x_of int) ∷ print 1 ∷ Iget Wide 1 0 (x_of long) ∷ print_long 1 ∷ Iget Byte 1 0 (x_of byte) ∷ print 1 ∷ Iget Ref 1 0 (x_of string) ∷ IfZ Eq 1 16 ∷ Const 1 9 ∷ print 1 ∷ ReturnVoid ∷ [])
    (codes "0\n0\n0\n0\n") 18
    -- a word, a long and a reference are kept in fields
    ∷ shows (NewInstance 0 a ∷ Const 1 7 ∷ Iput Plain 1 0 (x_of int) ∷ ConstWide 2 5000000000 ∷ Iput Wide 2 0 (x_of long) ∷ ConstString 4 string ∷ Iput Ref 4 0 (x_of string)
    ∷ Iget Plain 5 0 (x_of int) ∷ print 5 ∷ Iget Wide 5 0 (x_of long) ∷ print_long 5 ∷ Iget Ref 5 0 (x_of string) ∷ print_text 5 ∷ ReturnVoid ∷ [])
    (codes "7\n5000000000\nLjava/lang/String;") 21
    -- null is kept in a field of references
    ∷ shows (NewInstance 0 a ∷ ConstString 1 string ∷ Iput Ref 1 0 (x_of string) ∷ Const 1 0 ∷ Iput Ref 1 0 (x_of string) ∷ Iget Ref 2 0 (x_of string) ∷ print 2 ∷ ReturnVoid ∷ []) (codes "0\n") 15
    -- narrow fields keep 8 or 16 bits: byte and short by their sign, char and boolean by zeros
    ∷ shows (NewInstance 0 a ∷ through Byte byte 0x180 ++ through Byte byte 0x17f ++ through Short short 0x18000 ++ through Short short 0x17fff
    ++ through Char char 0xffffffff ++ through Char char 0x12345 ++ through Bool bool 0x102 ++ through Bool bool 0xffffffff ++ ReturnVoid ∷ [])
    (codes "-128\n127\n-32768\n32767\n65535\n9029\n2\n255\n") 41
    -- fields of one object do not touch each other, nor those of another object
    ∷ shows (NewInstance 0 a ∷ NewInstance 3 a ∷ Const 1 1 ∷ Iput Byte 1 0 (x_of byte) ∷ Const 1 2 ∷ Iput Short 1 0 (x_of short) ∷ Const 1 3 ∷ Iput Byte 1 3 (x_of byte)
    ∷ Iget Byte 2 0 (x_of byte) ∷ print 2 ∷ Iget Short 2 0 (x_of short) ∷ print 2 ∷ Iget Char 2 0 (x_of char) ∷ print 2 ∷ Iget Byte 2 3 (x_of byte) ∷ print 2 ∷ ReturnVoid ∷ [])
    (codes "1\n2\n0\n3\n") 24
    -- A field of a superclass is found from its subclass too, beside the own one. The superclass is entered within the
    -- subclass: six steps before the instance.
    ∷ shows (NewInstance 0 b ∷ Const 1 7 ∷ Iput Plain 1 0 (field_ref b x int) ∷ Const 1 8 ∷ Iput Plain 1 0 (field_ref b y int)
    ∷ Iget Plain 2 0 (x_of int) ∷ print 2 ∷ Iget Plain 2 0 (field_ref b y int) ∷ print 2 ∷ ReturnVoid ∷ [])
    (codes "7\n8\n") 20
    -- a field of the same name and type in a subclass hides that of the superclass, and both are there
    ∷ shows (NewInstance 0 c ∷ Const 1 7 ∷ Iput Plain 1 0 (field_ref b x int) ∷ Const 1 8 ∷ Iput Plain 1 0 (field_ref c x int)
    ∷ Iget Plain 2 0 (x_of int) ∷ print 2 ∷ Iget Plain 2 0 (field_ref c x int) ∷ print 2 ∷ Iget Plain 2 0 (field_ref c y int) ∷ print 2 ∷ ReturnVoid ∷ [])
    (codes "7\n8\n0\n") 25
    ∷ [])
unfolding outcome
instance_fields = refl

-- fields of null
fields_of_null : Outcomes (
    -- null throws NullPointerException, for a read and a write of each kind in a register
    throws_in (world (Const 0 0 ∷ Iget Plain 1 0 (x_of int) ∷ ReturnVoid ∷ []) []) 9 7
    -- a long field of null
    ∷ throws_in (world (Const 0 0 ∷ Iget Wide 1 0 (x_of long) ∷ ReturnVoid ∷ []) []) 9 7
    -- a field of references of null
    ∷ throws_in (world (Const 0 0 ∷ Iget Ref 1 0 (x_of string) ∷ ReturnVoid ∷ []) []) 9 7
    -- a write of a short to null
    ∷ throws_in (world (Const 0 0 ∷ Iput Short 0 0 (x_of short) ∷ ReturnVoid ∷ []) []) 9 7
    -- a write of a long to null
    ∷ throws_in (world (Const 0 0 ∷ ConstWide 1 5 ∷ Iput Wide 1 0 (x_of long) ∷ ReturnVoid ∷ []) []) 9 8
    -- a write of a reference to null
    ∷ throws_in (world (Const 0 0 ∷ ConstString 1 string ∷ Iput Ref 1 0 (x_of string) ∷ ReturnVoid ∷ []) []) 9 8
    ∷ [])
unfolding outcome
fields_of_null = refl

abbrev through_static : Access → NameNo → ℕ → List Insn
through_static kind ty n = Const 1 n ∷ Sput kind 1 (s_of ty) ∷ Sget kind 2 (s_of ty) ∷ print 2 ∷ []

-- static fields
static_fields : Outcomes (
    -- static fields begin as zero; the first access enters their class
    shows (Sget Plain 0 (s_of int) ∷ print 0 ∷ Sget Wide 0 (s_of long) ∷ print_long 0 ∷ Sget Ref 0 (s_of string) ∷ print 0 ∷ ReturnVoid ∷ []) (codes "0\n0\n0\n") 14
    -- a word, a long and a reference are kept in static fields
    ∷ shows (Const 1 7 ∷ Sput Plain 1 (s_of int) ∷ ConstWide 2 5000000000 ∷ Sput Wide 2 (s_of long) ∷ ConstString 4 string ∷ Sput Ref 4 (s_of string)
    ∷ Sget Plain 5 (s_of int) ∷ print 5 ∷ Sget Wide 5 (s_of long) ∷ print_long 5 ∷ Sget Ref 5 (s_of string) ∷ print_text 5 ∷ ReturnVoid ∷ [])
    (codes "7\n5000000000\nLjava/lang/String;") 20
    -- narrow static fields keep as many bits as those of objects
    ∷ shows (through_static Byte byte 0x180 ++ through_static Byte byte 0x17f ++ through_static Short short 0x18000 ++ through_static Short short 0x17fff
    ++ through_static Char char 0xffffffff ++ through_static Char char 0x12345 ++ through_static Bool bool 0x102 ++ through_static Bool bool 0xffffffff ++ ReturnVoid ∷ [])
    (codes "-128\n127\n-32768\n32767\n65535\n9029\n2\n255\n") 40
    -- a static field found from a subclass is that of the class above, which alone is entered
    ∷ shows (Const 0 7 ∷ Sput Plain 0 (field_ref c s int) ∷ Sget Plain 1 (s_of int) ∷ print 1 ∷ ReturnVoid ∷ []) (codes "7\n") 12
    ∷ [])
unfolding outcome
static_fields = refl

-- monitors and throws
monitors_and_throws : Outcomes (
    -- a monitor asks only for an object, in any order, of any kind
    prints (ConstString 0 string ∷ ConstClass 1 int ∷ Monitor 0 ∷ Monitor 1 ∷ Monitor 1 ∷ ReturnVoid ∷ []) [] 10
    -- a monitor of null throws NullPointerException
    ∷ throws (Const 0 0 ∷ Monitor 0 ∷ ReturnVoid ∷ []) 9 7
    -- a throw of null throws NullPointerException, and one of an object that object
    ∷ throws (Const 0 0 ∷ Throw 0 ∷ []) 9 7
    -- a throw of an object throws that object
    ∷ throws (NewInstance 0 runtime_exception ∷ Throw 0 ∷ []) 6 7
    -- the end tells the message of the object that was thrown
    ∷ ends_with
    (main_program (NewInstance 0 runtime_exception ∷ ConstString 1 (no 50) ∷ Iput Ref 1 0 (field_ref throwable message string) ∷ Throw 0 ∷ []) [])
    wide 12 [] (finish (Uncaught 6 (Some (codes "text"))) [] 9)
    ∷ [])
unfolding outcome
monitors_and_throws = refl

-- handlers
handlers : Outcomes (
    -- what was caught is moved to a register: it is a NullPointerException and no ArithmeticException
    prints_in (main_program (Const 0 0 ∷ Throw 0 ∷ MoveException 1 ∷ InstanceOf 2 1 null_pointer ∷ print 2 ∷ InstanceOf 2 1 arithmetic ∷ print 2 ∷ ReturnVoid ∷ []) (handler 1 2 (Some exception) 2 ∷ []))
    (codes "1\n0\n") 13
    -- a handler covers the addresses from its first on, without its last
    ∷ throws_in (main_program (Const 0 0 ∷ Throw 0 ∷ ReturnVoid ∷ []) (handler 0 1 None 2 ∷ [])) 9 7
    -- one of another type takes nothing
    ∷ throws_in (main_program (Const 0 0 ∷ Throw 0 ∷ ReturnVoid ∷ []) (handler 0 2 (Some arithmetic) 2 ∷ [])) 9 7
    -- the first that fits takes the throwable: the second of three, for a superclass
    ∷ prints_in (main_program (Const 0 0 ∷ Throw 0 ∷ Const 1 1 ∷ Goto 7 ∷ Const 1 2 ∷ Goto 7 ∷ Const 1 3 ∷ print 1 ∷ ReturnVoid ∷ [])
    (handler 1 2 (Some arithmetic) 2 ∷ handler 1 2 (Some runtime_exception) 4 ∷ handler 1 2 None 6 ∷ [])) (codes "2\n") 11
    ∷ [])
unfolding outcome
handlers = refl

-- a method of LT; is called
abbrev calls : NameNo → Insn
calls ret = Invoke Static (method_ref (own 0) m [] ret) []

-- results of calls
results : Outcomes (
    -- results of each kind come back; the callee takes two steps
    shows (calls int ∷ MoveResult kind.Word 0 ∷ print 0 ∷ calls long ∷ MoveResult kind.Wide 0 ∷ print_long 0 ∷ calls string ∷ MoveResult kind.Ref 0 ∷ print_text 0 ∷ calls object ∷ MoveResult kind.Ref 0 ∷ print 0 ∷ calls void ∷ ReturnVoid ∷ [])
    (codes "7\n5000000000\nLjava/lang/String;0\n") 28
    -- a result that is not fetched is let go
    ∷ shows (calls int ∷ calls long ∷ MoveResult kind.Wide 0 ∷ print_long 0 ∷ ReturnVoid ∷ []) (codes "5000000000\n") 13
    ∷ [])
unfolding outcome
results = refl
