-- Where no instruction applies: operands of another kind, registers that the frame lacks, references that name nothing,
-- and what is not found.
use Rattle.std.proofs.Common.{◌≡◌, Some, None, is_some, false, ℕ, List, ◌++◌, [], ◌∷◌, refl}
use Rattle.std.specs.List.{list_any}
use Rattle.std.specs.Prelude.{codes}
use Rattle.pi_model.specs.declared.numbers.NameNo.{NameNo}
use Rattle.pi_model.specs.declared.insn.Insn.{Insn}
use Rattle.pi_model.specs.declared.insn.Insn.TheVariants.{Move, MoveResult, MoveException, Return, Const, ConstWide, ConstString, NewInstance, CheckCast, InstanceOf, NewArray, ArrayLength, Filled, FillArray, Throw, Monitor, Switch, CmpLong, If, IfZ, Aget, Aput, Iget, Iput, Sget, Sput, Unary, Binary, BinaryLit, Invoke, ReturnVoid}
use Rattle.pi_model.specs.declared.insn.Access.TheVariants as access
use Rattle.pi_model.specs.declared.insn.Arith.TheVariants as arith
use Rattle.pi_model.specs.declared.insn.BinOp.TheVariants.{Add, Div, Shl}
use Rattle.pi_model.specs.declared.insn.UnOp.TheVariants.{NegInt, NegLong, IntToLong, LongToInt}
use Rattle.pi_model.specs.declared.insn.Cond.TheVariants.{Eq, Lt, Ge}
use Rattle.pi_model.specs.declared.insn.How.TheVariants.{Virtual, Static}
use Rattle.pi_model.specs.declared.insn.Kind.TheVariants.{Word, Wide, Ref}
use Rattle.pi_model.specs.Dispatch.{is_virtual}
use Rattle.pi_model.specs.Known.{descriptor_of}
use Rattle.pi_model.specs.Program.{Program, no_files}
use Rattle.pi_model.specs.Values as values
use Rattle.pi_model.specs.Values.{Value, Low, High, Long, At, Num, Lit, Cls, Object, Instance, Array, Text}
use Rattle.pi_machine.specs.Initialisation.{is_clinit}
use Rattle.pi_machine.specs.Natives.{native_table}
use Rattle.pi_machine.specs.Operands.{Deeds}
use Rattle.pi_machine.specs.Rows.{row}
use Rattle.pi_machine.specs.State.{Thing, Made, Touched, Held, Nothing, Result, Thrown, Call}
use Rattle.pi_machine.specs.Step.{deeds_of}
use Rattle.pi_model.specs.declared.describe.MethodDesc.{MethodDesc}
use Rattle.pi_machine.proofs.Sample.{no, code, method, object, string, throwable, out, text_class, int, long, bool, void, ints, longs, bytes, chars, strings, message, own, static_native, class, instance_field, field_ref, method_ref, core, chain, main_program, print, standing, with_things}

-- a number in a register
abbrev word : ℕ → Value
word n = values.Word n

-- The things of these examples by their places: an ArithmeticException, an array of two ints, a text, the touched
-- literal of name 1, an array of one text, an array of a byte, an Object, an array of a long. At place 8 there is none.
abbrev things : List Thing
things =
    Made None (Instance 8 (word 0 ∷ [])) ∷ Made None (Array 36 (word 1 ∷ word 2 ∷ [])) ∷ Made None (Text (codes "a")) ∷ Touched None 1
    ∷ Made None (Array 43 (word 0 ∷ [])) ∷ Made None (Array 39 (word 1 ∷ [])) ∷ Made None (Instance 0 []) ∷ Made None (Array 37 (Long 1 ∷ [])) ∷ []

abbrev thing : ℕ → Value
thing place = At (Num place)

-- none of these moves is one
Stuck : List Deeds → Type 0
unfolding descriptor_of native_table is_virtual is_clinit
Stuck moves = list_any is_some moves ≡ false

-- the move of an instruction in a frame with these registers
abbrev move : List Value → Insn → Deeds
move registers insn = row core (with_things core things) (standing registers) 1 insn

-- with this held
abbrev holding : Held → Insn → Deeds
holding held insn = row core (record (with_things core things) { held = held }) (standing (word 0 ∷ word 0 ∷ [])) 1 insn

-- that of a state with a frame of main on top, with these registers, at an address
abbrev at_address : Program → ℕ → List Value → Deeds
at_address p at registers = deeds_of p (record (with_things p things) { stack = Call (record (standing registers) { at = at }) ∷ [] })

-- operands of another kind
operands : Stuck (
    -- a move of a word from a reference, and from either half of a long
    move (thing 0 ∷ []) (Move Word 0 0) ∷ move (Low 0 ∷ []) (Move Word 0 0) ∷ move (High 0 ∷ []) (Move Word 0 0)
    -- a move of a long from two words, from halves in the other order, from two low halves, from a half and a word
    ∷ move (word 0 ∷ word 0 ∷ []) (Move Wide 0 0) ∷ move (High 0 ∷ Low 0 ∷ []) (Move Wide 0 0) ∷ move (Low 0 ∷ Low 0 ∷ []) (Move Wide 0 0)
    ∷ move (Low 0 ∷ word 0 ∷ []) (Move Wide 0 0) ∷ move (word 0 ∷ High 0 ∷ []) (Move Wide 0 0) ∷ move (thing 0 ∷ thing 0 ∷ []) (Move Wide 0 0)
    -- a move of a reference from a number other than 0, and from half a long
    ∷ move (word 1 ∷ []) (Move Ref 0 0) ∷ move (Low 0 ∷ []) (Move Ref 0 0) ∷ move (High 0 ∷ []) (Move Ref 0 0)
    -- returns of another kind
    ∷ move (thing 0 ∷ []) (Return Word 0) ∷ move (word 0 ∷ word 0 ∷ []) (Return Wide 0) ∷ move (word 1 ∷ []) (Return Ref 0)
    -- a result of another kind, none, or a throwable in its place
    ∷ holding (Result (word 0)) (MoveResult Wide 0) ∷ holding (Result (Long 0)) (MoveResult Word 0) ∷ holding (Result (Long 0)) (MoveResult Ref 0)
    ∷ holding (Result (word 1)) (MoveResult Ref 0) ∷ holding (Result (thing 0)) (MoveResult Word 0) ∷ holding Nothing (MoveResult Word 0)
    ∷ holding Nothing (MoveResult Ref 0) ∷ holding (Thrown (Num 0)) (MoveResult Ref 0)
    -- a throwable that is not held
    ∷ holding Nothing (MoveException 0) ∷ holding (Result (thing 0)) (MoveException 0)
    -- ints of references, of null's kind apart, and of half longs
    ∷ move (thing 0 ∷ word 1 ∷ []) (Binary (arith.Int Add) 0 0 1) ∷ move (word 1 ∷ thing 0 ∷ []) (Binary (arith.Int Add) 0 0 1) ∷ move (Low 1 ∷ word 1 ∷ []) (Binary (arith.Int Add) 0 0 1)
    ∷ move (thing 0 ∷ []) (BinaryLit Add 0 0 1) ∷ move (High 1 ∷ []) (BinaryLit Div 0 0 0) ∷ move (Low 1 ∷ []) (Unary NegInt 0 0) ∷ move (thing 0 ∷ []) (Unary IntToLong 0 0)
    -- longs of ints; the distance of a shift is no long, and every other second operand is one
    ∷ move (word 1 ∷ word 1 ∷ Low 1 ∷ High 1 ∷ []) (Binary (arith.Long Add) 0 0 2) ∷ move (Low 1 ∷ High 1 ∷ word 1 ∷ []) (Binary (arith.Long Add) 0 0 2)
    ∷ move (Low 1 ∷ High 1 ∷ Low 1 ∷ High 1 ∷ []) (Binary (arith.Long Shl) 0 0 2) ∷ move (word 1 ∷ word 1 ∷ []) (Unary NegLong 0 0) ∷ move (word 1 ∷ []) (Unary LongToInt 0 0)
    ∷ move (Low 1 ∷ High 1 ∷ word 1 ∷ []) (CmpLong 0 0 2)
    -- a reference against a number other than 0, references in an order, and half a long
    ∷ move (thing 0 ∷ word 1 ∷ []) (If Eq 0 1 0) ∷ move (word 1 ∷ thing 0 ∷ []) (If Eq 0 1 0) ∷ move (thing 0 ∷ thing 0 ∷ []) (If Ge 0 1 0) ∷ move (thing 0 ∷ word 0 ∷ []) (If Lt 0 1 0)
    ∷ move (thing 0 ∷ []) (IfZ Ge 0 0) ∷ move (Low 0 ∷ High 0 ∷ []) (If Eq 0 1 0) ∷ move (Low 0 ∷ []) (IfZ Eq 0 0) ∷ move (thing 0 ∷ []) (Switch 0 [])
    ∷ [])
unfolding Stuck
operands = refl

-- references that are none, and objects of another kind
references : Stuck (
    -- where a reference is asked for, a number other than 0
    move (word 1 ∷ []) (Monitor 0) ∷ move (word 1 ∷ []) (CheckCast 0 object) ∷ move (word 1 ∷ []) (InstanceOf 0 0 object) ∷ move (word 1 ∷ []) (ArrayLength 0 0) ∷ move (word 1 ∷ []) (Throw 0)
    ∷ move (word 1 ∷ []) (FillArray 0 4 []) ∷ move (word 1 ∷ word 0 ∷ []) (Aget access.Plain 0 0 1) ∷ move (word 1 ∷ []) (Iget access.Ref 0 0 (field_ref throwable message string))
    -- a throw of what is no throwable: an Object, a text, an array, a class object
    ∷ move (thing 6 ∷ []) (Throw 0) ∷ move (At (Lit 1) ∷ []) (Throw 0) ∷ move (thing 1 ∷ []) (Throw 0) ∷ move (At (Cls 3) ∷ []) (Throw 0)
    -- the length and the elements of what is no array
    ∷ move (thing 0 ∷ []) (ArrayLength 0 0) ∷ move (thing 2 ∷ []) (ArrayLength 0 0) ∷ move (At (Lit 1) ∷ []) (ArrayLength 0 0) ∷ move (At (Cls 36) ∷ []) (ArrayLength 0 0)
    ∷ move (thing 2 ∷ word 0 ∷ []) (Aget access.Char 0 0 1) ∷ move (word 0 ∷ thing 0 ∷ []) (Aput access.Plain 0 1 0) ∷ move (thing 6 ∷ []) (FillArray 0 4 [])
    -- an array that is read or written as one of another kind, whatever the index
    ∷ move (thing 1 ∷ word 0 ∷ []) (Aget access.Byte 0 0 1) ∷ move (thing 5 ∷ word 0 ∷ []) (Aget access.Bool 0 0 1) ∷ move (thing 5 ∷ word 9 ∷ []) (Aget access.Plain 0 0 1)
    ∷ move (thing 4 ∷ word 0 ∷ []) (Aget access.Plain 0 0 1) ∷ move (thing 1 ∷ word 0 ∷ []) (Aget access.Ref 0 0 1) ∷ move (thing 1 ∷ word 0 ∷ []) (Aput access.Short 1 0 1)
    ∷ move (thing 7 ∷ word 0 ∷ []) (Aget access.Plain 0 0 1) ∷ move (thing 1 ∷ word 0 ∷ []) (Aget access.Wide 0 0 1)
    -- an index that is no word, and an element that is no value of its kind
    ∷ move (thing 1 ∷ thing 0 ∷ []) (Aget access.Plain 0 0 1) ∷ move (thing 1 ∷ Low 0 ∷ []) (Aget access.Plain 0 0 1) ∷ move (thing 1 ∷ word 0 ∷ thing 0 ∷ []) (Aput access.Plain 2 0 1)
    ∷ move (thing 4 ∷ word 0 ∷ word 1 ∷ []) (Aput access.Ref 2 0 1) ∷ move (thing 7 ∷ word 0 ∷ word 1 ∷ word 1 ∷ []) (Aput access.Wide 2 0 1)
    -- a new array with a reference as its length, and of a type that is no array
    ∷ move (thing 0 ∷ []) (NewArray 0 0 ints) ∷ move (word 1 ∷ []) (NewArray 0 0 object) ∷ move (word 1 ∷ []) (NewArray 0 0 int)
    -- registers that do not fill an array: a reference among ints, a number among references, and longs and bytes at all
    ∷ move (thing 0 ∷ []) (Filled ints (0 ∷ [])) ∷ move (word 1 ∷ []) (Filled strings (0 ∷ [])) ∷ move (Low 1 ∷ High 1 ∷ []) (Filled longs (0 ∷ 1 ∷ [])) ∷ move (word 1 ∷ []) (Filled bytes (0 ∷ []))
    ∷ move (word 1 ∷ []) (Filled int (0 ∷ [])) ∷ move (word 1 ∷ []) (Filled ints (1 ∷ []))
    -- data of another width, and for an array of references
    ∷ move (thing 1 ∷ []) (FillArray 0 8 (1 ∷ [])) ∷ move (thing 5 ∷ []) (FillArray 0 2 (1 ∷ [])) ∷ move (thing 4 ∷ []) (FillArray 0 4 (0 ∷ []))
    -- a field of an object whose class has none such, of an array, a text and a class object; and one of another kind
    ∷ move (thing 6 ∷ []) (Iget access.Ref 0 0 (field_ref throwable message string)) ∷ move (thing 1 ∷ []) (Iget access.Ref 0 0 (field_ref throwable message string))
    ∷ move (At (Lit 1) ∷ []) (Iget access.Ref 0 0 (field_ref throwable message string)) ∷ move (At (Cls 3) ∷ []) (Iget access.Ref 0 0 (field_ref throwable message string))
    ∷ move (thing 0 ∷ []) (Iget access.Wide 0 0 (field_ref throwable message string)) ∷ move (thing 0 ∷ []) (Iget access.Ref 0 0 (field_ref throwable message int))
    ∷ move (thing 0 ∷ word 1 ∷ []) (Iput access.Ref 1 0 (field_ref throwable message string))
    ∷ [])
unfolding Stuck
references = refl

-- registers outside of the frame
registers : Stuck (
    -- registers that the frame lacks, for what is read and for what is set
    move [] (Const 0 1) ∷ move (word 0 ∷ []) (Const 1 1) ∷ move (word 0 ∷ []) (Move Word 0 1) ∷ move (word 0 ∷ []) (Move Word 1 0) ∷ move (thing 0 ∷ []) (Move Ref 1 0)
    ∷ move (word 0 ∷ []) (ConstString 1 string) ∷ move (word 0 ∷ []) (NewInstance 1 object) ∷ move (word 0 ∷ []) (If Eq 0 1 0) ∷ move (word 0 ∷ []) (print 1) ∷ move [] (Return Word 0)
    -- a long half outside of the frame, where it is set and where it is read
    ∷ move (word 0 ∷ []) (ConstWide 0 1) ∷ move (word 0 ∷ word 0 ∷ []) (ConstWide 1 1) ∷ move (Low 0 ∷ High 0 ∷ []) (Move Wide 1 0) ∷ move (word 0 ∷ Low 0 ∷ []) (Move Wide 0 1)
    ∷ move (word 1 ∷ []) (Unary IntToLong 0 0) ∷ move (Low 0 ∷ []) (Return Wide 0)
    ∷ [])
unfolding Stuck
registers = refl

-- a reference to the place of a touched literal, and one past the last thing, for each use of a reference
abbrev on_thing : ℕ → List Deeds
on_thing place =
    move (thing place ∷ []) (Move Ref 0 0) ∷ move (thing place ∷ []) (Return Ref 0) ∷ move (thing place ∷ word 0 ∷ []) (If Eq 0 1 0) ∷ move (thing 0 ∷ thing place ∷ []) (If Eq 0 1 0)
    ∷ move (thing place ∷ []) (IfZ Eq 0 0) ∷ move (thing place ∷ []) (Monitor 0) ∷ move (thing place ∷ []) (CheckCast 0 object) ∷ move (thing place ∷ []) (InstanceOf 0 0 object)
    ∷ move (thing place ∷ []) (ArrayLength 0 0) ∷ move (thing place ∷ []) (Throw 0) ∷ move (thing place ∷ []) (Iget access.Ref 0 0 (field_ref throwable message string))
    ∷ move (thing 4 ∷ word 0 ∷ thing place ∷ []) (Aput access.Ref 2 0 1) ∷ move (thing place ∷ []) (Filled strings (0 ∷ []))
    ∷ move (thing 0 ∷ thing place ∷ []) (Iput access.Ref 1 0 (field_ref throwable message string)) ∷ move (thing place ∷ []) (Invoke Static (method_ref out (no 50) (string ∷ []) void) (0 ∷ []))
    ∷ move (thing place ∷ []) (Invoke Virtual (method_ref object (no 52) [] (no 2)) (0 ∷ [])) ∷ []

-- references that name no thing
named_nothing : Stuck (
    -- the place of a touched literal
    on_thing 3
    -- a place behind the last thing
    ++ on_thing 8)
unfolding Stuck
named_nothing = refl

-- arguments of another kind, too few and too many, half a long, no receiver
abbrev print_of : NameNo → List ℕ → Insn
print_of ty regs = Invoke Static (method_ref out (no 49) (ty ∷ []) void) regs

-- arguments, and methods and classes that are not found
calls : Stuck (
    -- prints of an int and of a long, and the length of a text
    move (thing 0 ∷ []) (print_of int (0 ∷ [])) ∷ move (word 0 ∷ []) (print_of int []) ∷ move (word 0 ∷ word 0 ∷ []) (print_of int (0 ∷ 1 ∷ []))
    ∷ move (Low 0 ∷ High 0 ∷ []) (print_of long (0 ∷ [])) ∷ move (word 0 ∷ word 0 ∷ []) (print_of long (0 ∷ 1 ∷ [])) ∷ move (Low 0 ∷ High 0 ∷ []) (print_of long (1 ∷ 0 ∷ []))
    ∷ move (word 1 ∷ []) (Invoke Virtual (method_ref string (no 53) [] int) (0 ∷ [])) ∷ move [] (Invoke Virtual (method_ref string (no 53) [] int) [])
    -- natives on objects of another type: a print of an Object, concat with an array, the length of an Object, a text of ints
    ∷ move (thing 6 ∷ []) (Invoke Static (method_ref out (no 50) (string ∷ []) void) (0 ∷ [])) ∷ move (At (Lit 1) ∷ thing 1 ∷ []) (Invoke Virtual (method_ref string (no 56) (string ∷ []) string) (0 ∷ 1 ∷ []))
    ∷ move (thing 1 ∷ word 0 ∷ []) (Invoke Static (method_ref text_class (no 59) (chars ∷ int ∷ int ∷ []) string) (0 ∷ 1 ∷ 1 ∷ []))
    -- a method that no class has, by its name, its parameters, its result and its class
    ∷ move (word 0 ∷ []) (Invoke Static (method_ref out (no 50) (int ∷ []) void) (0 ∷ [])) ∷ move (word 0 ∷ []) (print_of bool (0 ∷ [])) ∷ move (word 0 ∷ []) (Invoke Static (method_ref out (no 49) (int ∷ []) int) (0 ∷ []))
    ∷ move (thing 0 ∷ []) (Invoke Virtual (method_ref int (no 51) [] object) (0 ∷ []))
    -- a throw of a throwable whose class the program lacks
    ∷ row no_files (with_things no_files []) (standing (word 0 ∷ [])) 1 (Throw 0)
    ∷ [])
unfolding Stuck
calls = refl

-- what is not found at a frame's address
steps : Stuck (
    -- an address at which no instruction begins: between two, and behind the last
    at_address (main_program (print 0 ∷ ReturnVoid ∷ []) []) 1 (word 0 ∷ []) ∷ at_address (main_program (print 0 ∷ ReturnVoid ∷ []) []) 4 (word 0 ∷ [])
    -- a class, a static field and a static method that are needed and not found
    ∷ at_address (main_program (NewInstance 0 int ∷ []) []) 0 (word 0 ∷ []) ∷ at_address (main_program (Sget access.Plain 0 (field_ref out message int) ∷ []) []) 0 (word 0 ∷ [])
    ∷ at_address (main_program (Sput access.Plain 0 (field_ref int message int) ∷ []) []) 0 (word 0 ∷ []) ∷ at_address (main_program (print_of bool (0 ∷ []) ∷ []) []) 0 (word 0 ∷ [])
    ∷ [])
unfolding Stuck
steps = refl

-- the class LT; with a method of one parameter
abbrev with_method : MethodDesc → Program
with_method m = chain (codes "LT;" ∷ []) (class 1 (own 0) 1 (Some object) [] [] (m ∷ []) ∷ [])

-- a static method with a parameter of a type, whose code asks for so many words
abbrev taking : NameNo → ℕ → MethodDesc
taking ty words = method (no 49) (ty ∷ []) void 9 (code 2 words (ReturnVoid ∷ []) [])

-- its call in a frame with these registers
abbrev called : MethodDesc → NameNo → List Value → List ℕ → Deeds
called m ty registers regs =
    row (with_method m) (with_things (with_method m) things) (standing registers) 3 (Invoke Static (method_ref (own 0) (no 49) (ty ∷ []) void) regs)

-- calls of a method with code
calls_of_code : Stuck (
    -- a method without code that is none of the natives, and one whose code asks for another number of words
    called (static_native 49 (int ∷ []) void) int (word 0 ∷ []) (0 ∷ []) ∷ called (taking int 2) int (word 0 ∷ []) (0 ∷ [])
    -- arguments of another kind, a reference to a touched place, and the halves of a long in the other order
    ∷ called (taking int 1) int (thing 0 ∷ []) (0 ∷ []) ∷ called (taking int 1) int (Low 0 ∷ []) (0 ∷ []) ∷ called (taking object 1) object (word 1 ∷ []) (0 ∷ [])
    ∷ called (taking object 1) object (thing 3 ∷ []) (0 ∷ []) ∷ called (taking long 2) long (word 0 ∷ word 0 ∷ []) (0 ∷ 1 ∷ []) ∷ called (taking long 2) long (High 0 ∷ Low 0 ∷ []) (0 ∷ 1 ∷ [])
    ∷ [])
unfolding Stuck
calls_of_code = refl

-- the class LT;, whose instances have one field, as those of Throwable; and the name of a class that could be taken for
-- an array of ints
abbrev with_field : Program
with_field = chain (codes "LT;" ∷ codes "x" ∷ codes "LI;" ∷ []) (class 1 (own 0) 1 (Some object) [] (instance_field (own 1) int ∷ []) [] ∷ [])

-- an instruction on an object of one field, and on 0
abbrev on_object : Object → Insn → Deeds
on_object o insn = row with_field (with_things with_field (Made None o ∷ [])) (standing (thing 0 ∷ word 0 ∷ [])) 2 insn

-- fields of another class, and a type that is no array
other_classes : Stuck (
    -- a field of Throwable in an instance of LT;, and one of LT; in a throwable
    on_object (Instance 29 (word 0 ∷ [])) (Iget access.Ref 0 0 (field_ref throwable message string)) ∷ on_object (Instance 29 (word 0 ∷ [])) (Iput access.Ref 1 0 (field_ref throwable message string))
    ∷ on_object (Instance 8 (word 0 ∷ [])) (Iget access.Plain 0 0 (field_ref (own 0) (own 1) int)) ∷ on_object (Instance 8 (word 0 ∷ [])) (Iput access.Plain 1 0 (field_ref (own 0) (own 1) int))
    -- no array of the type LI;
    ∷ on_object (Instance 8 (word 0 ∷ [])) (Filled (own 2) (1 ∷ [])) ∷ on_object (Instance 8 (word 0 ∷ [])) (NewArray 0 1 (own 2))
    ∷ [])
unfolding Stuck
other_classes = refl
