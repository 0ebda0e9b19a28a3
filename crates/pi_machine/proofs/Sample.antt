-- Small programs as data for worked examples: a first file with the core classes, and words that lay out classes,
-- methods and instructions.
use Rattle.std.proofs.Common.{Some, None, ℕ, ◌+◌, List, [], ◌∷◌, ◌++◌, map, Option}
use Rattle.std.specs.Prelude.{codes}
use Rattle.pi_model.specs.declared.numbers.NameNo.{NameNo}
use Rattle.pi_model.specs.declared.describe.ClassDesc.{ClassDesc}
use Rattle.pi_model.specs.declared.describe.FieldDesc.{FieldDesc}
use Rattle.pi_model.specs.declared.describe.MethodDesc.{MethodDesc}
use Rattle.pi_model.specs.declared.describe.Code.{Code}
use Rattle.pi_model.specs.declared.describe.Line.{Line}
use Rattle.pi_model.specs.declared.describe.Catch.{Catch}
use Rattle.pi_model.specs.declared.describe.Init.{Init}
use Rattle.pi_model.specs.declared.describe.Init.TheVariants.{Zero}
use Rattle.pi_model.specs.declared.insn.Insn.{Insn}
use Rattle.pi_model.specs.declared.insn.Insn.TheVariants.{Invoke, Filled}
use Rattle.pi_model.specs.declared.insn.How.TheVariants.{Static}
use Rattle.pi_model.specs.declared.insn.FieldRef.{FieldRef}
use Rattle.pi_model.specs.declared.insn.MethodRef.{MethodRef}
use Rattle.pi_model.specs.Known as known
use Rattle.pi_model.specs.Known.{Known, descriptor_of}
use Rattle.pi_model.specs.Program.{Program, no_files, with_file}
use Rattle.pi_model.specs.Values.{Value}
use Rattle.pi_machine.specs.State.{State, Frame, Thing}
use Rattle.pi_machine.specs.Start.{first_state}
use Rattle.pi_machine.specs.Ends.{Setting, Finish, End}

abbrev pub no : ℕ → NameNo
no n = record { 0 = n }

-- the names of the first file: the known classes, numbered in this order from 0, then the texts below from 29 on
abbrev pub known_classes : List Known
known_classes =
    known.JavaObject ∷ known.JavaString ∷ known.JavaClass ∷ known.Throwable ∷ known.Exception ∷ known.Error
    ∷ known.RuntimeException ∷ known.CloneNotSupported ∷ known.Arithmetic ∷ known.NullPointer ∷ known.IndexOutOfBounds
    ∷ known.NegativeArraySize ∷ known.ArrayStore ∷ known.ClassCast ∷ known.IllegalArgument ∷ known.IllegalState
    ∷ known.UnsupportedOperation ∷ known.ArrayIndexOutOfBounds ∷ known.StringIndexOutOfBounds ∷ known.LinkageError
    ∷ known.NoClassDefFound ∷ known.ExceptionInInitializer ∷ known.IncompatibleClassChange ∷ known.AbstractMethod
    ∷ known.PiOut ∷ known.PiText ∷ known.Cloneable ∷ known.Serializable ∷ known.JavaSystem ∷ []

abbrev pub other_names : List (List ℕ)
other_names =
    codes "V" ∷ codes "I" ∷ codes "J" ∷ codes "Z" ∷ codes "B" ∷ codes "C" ∷ codes "S"
    ∷ codes "[I" ∷ codes "[J" ∷ codes "[Z" ∷ codes "[B" ∷ codes "[C" ∷ codes "[S"
    ∷ codes "[Ljava/lang/Object;" ∷ codes "[Ljava/lang/String;" ∷ codes "[[I"
    ∷ codes "<clinit>" ∷ codes "<init>" ∷ codes "main" ∷ codes "detailMessage" ∷ codes "print" ∷ codes "text"
    ∷ codes "clone" ∷ codes "getClass" ∷ codes "length" ∷ codes "charAt" ∷ codes "equals" ∷ codes "concat"
    ∷ codes "arraycopy" ∷ codes "ofLong" ∷ codes "ofChars" ∷ []

abbrev pub object : NameNo
object = no 0

abbrev pub string : NameNo
string = no 1

abbrev pub class_class : NameNo
class_class = no 2

abbrev pub throwable : NameNo
throwable = no 3

abbrev pub exception : NameNo
exception = no 4

abbrev pub error_class : NameNo
error_class = no 5

abbrev pub runtime_exception : NameNo
runtime_exception = no 6

abbrev pub arithmetic : NameNo
arithmetic = no 8

abbrev pub null_pointer : NameNo
null_pointer = no 9

abbrev pub in_initializer : NameNo
in_initializer = no 21

abbrev pub out : NameNo
out = no 24

abbrev pub text_class : NameNo
text_class = no 25

abbrev pub cloneable : NameNo
cloneable = no 26

abbrev pub system : NameNo
system = no 28

abbrev pub void : NameNo
void = no 29

abbrev pub int : NameNo
int = no 30

abbrev pub long : NameNo
long = no 31

abbrev pub bool : NameNo
bool = no 32

abbrev pub byte : NameNo
byte = no 33

abbrev pub char : NameNo
char = no 34

abbrev pub short : NameNo
short = no 35

abbrev pub ints : NameNo
ints = no 36

abbrev pub longs : NameNo
longs = no 37

abbrev pub bools : NameNo
bools = no 38

abbrev pub bytes : NameNo
bytes = no 39

abbrev pub chars : NameNo
chars = no 40

abbrev pub shorts : NameNo
shorts = no 41

abbrev pub objects : NameNo
objects = no 42

abbrev pub strings : NameNo
strings = no 43

abbrev pub int_rows : NameNo
int_rows = no 44

abbrev pub clinit : NameNo
clinit = no 45

abbrev pub init : NameNo
init = no 46

abbrev pub main_name : NameNo
main_name = no 47

abbrev pub message : NameNo
message = no 48

-- the names that an example adds behind those of the first file, from 0
abbrev pub own : ℕ → NameNo
own i = no (60 + i)

-- instructions one behind another from an address on; in these examples a call and a filled array have three units and
-- every other instruction has one
abbrev pub length_of : Insn → ℕ
length_of (Invoke how m regs) = 3
length_of (Filled t regs) = 3
length_of _ = 1

abbrev pub laid : ℕ → List Insn → List Line
laid at [] = []
laid at (i ∷ others) = record { at = at; units = length_of i; insn = i } ∷ laid (at + length_of i) others

abbrev pub code : ℕ → ℕ → List Insn → List Catch → Option Code
code regs ins insns tries = Some (record { regs = regs; ins = ins; outs = 5; units = 100; insns = laid 0 insns; tries = tries })

-- a handler for the addresses from one up to another
abbrev pub handler : ℕ → ℕ → Option NameNo → ℕ → Catch
handler from to ty at = record { from = from; to = to; ty = ty; at = at }

abbrev pub method : NameNo → List NameNo → NameNo → ℕ → Option Code → MethodDesc
method name params ret flags code = record { name = name; params = params; ret = ret; flags = flags; code = code }

-- a native method that is static, or found by the receiver's type
abbrev pub static_native : ℕ → List NameNo → NameNo → MethodDesc
static_native name params ret = method (no name) params ret 0x109 None

abbrev pub virtual_native : ℕ → List NameNo → NameNo → MethodDesc
virtual_native name params ret = method (no name) params ret 0x101 None

abbrev pub clinit_method : Option Code → MethodDesc
clinit_method code = method clinit [] void 0x10008 code

abbrev pub field : NameNo → NameNo → ℕ → Init → FieldDesc
field name ty flags value = record { name = name; ty = ty; flags = flags; init = value }

abbrev pub static_field : NameNo → NameNo → FieldDesc
static_field name ty = field name ty 8 Zero

abbrev pub instance_field : NameNo → NameNo → FieldDesc
instance_field name ty = field name ty 0 Zero

abbrev pub class : ℕ → NameNo → ℕ → Option NameNo → List NameNo → List FieldDesc → List MethodDesc → ClassDesc
class file name flags parent faces fields methods = record { file = record { 0 = file }; name = name; flags = flags; parent = parent; faces = faces; fields = fields; methods = methods }

abbrev pub plain : ℕ → ℕ → ClassDesc
plain name parent = class 0 (no name) 1 (Some (no parent)) [] [] []

-- the classes of the first file, each with the number of its name
abbrev pub core_classes : List ClassDesc
core_classes =
    class 0 object 1 None [] [] (virtual_native 51 [] object ∷ virtual_native 52 [] class_class ∷ [])
    ∷ class 0 string 0x11 (Some object) [] []
    (virtual_native 53 [] int ∷ virtual_native 54 (int ∷ []) char ∷ virtual_native 55 (object ∷ []) bool ∷ virtual_native 56 (string ∷ []) string ∷ [])
    ∷ plain 2 0
    ∷ class 0 throwable 1 (Some object) [] (instance_field message string ∷ []) []
    ∷ plain 4 3 ∷ plain 5 3 ∷ plain 6 4 ∷ plain 7 4 ∷ plain 8 6 ∷ plain 9 6 ∷ plain 10 6 ∷ plain 11 6 ∷ plain 12 6
    ∷ plain 13 6 ∷ plain 14 6 ∷ plain 15 6 ∷ plain 16 6 ∷ plain 17 10 ∷ plain 18 10 ∷ plain 19 5 ∷ plain 20 19
    ∷ plain 21 19 ∷ plain 22 19 ∷ plain 23 22
    ∷ class 0 out 1 (Some object) [] []
    (static_native 49 (int ∷ []) void ∷ static_native 49 (long ∷ []) void ∷ static_native 50 (string ∷ []) void ∷ [])
    ∷ class 0 text_class 1 (Some object) [] [] (static_native 58 (long ∷ []) string ∷ static_native 59 (chars ∷ int ∷ int ∷ []) string ∷ [])
    ∷ class 0 cloneable 0x601 (Some object) [] [] []
    ∷ class 0 (no 27) 0x601 (Some object) [] [] []
    ∷ class 0 system 1 (Some object) [] [] (static_native 57 (object ∷ int ∷ object ∷ int ∷ int ∷ []) void ∷ [])
    ∷ []

abbrev pub core : Program
core = with_file no_files (map descriptor_of known_classes ++ other_names) [] core_classes

-- the chain of the first file and one more, with these names of its own and these classes; its classes are numbered from 29
abbrev pub chain : List (List ℕ) → List ClassDesc → Program
chain names classes = with_file core names [] classes

-- references to members
abbrev pub field_ref : NameNo → NameNo → NameNo → FieldRef
field_ref class name ty = record { class = class; name = name; ty = ty }

abbrev pub method_ref : NameNo → NameNo → List NameNo → NameNo → MethodRef
method_ref class name params ret = record { class = class; name = name; params = params; ret = ret }

-- print a word, a long in two registers, a text
abbrev pub print : ℕ → Insn
print a = Invoke Static (method_ref out (no 49) (int ∷ []) void) (a ∷ [])

abbrev pub print_long : ℕ → Insn
print_long a = Invoke Static (method_ref out (no 49) (long ∷ []) void) (a ∷ (a + 1) ∷ [])

abbrev pub print_text : ℕ → Insn
print_text a = Invoke Static (method_ref out (no 50) (string ∷ []) void) (a ∷ [])

-- main, with eight registers of its own and a register for the array of arguments, and with handlers
abbrev pub main_method : List Insn → List Catch → MethodDesc
main_method insns tries = method main_name (strings ∷ []) void 9 (code 9 1 insns tries)

-- the class LT; with main alone, behind the first file: the number of main is 12
abbrev pub main_program : List Insn → List Catch → Program
main_program insns tries = chain (codes "LT;" ∷ []) (class 1 (own 0) 1 (Some object) [] [] (main_method insns tries ∷ []) ∷ [])

-- a frame of the method of number 12 with these registers, at the start of its code
abbrev pub standing : List Value → Frame
standing registers = record { method = 12; at = 0; registers = registers }

-- the state of a program in which nothing has run and these things are
abbrev pub with_things : Program → List Thing → State
with_things p things = record (first_state p) { things = things }

abbrev pub nothing_made : State
nothing_made = with_things core []

abbrev pub limits : ℕ → ℕ → ℕ → Setting
limits steps heap frames = record { held = []; imaged = []; steps = steps; heap = heap; frames = frames }

abbrev pub wide : Setting
wide = limits 1000 1000000 1000

abbrev pub finish : End → List ℕ → ℕ → Finish
finish end output steps = record { end = end; output = output; steps = steps }
