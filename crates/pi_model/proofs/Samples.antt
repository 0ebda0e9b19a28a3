-- Parts from which the examples build small programs, and rows of examples.
use Rattle.std.proofs.Common.{◌≡◌, ℕ, List, [], ◌∷◌, map, Option, None}
use Rattle.std.specs.Prelude.{codes}
use Rattle.pi_model.specs.declared.numbers.FileNo.{FileNo}
use Rattle.pi_model.specs.declared.numbers.NameNo.{NameNo}
use Rattle.pi_model.specs.declared.describe.ClassDesc.{ClassDesc}
use Rattle.pi_model.specs.declared.describe.FieldDesc.{FieldDesc}
use Rattle.pi_model.specs.declared.describe.MethodDesc.{MethodDesc}
use Rattle.pi_model.specs.declared.describe.Init.TheVariants.{Zero}
use Rattle.pi_model.specs.declared.insn.MethodRef.{MethodRef}
use Rattle.pi_model.specs.Program.{Program}

-- what is computed, beside what it has to be
abbrev pub Rows : Type 0 → Type 0
Rows A = List (A × A)

-- in each row both are the same
abbrev pub Hold : {A : Type 0} → Rows A → Type 0
Hold rows = map (λ row. row.0) rows ≡ map (λ row. row.1) rows

-- the names by number: descriptors of classes, then of other types, then the names of members
abbrev pub texts : List (List ℕ)
texts =
    codes "Ljava/lang/Object;"
    ∷ codes "LA;"
    ∷ codes "LB;"
    ∷ codes "LC;"
    ∷ codes "LI;"
    ∷ codes "LJ;"
    ∷ codes "LK;"
    ∷ codes "LMissing;"
    ∷ codes "I"
    ∷ codes "J"
    ∷ codes "Z"
    ∷ codes "B"
    ∷ codes "S"
    ∷ codes "C"
    ∷ codes "[I"
    ∷ codes "[[LA;"
    ∷ codes "[LMissing;"
    ∷ codes "[[LMissing;"
    ∷ codes "m"
    ∷ codes "n"
    ∷ codes "<init>"
    ∷ []

abbrev pub no : ℕ → NameNo
no n = record { 0 = n }

abbrev pub object : NameNo
object = no 0

abbrev pub a : NameNo
a = no 1

abbrev pub b : NameNo
b = no 2

abbrev pub c : NameNo
c = no 3

abbrev pub i : NameNo
i = no 4

abbrev pub j : NameNo
j = no 5

abbrev pub k : NameNo
k = no 6

abbrev pub missing : NameNo
missing = no 7

abbrev pub int : NameNo
int = no 8

abbrev pub long : NameNo
long = no 9

abbrev pub boolean : NameNo
boolean = no 10

abbrev pub byte : NameNo
byte = no 11

abbrev pub short : NameNo
short = no 12

abbrev pub char : NameNo
char = no 13

abbrev pub ints : NameNo
ints = no 14

abbrev pub arrays_of_a : NameNo
arrays_of_a = no 15

abbrev pub array_of_missing : NameNo
array_of_missing = no 16

abbrev pub arrays_of_missing : NameNo
arrays_of_missing = no 17

abbrev pub m : NameNo
m = no 18

abbrev pub n : NameNo
n = no 19

abbrev pub constructor : NameNo
constructor = no 20

abbrev file_0 : FileNo
file_0 = record { 0 = 0 }

-- a class of a name, with a superclass and interfaces, and lists of fields and methods
abbrev pub class : NameNo → Option NameNo → List NameNo → List FieldDesc → List MethodDesc → ClassDesc
class name parent faces fields methods = record { file = file_0; name = name; flags = 1; parent = parent; faces = faces; fields = fields; methods = methods }

-- the same of an interface, which has no fields here
abbrev pub interface : NameNo → Option NameNo → List NameNo → List MethodDesc → ClassDesc
interface name parent faces methods = record { file = file_0; name = name; flags = 1536; parent = parent; faces = faces; fields = []; methods = methods }

-- a field of a type and flags
abbrev pub field : NameNo → ℕ → FieldDesc
field ty flags = record { name = n; ty = ty; flags = flags; init = Zero }

-- a field of instances
abbrev pub own : NameNo → FieldDesc
own ty = field ty 0

-- a static field
abbrev pub static : NameNo → FieldDesc
static ty = field ty 8

-- a method without parameters that returns an int, of a name and flags
abbrev pub method : NameNo → ℕ → MethodDesc
method name flags = record { name = name; params = []; ret = int; flags = flags; code = None }

-- such a method as an instruction names it
abbrev pub method_ref : NameNo → NameNo → MethodRef
method_ref class name = record { class = class; name = name; params = []; ret = int }

abbrev pub program : List ClassDesc → Program
program classes = record { names = texts; types = []; classes = classes; files = [] }
