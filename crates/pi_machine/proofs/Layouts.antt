-- Helpers for worked examples of more than one class: a main class, and classes with static ints, initialisers and
-- methods beside it.
use Rattle.std.proofs.Common.{Some, ◌≡◌, ℕ, List, [], ◌∷◌}
use Rattle.std.specs.Prelude.{codes, option_map}
use Rattle.pi_model.specs.declared.numbers.NameNo.{NameNo}
use Rattle.pi_model.specs.declared.describe.ClassDesc.{ClassDesc}
use Rattle.pi_model.specs.declared.describe.FieldDesc.{FieldDesc}
use Rattle.pi_model.specs.declared.describe.MethodDesc.{MethodDesc}
use Rattle.pi_model.specs.declared.describe.Catch.{Catch}
use Rattle.pi_model.specs.declared.insn.Insn.{Insn}
use Rattle.pi_model.specs.declared.insn.Insn.TheVariants.{Const, Sget, Sput, Invoke, Binary, ReturnVoid}
use Rattle.pi_model.specs.declared.insn.Access.TheVariants.{Plain}
use Rattle.pi_model.specs.declared.insn.Arith.TheVariants.{Int}
use Rattle.pi_model.specs.declared.insn.BinOp.TheVariants.{Div}
use Rattle.pi_model.specs.declared.insn.How.TheVariants.{Static}
use Rattle.pi_model.specs.Program.{Program}
use Rattle.pi_machine.specs.Start.{start_state}
use Rattle.pi_machine.specs.State.{State}
use Rattle.pi_machine.specs.Step.{after_steps}
use Rattle.pi_machine.proofs.Sample.{chain, class, object, own, int, void, method, main_method, clinit_method, code, static_field, field_ref, method_ref, print}

-- the names of the second file, from 60 on
abbrev pub names : List (List ℕ)
names =
    codes "LT;" ∷ codes "LA;" ∷ codes "LB;" ∷ codes "LC;" ∷ codes "LI;" ∷ codes "LJ;"
    ∷ codes "x" ∷ codes "y" ∷ codes "f" ∷ codes "hi" ∷ codes "z" ∷ codes "[LA;" ∷ []

abbrev pub t : NameNo
t = own 0

abbrev pub a : NameNo
a = own 1

abbrev pub b : NameNo
b = own 2

abbrev pub c : NameNo
c = own 3

abbrev pub i : NameNo
i = own 4

abbrev pub j : NameNo
j = own 5

abbrev pub x : NameNo
x = own 6

abbrev pub y : NameNo
y = own 7

abbrev pub f : NameNo
f = own 8

abbrev pub hi : NameNo
hi = own 9

abbrev pub z : NameNo
z = own 10

abbrev pub a_array : NameNo
a_array = own 11

-- a static int x
abbrev pub with_x : List FieldDesc
with_x = static_field x int ∷ []

-- an initialiser with two registers
abbrev pub starts : List Insn → List MethodDesc
starts insns = clinit_method (code 2 0 insns []) ∷ []

-- a class below another, with a static int x and an initialiser of these instructions
abbrev pub below : NameNo → NameNo → List Insn → ClassDesc
below parent name insns = class 1 name 1 (Some parent) [] with_x (starts insns)

-- a class below Object, with a static int x and an initialiser of these instructions
abbrev pub having : NameNo → List Insn → ClassDesc
having name insns = below object name insns

-- print a small number and return
abbrev pub shows : ℕ → List Insn
shows n = Const 0 n ∷ print 0 ∷ ReturnVoid ∷ []

-- divide 1 by 0
abbrev pub divides : List Insn
divides = Const 0 0 ∷ Const 1 1 ∷ Binary (Int Div) 0 1 0 ∷ ReturnVoid ∷ []

-- read and write the static x of a class
abbrev pub get_x : ℕ → NameNo → Insn
get_x r name = Sget Plain r (field_ref name x int)

abbrev pub put_x : ℕ → NameNo → Insn
put_x r name = Sput Plain r (field_ref name x int)

-- a static method f without parameters and result, and its call
abbrev pub f_method : List Insn → MethodDesc
f_method insns = method f [] void 9 (code 2 0 insns [])

abbrev pub call_f : NameNo → Insn
call_f name = Invoke Static (method_ref name f [] void) []

-- T, class 29, with main, method 12; then other classes, from 30 on, with methods from 13 on and fields from 1 on. Main
-- has nine registers. Its first instruction is the fifth step: T is entered, its static values, it is done, the start.
abbrev pub tried : List Insn → List Catch → List ClassDesc → Program
tried insns tries others = chain names (class 1 t 1 (Some object) [] [] (main_method insns tries ∷ []) ∷ others)

abbrev pub main_and : List Insn → List ClassDesc → Program
main_and insns others = tried insns [] others

-- what is seen of the state after so many steps
abbrev pub Sees : {A : Type 0} → Program → (State → A) → ℕ → A → Type 0
Sees p look steps what = option_map look (after_steps p steps (start_state p 12 [])) ≡ Some what
