-- Tests of types: check-cast and instance-of on instances, arrays, texts and class objects.
use Rattle.std.proofs.Common.{Some, ℕ, List, [], ◌∷◌, ◌++◌, refl}
use Rattle.std.specs.Prelude.{codes}
use Rattle.pi_model.specs.declared.numbers.NameNo.{NameNo}
use Rattle.pi_model.specs.declared.insn.Insn.{Insn}
use Rattle.pi_model.specs.declared.insn.Insn.TheVariants.{Const, ConstString, ConstClass, NewInstance, NewArray, CheckCast, InstanceOf, ReturnVoid}
use Rattle.pi_model.specs.Program.{Program}
use Rattle.pi_machine.proofs.Examples.{Run, outcome, Outcomes, prints_in, throws_in}
use Rattle.pi_machine.proofs.Sample.{no, object, string, class_class, exception, error_class, null_pointer, cloneable, ints, longs, bytes, objects, strings, int_rows, own, class, chain, main_method, print}
use Rattle.pi_machine.proofs.Layouts.{a, b, c, i, j}

-- LB; is below LA; and implements LI;, an interface below LJ;; LC; is below LB;; LK; is another interface
abbrev k : NameNo
k = own 6

abbrev arrays_of_a : NameNo
arrays_of_a = own 7

abbrev arrays_of_b : NameNo
arrays_of_b = own 8

abbrev arrays_of_c : NameNo
arrays_of_c = own 9

abbrev arrays_of_j : NameNo
arrays_of_j = own 10

abbrev arrays_of_k : NameNo
arrays_of_k = own 11

abbrev arrays_of_cloneable : NameNo
arrays_of_cloneable = own 12

abbrev rows_of_objects : NameNo
rows_of_objects = own 13

abbrev serializable : NameNo
serializable = no 27

-- main of these instructions, in a class before those of the example
abbrev world : List Insn → Program
world insns = chain (codes "LT;" ∷ codes "LA;" ∷ codes "LB;" ∷ codes "LC;" ∷ codes "LI;" ∷ codes "LJ;" ∷ codes "LK;"
    ∷ codes "[LA;" ∷ codes "[LB;" ∷ codes "[LC;" ∷ codes "[LJ;" ∷ codes "[LK;" ∷ codes "[Ljava/lang/Cloneable;" ∷ codes "[[Ljava/lang/Object;" ∷ []) (
    class 1 (own 0) 1 (Some object) [] [] (main_method insns [] ∷ [])
    ∷ class 1 a 1 (Some object) [] [] []
    ∷ class 1 b 1 (Some a) (i ∷ []) [] []
    ∷ class 1 c 1 (Some b) [] [] []
    ∷ class 1 i 0x601 (Some object) (j ∷ []) [] []
    ∷ class 1 j 0x601 (Some object) [] [] []
    ∷ class 1 k 0x601 (Some object) [] [] []
    ∷ [])

-- instance-of of register 0 for each type, printed
abbrev tests : List NameNo → List Insn
tests [] = ReturnVoid ∷ []
tests (t ∷ ts) = InstanceOf 1 0 t ∷ print 1 ∷ tests ts

-- casts of register 0 to each type, then a print of 1
abbrev casts : List NameNo → List Insn
casts [] = Const 1 1 ∷ print 1 ∷ ReturnVoid ∷ []
casts (t ∷ ts) = CheckCast 0 t ∷ casts ts

-- what the register holds is of the types of the first list and of none of the second: two steps for each test, and
-- one for each cast
abbrev fits : List Insn → List NameNo → List ℕ → ℕ → Run
fits make types output steps = prints_in (world (make ++ tests types)) output steps

abbrev passes : List Insn → List NameNo → ℕ → Run
passes make types steps = prints_in (world (make ++ casts types)) (codes "1\n") steps

abbrev refused : List Insn → NameNo → ℕ → Run
refused make t steps = throws_in (world (make ++ casts (t ∷ []))) 13 steps

-- a new instance of LB;, which enters two classes first, and arrays of length 2
abbrev instance_of_b : List Insn
instance_of_b = NewInstance 0 b ∷ []

abbrev array_of : NameNo → List Insn
array_of t = Const 1 2 ∷ NewArray 0 1 t ∷ []

-- null and instances
types_of_instances : Outcomes (
    -- null is an instance of no type, and passes each cast
    fits (Const 0 0 ∷ []) (object ∷ a ∷ i ∷ ints ∷ []) (codes "0\n0\n0\n0\n") 14
    -- and null passes each cast
    ∷ passes (Const 0 0 ∷ []) (object ∷ a ∷ k ∷ ints ∷ string ∷ []) 13
    -- an instance of LB; is of its class, its superclasses and their interfaces, and of nothing else
    ∷ fits instance_of_b (b ∷ a ∷ object ∷ i ∷ j ∷ []) (codes "1\n1\n1\n1\n1\n") 22
    -- and of no subclass, other interface, or array
    ∷ fits instance_of_b (c ∷ k ∷ string ∷ cloneable ∷ arrays_of_b ∷ objects ∷ []) (codes "0\n0\n0\n0\n0\n0\n") 24
    -- a cast to any of its types passes
    ∷ passes instance_of_b (b ∷ a ∷ object ∷ i ∷ j ∷ []) 19
    -- what does not fit throws ClassCastException: a subclass, an unrelated interface, an array
    ∷ refused instance_of_b c 13
    -- an interface that it does not implement
    ∷ refused instance_of_b k 13
    -- an array of its own class
    ∷ refused instance_of_b arrays_of_b 13
    -- an instance of a subclass has the interfaces of the classes above it
    ∷ fits (NewInstance 0 c ∷ []) (a ∷ b ∷ c ∷ i ∷ j ∷ k ∷ []) (codes "1\n1\n1\n1\n1\n0\n") 27
    ∷ [])
unfolding outcome
types_of_instances = refl

-- arrays
types_of_arrays : Outcomes (
    -- an array of references fits by its component, and is a Cloneable and a Serializable; its class is not entered
    fits (array_of arrays_of_b) (arrays_of_b ∷ arrays_of_a ∷ arrays_of_j ∷ objects ∷ object ∷ cloneable ∷ serializable ∷ []) (codes "1\n1\n1\n1\n1\n1\n1\n") 21
    -- it is no array of a subclass, of another interface, of ints or of arrays, and not its element
    ∷ fits (array_of arrays_of_b) (arrays_of_c ∷ arrays_of_k ∷ b ∷ ints ∷ strings ∷ rows_of_objects ∷ []) (codes "0\n0\n0\n0\n0\n0\n") 19
    -- an array of interfaces is an array of Objects
    ∷ fits (array_of arrays_of_j) (arrays_of_j ∷ objects ∷ arrays_of_b ∷ []) (codes "1\n1\n0\n") 13
    -- an array of primitives fits the same array alone, and what each array fits
    ∷ fits (array_of ints) (ints ∷ object ∷ cloneable ∷ serializable ∷ longs ∷ bytes ∷ objects ∷ []) (codes "1\n1\n1\n1\n0\n0\n0\n") 21
    -- the rows of an array of arrays are Objects and Cloneables, and no ints
    ∷ fits (array_of int_rows) (int_rows ∷ objects ∷ arrays_of_cloneable ∷ ints ∷ rows_of_objects ∷ []) (codes "1\n1\n1\n0\n0\n") 17
    -- casts of an array that pass
    ∷ passes (array_of arrays_of_b) (arrays_of_a ∷ objects ∷ cloneable ∷ arrays_of_b ∷ []) 13
    -- an array of ints is no array of longs
    ∷ refused (array_of ints) longs 8
    -- an array of LA; is no array of LB;
    ∷ refused (array_of arrays_of_a) arrays_of_b 8
    ∷ [])
unfolding outcome
types_of_arrays = refl

-- texts, class objects and throwables
types_of_others : Outcomes (
    -- a literal is a text, and a class object a Class
    fits (ConstString 0 string ∷ []) (string ∷ object ∷ class_class ∷ cloneable ∷ a ∷ []) (codes "1\n1\n0\n0\n0\n") 16
    -- a class object is a Class, and no instance of its type
    ∷ fits (ConstClass 0 a ∷ []) (class_class ∷ object ∷ string ∷ a ∷ []) (codes "1\n1\n0\n0\n") 14
    -- a text is no Class
    ∷ refused (ConstString 0 string ∷ []) class_class 7
    -- and the class object of String no text
    ∷ refused (ConstClass 0 string ∷ []) string 7
    -- a throwable of the machine has the classes above it
    ∷ fits (NewInstance 0 null_pointer ∷ []) (exception ∷ object ∷ error_class ∷ []) (codes "1\n1\n0\n") 12
    ∷ [])
unfolding outcome
types_of_others = refl
