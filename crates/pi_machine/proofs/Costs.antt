-- What objects cost of the heap bytes, and frames of the frame words. A run returns within a limit, and with one byte
-- less it ends by it before the step that makes the last object. The empty array of arguments costs 16, and four steps
-- come before main's first instruction.
use Rattle.std.proofs.Common.{Some, None, ℕ, ◌-◌, List, [], ◌∷◌, ◌++◌, refl}
use Rattle.std.specs.Prelude.{codes}
use Rattle.pi_model.specs.declared.insn.Insn.{Insn}
use Rattle.pi_model.specs.declared.insn.Insn.TheVariants.{Const, ConstWide, ConstString, ConstClass, NewInstance, NewArray, Filled, Throw, Invoke, ReturnVoid}
use Rattle.pi_model.specs.declared.insn.How.TheVariants.{Virtual, Static}
use Rattle.pi_model.specs.Program.{Program}
use Rattle.pi_machine.specs.Ends.{Returned, Uncaught, HeapLimit, FrameLimit}
use Rattle.pi_machine.proofs.Examples.{Run, outcome, Outcomes, ends_by}
use Rattle.pi_machine.proofs.Sample.{no, object, string, class_class, runtime_exception, text_class, system, cloneable, int, long, void, ints, longs, bytes, chars, strings, main_name, own, class, code, method, instance_field, method_ref, chain, main_method, main_program, limits}

-- main costs so many bytes, and makes its last object after so many steps
abbrev costs_in : Program → ℕ → ℕ → ℕ → List Run
costs_in p bytes before steps = ends_by p (limits 1000 bytes 1000) Returned [] steps ∷ ends_by p (limits 1000 (bytes - 1) 1000) HeapLimit [] before ∷ []

abbrev costs : List Insn → ℕ → ℕ → ℕ → List Run
costs insns bytes before steps = costs_in (main_program (insns ++ ReturnVoid ∷ []) []) bytes before steps

-- new objects
object_costs : Outcomes (
    -- an instance without fields costs 8, and one of a throwable 16
    costs (NewInstance 0 object ∷ NewInstance 0 runtime_exception ∷ []) 40 5 7
    -- an array costs 16 and its elements, rounded up to a multiple of 8
    ++ costs (Const 0 3 ∷ NewArray 1 0 bytes ∷ NewArray 1 0 longs ∷ []) 80 6 8
    -- an array from registers costs as much as any other
    ++ costs (Filled ints (0 ∷ 0 ∷ 0 ∷ []) ∷ []) 48 4 6
    -- a literal costs its text at its first touch alone: five units
    ++ costs (ConstString 0 (no 49) ∷ ConstString 1 (no 49) ∷ []) 48 4 7
    -- a text of concat: ten units behind the literal's five
    ++ costs (ConstString 0 (no 49) ∷ Invoke Virtual (method_ref string (no 56) (string ∷ []) string) (0 ∷ 0 ∷ []) ∷ []) 88 5 7
    -- the text of -1
    ++ costs (ConstWide 0 0xffffffffffffffff ∷ Invoke Static (method_ref text_class (no 58) (long ∷ []) string) (0 ∷ 1 ∷ []) ∷ []) 40 5 7
    -- the text of one char
    ++ costs (Const 0 1 ∷ Const 1 0 ∷ NewArray 2 0 chars ∷ Invoke Static (method_ref text_class (no 59) (chars ∷ int ∷ int ∷ []) string) (2 ∷ 1 ∷ 0 ∷ []) ∷ []) 64 7 9)
unfolding outcome
object_costs = refl

-- a clone costs as much as what it was made from: an array, and an instance of a long and an int
abbrev clone_of : ℕ → Insn
clone_of a = Invoke Virtual (method_ref object (no 51) [] object) (a ∷ [])

-- clones, and what makes nothing
clone_costs : Outcomes (
    -- an array of two ints
    costs (Const 0 2 ∷ NewArray 1 0 ints ∷ clone_of 1 ∷ []) 64 6 8
    -- an instance of a long and an int, of 24 bytes
    ++ costs_in (chain (codes "LT;" ∷ codes "LA;" ∷ codes "x" ∷ []) (class 1 (own 0) 1 (Some object) [] [] (main_method (NewInstance 0 (own 1) ∷ clone_of 0 ∷ ReturnVoid ∷ []) [] ∷ [])
    ∷ class 1 (own 1) 1 (Some object) (cloneable ∷ []) (instance_field (own 2) long ∷ instance_field (own 2) int ∷ []) [] ∷ [])) 64 8 10
    -- class objects cost nothing, and a copy between arrays makes nothing: all that costs is the array in the middle
    ++ costs (Const 0 0 ∷ NewArray 1 0 ints ∷ ConstClass 2 object ∷ Invoke Virtual (method_ref object (no 52) [] class_class) (1 ∷ [])
    ∷ Invoke Static (method_ref system (no 57) (object ∷ int ∷ object ∷ int ∷ int ∷ []) void) (1 ∷ 0 ∷ 1 ∷ 0 ∷ 0 ∷ []) ∷ []) 32 5 13)
unfolding outcome
clone_costs = refl

-- main throws null, or makes an array of a negative length
abbrev throws_null : Program
throws_null = main_program (Const 0 0 ∷ Throw 0 ∷ []) []

abbrev negative : Program
negative = main_program (Const 0 0xffffffff ∷ NewArray 0 0 ints ∷ ReturnVoid ∷ []) []

-- A method without registers that calls itself, called by main with one register: 5 words and 4 for each call, so that
-- the fifteenth call passes a limit of 64.
abbrev endless : Program
endless = chain (codes "LT;" ∷ codes "f" ∷ []) (class 1 (own 0) 1 (Some object) [] [] (
    method main_name (strings ∷ []) void 9 (code 1 1 (Invoke Static (method_ref (own 0) (own 1) [] void) [] ∷ ReturnVoid ∷ []) [])
    ∷ method (own 1) [] void 9 (code 0 0 (Invoke Static (method_ref (own 0) (own 1) [] void) [] ∷ ReturnVoid ∷ []) []) ∷ []) ∷ [])

-- throwables of the machine, and frames
others_cost : Outcomes (
    -- a throwable that the machine makes costs as much as any other
    ends_by throws_null (limits 1000 32 1000) (Uncaught 9 None) [] 7 ∷ ends_by throws_null (limits 1000 31 1000) HeapLimit [] 5
    -- also the one for a negative length, whose array is not made: with room for it, and with too little
    ∷ ends_by negative (limits 1000 32 1000) (Uncaught 11 None) [] 7 ∷ ends_by negative (limits 1000 24 1000) HeapLimit [] 5
    -- fourteen calls behind the four steps
    ∷ ends_by endless (limits 1000 1000 64) FrameLimit [] 18 ∷ ends_by endless (limits 1000 1000 65) FrameLimit [] 19
    ∷ [])
unfolding outcome
others_cost = refl
