-- Instructions on numbers: arithmetic, comparisons, branches and switches. Restates the bytecode page.
use Rattle.std.specs.Prelude.{ℕ, zero, ◌+◌, ◌==◌, not, List, [], ◌∷◌, find, Option, Some, None, Bool, true, false, if◌then◌else◌, option_map}
use Rattle.pi_model.specs.declared.insn.Arith.{Arith}
use Rattle.pi_model.specs.declared.insn.Arith.TheVariants.{Int, Long}
use Rattle.pi_model.specs.declared.insn.BinOp.{BinOp}
use Rattle.pi_model.specs.declared.insn.BinOp.TheVariants.{Shl, Shr, Ushr}
use Rattle.pi_model.specs.declared.insn.UnOp.{UnOp}
use Rattle.pi_model.specs.declared.insn.UnOp.TheVariants.{NegInt, NotInt, NegLong, NotLong, IntToLong, LongToInt, IntToByte, IntToChar, IntToShort}
use Rattle.pi_model.specs.declared.insn.Cond.{Cond}
use Rattle.pi_model.specs.declared.insn.Cond.TheVariants.{Eq, Ne, Lt, Ge, Gt, Le}
use Rattle.pi_model.specs.declared.insn.Case.{Case}
use Rattle.pi_model.specs.Program.{Program}
use Rattle.pi_model.specs.Known.{Arithmetic}
use Rattle.pi_model.specs.Arithmetic.{int_result, long_result, unary_result, long_comparison, condition_holds}
use Rattle.pi_model.specs.Values as values
use Rattle.pi_model.specs.Values.{Ref, Num, Lit, Cls, Value, Word, Low, High, At}
use Rattle.pi_machine.specs.State.{State, Frame}
use Rattle.pi_machine.specs.Deeds.{Jump}
use Rattle.pi_machine.specs.Objects.{names_thing}
use Rattle.pi_machine.specs.Operands.{Deeds, with_word, with_long, register_of, set_and_go, go_on}
use Rattle.pi_machine.specs.Throwing.{throws}

-- an operation on one operand takes a long, or else an int
abbrev pub takes_long : UnOp → Bool
takes_long NegLong = true
takes_long NotLong = true
takes_long LongToInt = true
takes_long _ = false

-- the result as a word or a long
abbrev pub unary_value : UnOp → ℕ → Value
unary_value NegLong n = values.Long (unary_result NegLong n)
unary_value NotLong n = values.Long (unary_result NotLong n)
unary_value IntToLong n = values.Long (unary_result IntToLong n)
unary_value NegInt n = Word (unary_result NegInt n)
unary_value NotInt n = Word (unary_result NotInt n)
unary_value LongToInt n = Word (unary_result LongToInt n)
unary_value IntToByte n = Word (unary_result IntToByte n)
unary_value IntToChar n = Word (unary_result IntToChar n)
unary_value IntToShort n = Word (unary_result IntToShort n)

-- go on with an int or a long at a register
abbrev pub with_number : Frame → Bool → ℕ → (ℕ → Deeds) → Deeds
with_number f long a go = if long then with_long (register_of f a) (register_of f (a + 1)) go else with_word (register_of f a) go

-- an operation on one operand
abbrev pub unary_row : Frame → ℕ → UnOp → ℕ → ℕ → Deeds
unary_row f units op a b = with_number f (takes_long op) b (λ n. set_and_go f units a (unary_value op n))

-- the result of an operation goes into a register; without a result, ArithmeticException
abbrev pub result_or_throw : Program → State → Frame → ℕ → ℕ → Option Value → Deeds
result_or_throw p s f units a None = throws p s Arithmetic
result_or_throw p s f units a (Some v) = set_and_go f units a v

-- the distance of a shift of a long is an int
abbrev pub is_shift : BinOp → Bool
is_shift Shl = true
is_shift Shr = true
is_shift Ushr = true
is_shift _ = false

-- an operation on two registers
abbrev pub binary_row : Program → State → Frame → ℕ → Arith → ℕ → ℕ → ℕ → Deeds
binary_row p s f units (Int op) a b c =
    with_word (register_of f b) (λ m. with_word (register_of f c) (λ n. result_or_throw p s f units a (option_map Word (int_result op m n))))
binary_row p s f units (Long op) a b c =
    with_long (register_of f b) (register_of f (b + 1)) (λ m. with_number f (not (is_shift op)) c (λ n.
    result_or_throw p s f units a (option_map values.Long (long_result op m n))))

-- an operation on a register and a literal
abbrev pub binary_literal_row : Program → State → Frame → ℕ → BinOp → ℕ → ℕ → ℕ → Deeds
binary_literal_row p s f units op a b v = with_word (register_of f b) (λ m. result_or_throw p s f units a (option_map Word (int_result op m v)))

-- two longs are compared
abbrev pub compare_long_row : Frame → ℕ → ℕ → ℕ → ℕ → Deeds
compare_long_row f units a b c =
    with_long (register_of f b) (register_of f (b + 1)) (λ m. with_long (register_of f c) (register_of f (c + 1)) (λ n.
    set_and_go f units a (Word (long_comparison m n))))

-- a branch that is taken goes on at its target, another behind the instruction
abbrev pub branch : Frame → ℕ → ℕ → Bool → Deeds
branch f units to taken = Some (if taken then Jump to ∷ [] else go_on f units)

-- two references are one object
abbrev pub same_ref : Ref → Ref → Bool
same_ref (Num m) (Num n) = m == n
same_ref (Lit m) (Lit n) = m == n
same_ref (Cls m) (Cls n) = m == n
same_ref _ _ = false

-- references are equal or not, and are in no other order
abbrev pub equality : Cond → Bool → Option Bool
equality Eq same = Some same
equality Ne same = Some (not same)
equality Lt same = None
equality Ge same = None
equality Gt same = None
equality Le same = None

-- a condition on two operands: words by their signed order, references and null by being the same
abbrev pub comparison : State → Cond → Option Value → Option Value → Option Bool
comparison s cond (Some (Word m)) (Some (Word n)) = Some (condition_holds cond m n)
comparison s cond (Some (At r)) (Some (At q)) = if names_thing s r then (if names_thing s q then equality cond (same_ref r q) else None) else None
comparison s cond (Some (At r)) (Some (Word zero)) = if names_thing s r then equality cond false else None
comparison s cond (Some (Word zero)) (Some (At q)) = if names_thing s q then equality cond false else None
comparison s cond _ _ = None

-- a branch, where its operands can be compared
abbrev pub branch_by : Frame → ℕ → ℕ → Option Bool → Deeds
branch_by f units to None = None
branch_by f units to (Some taken) = branch f units to taken

-- two registers are compared
abbrev pub if_row : State → Frame → ℕ → Cond → ℕ → ℕ → ℕ → Deeds
if_row s f units cond a b to = branch_by f units to (comparison s cond (register_of f a) (register_of f b))

-- a register is compared with 0, or with null
abbrev pub if_zero_row : State → Frame → ℕ → Cond → ℕ → ℕ → Deeds
if_zero_row s f units cond a to = branch_by f units to (comparison s cond (register_of f a) (Some (Word 0)))

-- the case of a switch with that key; without one the run goes on behind the instruction
abbrev pub to_case : Frame → ℕ → Option Case → Deeds
to_case f units None = Some (go_on f units)
to_case f units (Some c) = Some (Jump c.to ∷ [])

-- a switch, by the first case with the key
abbrev pub switch_row : Frame → ℕ → ℕ → List Case → Deeds
switch_row f units a cases = with_word (register_of f a) (λ n. to_case f units (find (λ (c : Case). c.key == n) cases))
