-- Instructions on registers: moves, constants, results and returns. Restates the bytecode page.
use Rattle.std.specs.Prelude.{ℕ, [], ◌∷◌, Some, None}
use Rattle.pi_model.specs.declared.insn.Kind.{Kind}
use Rattle.pi_model.specs.declared.numbers.NameNo.{NameNo}
use Rattle.pi_model.specs.Values.{Lit, Cls, At}
use Rattle.pi_machine.specs.State.{State, Frame, Held, Nothing, Result, Thrown}
use Rattle.pi_machine.specs.Deeds.{Saw, OfHeld, Touch, Pop, Hold, GoOn}
use Rattle.pi_machine.specs.Operands.{Deeds, first_do, with_operand, of_kind, set_and_go}

-- a register, or the two of a long, is copied
abbrev pub move_row : State → Frame → ℕ → Kind → ℕ → ℕ → Deeds
move_row s f units k a b = with_operand s f k b (set_and_go f units a)

-- the held result goes into a register
abbrev pub move_result_row : Frame → ℕ → Held → Kind → ℕ → Deeds
move_result_row f units (Result v) k a = of_kind k (Some v) (λ v. first_do (Saw (OfHeld (Result v))) (set_and_go f units a v))
move_result_row f units Nothing k a = None
move_result_row f units (Thrown r) k a = None

-- the throwable that was caught goes into a register
abbrev pub move_exception_row : Frame → ℕ → Held → ℕ → Deeds
move_exception_row f units (Thrown r) a = first_do (Saw (OfHeld (Thrown r))) (set_and_go f units a (At r))
move_exception_row f units Nothing a = None
move_exception_row f units (Result v) a = None

-- a return: the frame goes, and the frame below, if there is one, goes on behind its call
abbrev pub returns : Held → Deeds
returns held = Some (Pop ∷ Hold held ∷ GoOn ∷ [])

-- a return without a value
abbrev pub return_void_row : Deeds
return_void_row = returns Nothing

-- a return with a value
abbrev pub return_row : State → Frame → Kind → ℕ → Deeds
return_row s f k a = with_operand s f k a (λ v. returns (Result v))

-- the object of a literal, which is touched; the class object of a type
abbrev pub const_string_row : Frame → ℕ → ℕ → NameNo → Deeds
const_string_row f units a n = first_do (Touch n.0) (set_and_go f units a (At (Lit n.0)))

-- the class object of a type goes into a register
abbrev pub const_class_row : Frame → ℕ → ℕ → NameNo → Deeds
const_class_row f units a t = set_and_go f units a (At (Cls t.0))
