-- What each instruction does, row by row: a list of deeds, or none where an operand is of the wrong kind. No row asks
-- for the initialisation of a class: the need of one is looked at before. No row sees the stack below its frame. Restates
-- the bytecode page.
use Rattle.std.specs.Prelude.{ℕ, ◌%◌, ◌/◌, List, [], ◌∷◌, Some}
use Rattle.pi_model.specs.declared.insn.Insn.{Insn}
use Rattle.pi_model.specs.declared.insn.Insn.TheVariants.{Nop, Move, MoveResult, MoveException, ReturnVoid, Return, Const, ConstWide, ConstString, ConstClass, Monitor, CheckCast, InstanceOf, ArrayLength, NewInstance, NewArray, Filled, FillArray, Throw, Goto, Switch, CmpLong, If, IfZ, Aget, Aput, Iget, Iput, Sget, Sput, Invoke, Unary, Binary, BinaryLit}
use Rattle.pi_model.specs.Program.{Program}
use Rattle.pi_model.specs.Values.{Word, Long}
use Rattle.pi_machine.specs.State.{State, Frame}
use Rattle.pi_machine.specs.Deeds.{Jump}
use Rattle.pi_machine.specs.Operands.{Deeds, set_and_go, go_on}
use Rattle.pi_machine.specs.Rows.Registers.{move_row, move_result_row, move_exception_row, return_void_row, return_row, const_string_row, const_class_row}
use Rattle.pi_machine.specs.Rows.Numbers.{unary_row, binary_row, binary_literal_row, compare_long_row, if_row, if_zero_row, switch_row}
use Rattle.pi_machine.specs.Rows.Objects.{new_instance_row, monitor_row, check_cast_row, instance_of_row, throw_row, iget_row, iput_row, sget_row, sput_row}
use Rattle.pi_machine.specs.Rows.Arrays.{array_length_row, new_array_row, filled_row, fill_array_row, aget_row, aput_row}
use Rattle.pi_machine.specs.Rows.Calls.{invoke_row}
pub mod Registers
pub mod Numbers
pub mod Objects
pub mod Arrays
pub mod Calls

-- the row of an instruction of a frame, with the instruction's length
abbrev pub row : Program → State → Frame → ℕ → Insn → Deeds
row p s f units Nop = Some (go_on f units)
row p s f units (Move k a b) = move_row s f units k a b
row p s f units (MoveResult k a) = move_result_row f units s.held k a
row p s f units (MoveException a) = move_exception_row f units s.held a
row p s f units ReturnVoid = return_void_row
row p s f units (Return k a) = return_row s f k a
row p s f units (Const a v) = set_and_go f units a (Word v)
row p s f units (ConstWide a v) = set_and_go f units a (Long v)
row p s f units (ConstString a n) = const_string_row f units a n
row p s f units (ConstClass a t) = const_class_row f units a t
row p s f units (Monitor a) = monitor_row p s f units a
row p s f units (CheckCast a t) = check_cast_row p s f units a t
row p s f units (InstanceOf a b t) = instance_of_row p s f units a b t
row p s f units (ArrayLength a b) = array_length_row p s f units a b
row p s f units (NewInstance a t) = new_instance_row p s f units a t
row p s f units (NewArray a b t) = new_array_row p s f units a b t
row p s f units (Filled t regs) = filled_row p s f units t regs
row p s f units (FillArray a width items) = fill_array_row p s f units a width items
row p s f units (Throw a) = throw_row p s f a
row p s f units (Goto to) = Some (Jump to ∷ [])
row p s f units (Switch a cases) = switch_row f units a cases
row p s f units (CmpLong a b c) = compare_long_row f units a b c
row p s f units (If cond a b to) = if_row s f units cond a b to
row p s f units (IfZ cond a to) = if_zero_row s f units cond a to
row p s f units (Aget k a b c) = aget_row p s f units k a b c
row p s f units (Aput k a b c) = aput_row p s f units k a b c
row p s f units (Iget k a b r) = iget_row p s f units k a b r
row p s f units (Iput k a b r) = iput_row p s f units k a b r
row p s f units (Sget k a r) = sget_row p s f units k a r
row p s f units (Sput k a r) = sput_row p s f units k a r
row p s f units (Invoke how m regs) = invoke_row p s f units how m regs
row p s f units (Unary op a b) = unary_row f units op a b
row p s f units (Binary op a b c) = binary_row p s f units op a b c
row p s f units (BinaryLit op a b v) = binary_literal_row p s f units op a b v
