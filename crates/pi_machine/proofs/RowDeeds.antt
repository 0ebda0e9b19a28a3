-- What holds of all deeds of the row of an instruction: a property of every kind of deed that rows do holds of each deed
-- of each row.
use Rattle.std.proofs.Common.{◌≡◌, ℕ, List, [], ◌∷◌, Option, Some, None, Bool, true, false, refl, subst, map, length, ◌==◌}
use Rattle.pi_model.specs.declared.insn.Insn.{Insn}
use Rattle.pi_model.specs.declared.insn.Insn.TheVariants.{Nop, Move, MoveResult, MoveException, ReturnVoid, Return, Const, ConstWide, ConstString, ConstClass, Monitor, CheckCast, InstanceOf, ArrayLength, NewInstance, NewArray, Filled, FillArray, Throw, Goto, Switch, CmpLong, If, IfZ, Aget, Aput, Iget, Iput, Sget, Sput, Invoke, Unary, Binary, BinaryLit}
use Rattle.pi_model.specs.Program.{Program}
use Rattle.pi_model.specs.Values.{Ref, Value, Word, Long, Object, Array}
use Rattle.pi_model.specs.Sizes.{width_of}
use Rattle.pi_machine.specs.Rows.Arrays.{item_value}
use Rattle.pi_machine.specs.Sound.{EachOf}
use Rattle.pi_machine.specs.State.{State, Frame, Record, Nothing}
use Rattle.pi_machine.specs.Deeds.{Deed, SetStatic, SetStatus, SetField, SetItem, CallNative, Start, Push, SetReg, Jump, SetPhase, Unpend}
use Rattle.pi_machine.specs.Rows.{row}
use Rattle.pi_machine.proofs.Each.{each_any}
use Rattle.pi_machine.proofs.RowDeeds.Words.{Does, RowFacts, RowLists, RowCalls, AnyValue, AnyObject, any_facts, RowFact, of_each, on_some, each_fails, these, goes, sets}
use Rattle.pi_machine.proofs.RowDeeds.Numbers.{move_deeds, move_result_deeds, move_exception_deeds, returning, return_deeds, const_string_deeds, const_class_deeds, unary_deeds, binary_deeds, binary_literal_deeds, compare_long_deeds, if_deeds, if_zero_deeds, switch_deeds}
use Rattle.pi_machine.proofs.RowDeeds.Objects.{new_instance_deeds, monitor_deeds, check_cast_deeds, instance_of_deeds, throw_deeds, iget_deeds, iput_deeds, sget_deeds, sput_deeds, array_length_deeds, new_array_deeds, filled_row_deeds, fill_array_deeds, aget_deeds, aput_deeds}
use Rattle.pi_machine.proofs.RowDeeds.Calls.{invoke_deeds}
use Rattle.pi_machine.specs.StepLaws.{NoneOf, EachDeed, is_beyond_rows, RowsKeepWithin, IsWriteInside, RowWritesAreInside}
pub mod Words
pub mod Numbers
pub mod Objects
pub mod Natives
pub mod Calls

-- the constants of an instruction as values
abbrev pub OnConstants : (Value → Type 0) → (Object → Type 0) → Insn → Type 0
OnConstants V O (Const a v) = V (Word v)
OnConstants V O (ConstWide a v) = V (Long v)
OnConstants V O (BinaryLit op a b v) = V (Word v)
OnConstants V O (Filled t regs) = (vs : List Value) → length vs ≡ length regs → EachOf V vs → O (Array t.0 vs)
OnConstants V O (FillArray a width items) = (letter : ℕ) → (width_of letter == width) ≡ true → EachOf V (map (item_value letter) items)
OnConstants V O _ = Unit {0}

module _ {p : Program} {s : State} {f : Frame} {V : Option Ref → Value → Type 0} {O : Object → Type 0} {U : List ℕ → Type 0}
    {Ends : Option Ref → List Deed → Type 0} {After : ℕ → List Deed → Type 0} {Inner All : List Deed → Type 0}
    (g : RowFacts p s f V O U) (k : RowLists p s f V O Ends After All) (calls : RowCalls p s f V O Ends After Inner All) where
  pub row_lists : (units : ℕ) (i : Insn) → OnConstants (V None) O i → Does All (row p s f units i)
  row_lists units Nop cs = goes g k units
  row_lists units (Move kd a b) cs = move_deeds g k units kd a b
  row_lists units (MoveResult kd a) cs = move_result_deeds g k units _ kd a refl
  row_lists units (MoveException a) cs = move_exception_deeds g k units _ a refl
  row_lists units ReturnVoid cs = returning g k Nothing tt
  row_lists units (Return kd a) cs = return_deeds g k kd a
  row_lists units (Const a v) cs = sets g k units a (Word v) cs
  row_lists units (ConstWide a v) cs = sets g k units a (Long v) cs
  row_lists units (ConstString a n) cs = const_string_deeds g k units a n
  row_lists units (ConstClass a t) cs = const_class_deeds g k units a t
  row_lists units (Monitor a) cs = monitor_deeds g k units a
  row_lists units (CheckCast a t) cs = check_cast_deeds g k units a t
  row_lists units (InstanceOf a b t) cs = instance_of_deeds g k units a b t
  row_lists units (ArrayLength a b) cs = array_length_deeds g k units a b
  row_lists units (NewInstance a t) cs = new_instance_deeds g k units a t
  row_lists units (NewArray a b t) cs = new_array_deeds g k units a b t
  row_lists units (Filled t regs) cs = filled_row_deeds g k units t regs cs
  row_lists units (FillArray a width items) cs = fill_array_deeds g k units a width items cs
  row_lists units (Throw a) cs = throw_deeds g k a
  row_lists units (Goto to) cs = these (k.rest (Jump to ∷ []) (k.jump None to [] (k.none None)))
  row_lists units (Switch a cases) cs = switch_deeds g k units a cases
  row_lists units (CmpLong a b c) cs = compare_long_deeds g k units a b c
  row_lists units (If cond a b to) cs = if_deeds g k units cond a b to
  row_lists units (IfZ cond a to) cs = if_zero_deeds g k units cond a to
  row_lists units (Aget kd a b c) cs = aget_deeds g k units kd a b c
  row_lists units (Aput kd a b c) cs = aput_deeds g k units kd a b c
  row_lists units (Iget kd a b r) cs = iget_deeds g k units kd a b r
  row_lists units (Iput kd a b r) cs = iput_deeds g k units kd a b r
  row_lists units (Sget kd a r) cs = sget_deeds g k units kd a r
  row_lists units (Sput kd a r) cs = sput_deeds g k units kd a r
  row_lists units (Invoke how m regs) cs = invoke_deeds g k calls units how m regs
  row_lists units (Unary op a b) cs = unary_deeds g k units op a b
  row_lists units (Binary op a b c) cs = binary_deeds g k units op a b c
  row_lists units (BinaryLit op a b v) cs = binary_literal_deeds g k units op a b v cs

-- nothing is asked of constants
any_items : (letter : ℕ) (items : List ℕ) → EachOf (AnyValue None) (map (item_value letter) items)
any_items letter items = each_any (map (item_value letter) items)

pub any_constants : (i : Insn) → OnConstants (AnyValue None) AnyObject i
any_constants (Const a v) = tt
any_constants (ConstWide a v) = tt
any_constants (BinaryLit op a b v) = tt
any_constants (Filled t regs) = λ vs e x. tt
any_constants (FillArray a width items) = λ letter e. any_items letter items
any_constants _ = tt

pub any_rows : {p : Program} {s : State} {f : Frame} {Ends : Option Ref → List Deed → Type 0} {After : ℕ → List Deed → Type 0} {Inner All : List Deed → Type 0}
    (k : RowLists p s f AnyValue AnyObject Ends After All) → RowCalls p s f AnyValue AnyObject Ends After Inner All → (units : ℕ) (i : Insn) → Does All (row p s f units i)
any_rows {p} {s} {f} k calls units i = row_lists (any_facts p s f) k calls units i (any_constants i)

-- a property of each deed of a row
pub row_deeds : (p : Program) (s : State) (f : Frame) {P : Deed → Type 0} → ((d : Deed) → RowFact p s f d → P d) → ((m : ℕ) → P (CallNative m))
    → (units : ℕ) (i : Insn) → Does (EachDeed P) (row p s f units i)
row_deeds p s f {P} one native units i =
    let calls : RowCalls p s f AnyValue AnyObject (λ new. EachDeed P) (λ n. EachDeed P) (EachDeed P) (EachDeed P) =
    record { inner = of_each one; call_native = λ m ds h. (native m, h) } in
    any_rows (of_each one) calls units i

-- no row does what is left to initialisation, to the start and to the way of a throwable
within_rows : (p : Program) (s : State) (f : Frame) (d : Deed) → RowFact p s f d → is_beyond_rows d ≡ false
within_rows p s f (SetStatus c status) e = absurd e
within_rows p s f (Push (Record c phase)) e = absurd e
within_rows p s f (SetPhase phase) e = absurd e
within_rows p s f Start e = absurd e
within_rows p s f Unpend e = absurd e
within_rows p s f _ e = refl

pub rows_keep_within : RowsKeepWithin
rows_keep_within = λ p s f units i deeds e.
    each_fails is_beyond_rows deeds (on_some deeds e (row_deeds p s f (within_rows p s f) (λ m. refl) units i))

-- no write of a row is lost
writes_there : (p : Program) (s : State) (f : Frame) (d : Deed) → RowFact p s f d → IsWriteInside s f d
writes_there p s f (SetStatic field v) e = e
writes_there p s f (SetField n i v) e = e
writes_there p s f (SetItem n i v) e = e
writes_there p s f (SetReg a v) e = e
writes_there p s f _ e = tt

pub row_writes_are_inside : RowWritesAreInside
row_writes_are_inside = λ p s f units i deeds e. on_some deeds e (row_deeds p s f (writes_there p s f) (λ m. tt) units i)
