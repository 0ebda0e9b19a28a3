-- Branches, switches and the halves of longs. Four steps come before main's first instruction.
use Rattle.std.proofs.Common.{Some, ℕ, ◌+◌, List, [], ◌∷◌, ◌++◌, refl}
use Rattle.std.specs.Prelude.{codes}
use Rattle.pi_model.specs.declared.insn.Insn.{Insn}
use Rattle.pi_model.specs.declared.insn.Insn.TheVariants.{Move, Const, ConstWide, ConstString, ConstClass, NewInstance, Goto, Switch, If, IfZ, Binary, BinaryLit, ReturnVoid}
use Rattle.pi_model.specs.declared.insn.Arith.TheVariants.{Long}
use Rattle.pi_model.specs.declared.insn.BinOp.TheVariants.{Add}
use Rattle.pi_model.specs.declared.insn.Cond.{Cond}
use Rattle.pi_model.specs.declared.insn.Cond.TheVariants.{Eq, Ne, Lt, Ge, Gt, Le}
use Rattle.pi_model.specs.declared.insn.Case.{Case}
use Rattle.pi_model.specs.declared.insn.Kind.TheVariants as kind
use Rattle.pi_model.specs.Known.{descriptor_of}
use Rattle.pi_model.specs.Values.{Word, Low, High}
use Rattle.pi_machine.specs.Deeds.{SetReg, Jump}
use Rattle.pi_machine.specs.Rows.{row}
use Rattle.pi_machine.proofs.Examples.{Same, outcome, Outcomes, prints}
use Rattle.pi_machine.proofs.Sample.{no, object, string, core, print, print_long, standing, nothing_made}

-- at an address: 1 is printed where the branch is taken, else 0; that are three steps or four
abbrev tells : ℕ → (ℕ → Insn) → List Insn
tells at jump = jump (at + 3) ∷ Const 2 0 ∷ Goto (at + 4) ∷ Const 2 1 ∷ print 2 ∷ []

-- branches on the registers 0 and 1, and on register 0, by each of the conditions
abbrev ifs : ℕ → List Cond → List Insn
ifs at [] = ReturnVoid ∷ []
ifs at (c ∷ cs) = tells at (If c 0 1) ++ ifs (at + 7) cs

abbrev ifzs : ℕ → List Cond → List Insn
ifzs at [] = ReturnVoid ∷ []
ifzs at (c ∷ cs) = tells at (IfZ c 0) ++ ifzs (at + 7) cs

abbrev conditions : List Cond
conditions = Eq ∷ Ne ∷ Lt ∷ Ge ∷ Gt ∷ Le ∷ []

-- of references and null there are two
abbrev equalities : List Cond
equalities = Eq ∷ Ne ∷ []

-- branches on ints
branches_on_ints : Outcomes (
    -- equal: eq, ge and le
    prints (Const 0 7 ∷ Const 1 7 ∷ ifs 2 conditions) (codes "1\n0\n0\n1\n0\n1\n") 28
    -- -1 is less than 0: ne, lt and le
    ∷ prints (Const 0 0xffffffff ∷ Const 1 0 ∷ ifs 2 conditions) (codes "0\n1\n1\n0\n0\n1\n") 28
    -- the greatest int is greater than the least: ne, ge and gt
    ∷ prints (Const 0 0x7fffffff ∷ Const 1 0x80000000 ∷ ifs 2 conditions) (codes "0\n1\n0\n1\n1\n0\n") 28
    -- the least int is less than -1, and 1 is greater than -1
    ∷ prints (Const 0 0x80000000 ∷ Const 1 0xffffffff ∷ ifs 2 conditions) (codes "0\n1\n1\n0\n0\n1\n") 28
    -- 1 is greater than -1
    ∷ prints (Const 0 1 ∷ Const 1 0xffffffff ∷ ifs 2 conditions) (codes "0\n1\n0\n1\n1\n0\n") 28
    -- 0 against 0, -1, the least int, the greatest int
    ∷ prints (Const 0 0 ∷ ifzs 1 conditions) (codes "1\n0\n0\n1\n0\n1\n") 27
    -- -1 is less than 0: ne, lt and le
    ∷ prints (Const 0 0xffffffff ∷ ifzs 1 conditions) (codes "0\n1\n1\n0\n0\n1\n") 27
    -- and so is the least int
    ∷ prints (Const 0 0x80000000 ∷ ifzs 1 conditions) (codes "0\n1\n1\n0\n0\n1\n") 27
    -- the greatest int is greater: ne, ge and gt
    ∷ prints (Const 0 0x7fffffff ∷ ifzs 1 conditions) (codes "0\n1\n0\n1\n1\n0\n") 27
    ∷ [])
unfolding outcome
branches_on_ints = refl

-- branches on references
branches_on_references : Outcomes (
    -- one literal is equal to itself, and not to another
    prints (ConstString 0 (no 1) ∷ ConstString 1 (no 1) ∷ ifs 2 equalities) (codes "1\n0\n") 14
    -- another literal is another object
    ∷ prints (ConstString 0 (no 1) ∷ ConstString 1 (no 2) ∷ ifs 2 equalities) (codes "0\n1\n") 14
    -- a class object is equal to itself, and not to the literal of its type's name
    ∷ prints (ConstClass 0 string ∷ ConstClass 1 string ∷ ifs 2 equalities) (codes "1\n0\n") 14
    -- a class object is not the literal of its type's name
    ∷ prints (ConstClass 0 string ∷ ConstString 1 string ∷ ifs 2 equalities) (codes "0\n1\n") 14
    -- two new objects are not equal, and a move carries the same one
    ∷ prints (NewInstance 0 object ∷ NewInstance 1 object ∷ ifs 2 equalities) (codes "0\n1\n") 14
    -- a move carries the same object
    ∷ prints (NewInstance 0 object ∷ Move kind.Ref 1 0 ∷ ifs 2 equalities) (codes "1\n0\n") 14
    -- an object is not equal to null, on either side and in a test against zero
    ∷ prints (NewInstance 0 object ∷ Const 1 0 ∷ ifs 2 equalities) (codes "0\n1\n") 14
    -- nor is null equal to a literal
    ∷ prints (Const 0 0 ∷ ConstString 1 string ∷ ifs 2 equalities) (codes "0\n1\n") 14
    -- nor a class object to null
    ∷ prints (ConstClass 0 string ∷ Const 1 0 ∷ ifs 2 equalities) (codes "0\n1\n") 14
    -- nor an object in a test against zero
    ∷ prints (NewInstance 0 object ∷ ifzs 1 equalities) (codes "0\n1\n") 13
    ∷ [])
unfolding outcome
branches_on_references = refl

-- ways back and forward
gotos : Outcomes (
    -- a branch back: it counts down from 3, with three steps for each round
    prints (Const 0 3 ∷ print 0 ∷ BinaryLit Add 0 0 0xffffffff ∷ IfZ Gt 0 1 ∷ ReturnVoid ∷ []) (codes "3\n2\n1\n") 15
    -- a goto forward over a print, one back, and one forward again
    ∷ prints (Goto 4 ∷ print 0 ∷ Const 0 6 ∷ IfZ Ne 0 7 ∷ ReturnVoid ∷ Goto 9 ∷ Const 0 9 ∷ print 0 ∷ ReturnVoid ∷ []) (codes "6\n") 10
    -- a goto forward, then one back
    ∷ prints (Goto 5 ∷ print 0 ∷ ReturnVoid ∷ Const 0 8 ∷ Goto 1 ∷ []) (codes "8\n") 9
    ∷ [])
unfolding outcome
gotos = refl

-- a switch on a key that prints 5 or 6 by its case, and 9 without one
abbrev switches : ℕ → List Case → List Insn
switches n cases = Const 0 n ∷ Switch 0 cases ∷ Const 1 9 ∷ Goto 7 ∷ Const 1 5 ∷ Goto 7 ∷ Const 1 6 ∷ print 1 ∷ ReturnVoid ∷ []

abbrev case : ℕ → ℕ → Case
case key to = record { key = key; to = to }

-- cases in a row from -1 on, which wrap to 0
abbrev packed : List Case
packed = case 0xffffffff 4 ∷ case 0 6 ∷ []

-- cases far apart
abbrev sparse : List Case
sparse = case 0x80000000 4 ∷ case 1000 6 ∷ []

-- switches
switched : Outcomes (
    -- the first key
    prints (switches 0xffffffff packed) (codes "5\n") 10
    -- the second key, which has wrapped
    ∷ prints (switches 0 packed) (codes "6\n") 9
    -- a key behind both: the run goes on
    ∷ prints (switches 1 packed) (codes "9\n") 10
    -- the least int as a key
    ∷ prints (switches 0x80000000 sparse) (codes "5\n") 10
    -- the last key
    ∷ prints (switches 1000 sparse) (codes "6\n") 9
    -- a key between them: the run goes on
    ∷ prints (switches 999 sparse) (codes "9\n") 10
    -- a switch without a case goes on
    ∷ prints (switches 0 []) (codes "9\n") 10
    ∷ [])
unfolding outcome
switched = refl

-- the halves of longs
halves : Same (
    -- a long stands in two registers, its low half first
    (row core nothing_made (standing (Word 0 ∷ Word 0 ∷ Word 0 ∷ [])) 5 (ConstWide 1 0x300000002), Some (SetReg 1 (Low 2) ∷ SetReg 2 (High 3) ∷ Jump 5 ∷ []))
    -- the greatest long has a low half of all ones
    ∷ (row core nothing_made (standing (Word 0 ∷ Word 0 ∷ [])) 2 (ConstWide 0 0x7fffffffffffffff), Some (SetReg 0 (Low 0xffffffff) ∷ SetReg 1 (High 0x7fffffff) ∷ Jump 2 ∷ []))
    -- a move of a long sets two registers, also where they overlap with those it comes from
    ∷ (row core nothing_made (standing (Low 2 ∷ High 3 ∷ Word 0 ∷ [])) 1 (Move kind.Wide 1 0), Some (SetReg 1 (Low 2) ∷ SetReg 2 (High 3) ∷ Jump 1 ∷ []))
    ∷ [])
unfolding descriptor_of
halves = refl

-- longs in registers that overlap
moved_longs : Outcomes (
    -- moved up by one register and by two, and back
    prints (ConstWide 0 0x100000002 ∷ Move kind.Wide 1 0 ∷ print_long 1 ∷ Move kind.Wide 3 1 ∷ print_long 3 ∷ Move kind.Wide 2 3 ∷ print_long 2 ∷ ReturnVoid ∷ []) (codes "4294967298\n4294967298\n4294967298\n") 12
    -- a sum of longs may go into registers that overlap with its operands'
    ∷ prints (ConstWide 0 0x100000002 ∷ ConstWide 2 5 ∷ Binary (Long Add) 1 0 2 ∷ print_long 1 ∷ ReturnVoid ∷ []) (codes "4294967303\n") 9
    ∷ [])
unfolding outcome
moved_longs = refl
