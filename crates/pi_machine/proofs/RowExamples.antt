-- The deeds of single instructions and natives, in their order, and what objects cost.
use Rattle.std.proofs.Common.{Some, None, ℕ, List, [], ◌∷◌, refl, rules}
use Rattle.std.specs.Prelude.{codes}
use Rattle.std.specs.Fmt.{digits}
use Rattle.pi_model.specs.declared.insn.Insn.{Insn}
use Rattle.pi_model.specs.declared.insn.Insn.TheVariants.{Return, ReturnVoid, ConstString, ConstClass, NewInstance, NewArray, Filled, FillArray, Throw, Monitor, Aget, Aput, Iget, Iput, Invoke}
use Rattle.pi_model.specs.declared.insn.Access.TheVariants as access
use Rattle.pi_model.specs.declared.insn.How.TheVariants.{Virtual, Static}
use Rattle.pi_model.specs.declared.insn.Kind.TheVariants as kind
use Rattle.pi_model.specs.Dispatch.{is_virtual}
use Rattle.pi_model.specs.Known.{descriptor_of}
use Rattle.pi_machine.specs.Operands.{Deeds}
use Rattle.pi_model.specs.Valid.{IsProgram}
use Rattle.pi_model.specs.Values.{Value, Word, Long, Low, High, At, Num, Lit, Cls, Instance, Array, Text}
use Rattle.pi_machine.specs.Deeds.{Deed, Make, Touch, Saw, OfField, OfItem, OfObject, Reads, Writes, SetField, SetItem, CallNative, Print, Pop, SetReg, Jump, GoOn, Pend, Hold}
use Rattle.pi_machine.specs.Natives.{native_table}
use Rattle.pi_machine.specs.Rows.{row}
use Rattle.pi_machine.specs.State.{Thing, Made, Nothing, Result}
use Rattle.pi_machine.proofs.Examples.{Same}
use Rattle.pi_machine.proofs.Sample.{no, object, string, throwable, out, text_class, system, int, void, ints, longs, chars, message, field_ref, method_ref, core, print, standing, with_things}

-- The things of these examples by their places: a RuntimeException, an array of two ints, an array of Objects with a
-- text and the exception, an array of two texts, an array of one char.
abbrev things : List Thing
things =
    Made None (Instance 6 (Word 0 ∷ [])) ∷ Made None (Array 36 (Word 1 ∷ Word 2 ∷ [])) ∷ Made None (Array 42 (At (Lit 1) ∷ At (Num 0) ∷ []))
    ∷ Made None (Array 43 (Word 0 ∷ Word 0 ∷ [])) ∷ Made None (Array 40 (Word 97 ∷ [])) ∷ []

abbrev thing : ℕ → Value
thing place = At (Num place)

-- an instruction of so many units does so in a frame with these registers
does : List Value → ℕ → Insn → List Deed → Deeds × Deeds
unfolding descriptor_of native_table is_virtual digits
does registers units insn deeds = (row core (with_things core things) (standing registers) units insn, Some deeds)

-- constants and new objects
makes_objects : Same (
    -- a literal is touched, a class object is not
    does (Word 0 ∷ []) 2 (ConstString 0 string) (Touch 1 ∷ SetReg 0 (At (Lit 1)) ∷ Jump 2 ∷ [])
    -- a class object is not touched
    ∷ does (Word 0 ∷ []) 2 (ConstClass 0 string) (SetReg 0 (At (Cls 1)) ∷ Jump 2 ∷ [])
    -- a new object is the next thing
    ∷ does (Word 0 ∷ []) 2 (NewInstance 0 throwable) (Make (Instance 3 (Word 0 ∷ [])) ∷ SetReg 0 (thing 5) ∷ Jump 2 ∷ [])
    -- an array of longs has whole longs
    ∷ does (Word 2 ∷ []) 2 (NewArray 0 0 longs) (Make (Array 37 (Long 0 ∷ Long 0 ∷ [])) ∷ SetReg 0 (thing 5) ∷ Jump 2 ∷ [])
    -- an array from registers is held
    ∷ does (Word 2 ∷ Word 3 ∷ []) 3 (Filled ints (1 ∷ 0 ∷ [])) (Make (Array 36 (Word 3 ∷ Word 2 ∷ [])) ∷ Hold (Result (thing 5)) ∷ Jump 3 ∷ [])
    ∷ [])
unfolding does
makes_objects = refl

-- throws
throws_objects : Same (
    -- what is thrown is pending; what the machine throws is made first
    does (thing 0 ∷ []) 1 (Throw 0) (Pend (Num 0) ∷ [])
    -- what the machine throws is made first, without a message
    ∷ does (Word 0 ∷ []) 1 (Monitor 0) (Make (Instance 9 (Word 0 ∷ [])) ∷ Pend (Num 5) ∷ [])
    ∷ [])
unfolding does
throws_objects = refl

-- elements, fields and data
reads_and_writes : Same (
    -- a read of an element counts as one of its array, and tells what it held; a write counts as one
    does (thing 1 ∷ Word 1 ∷ []) 2 (Aget access.Plain 0 0 1) (Reads 1 ∷ Saw (OfItem (Num 1) 1 (Word 2)) ∷ SetReg 0 (Word 2) ∷ Jump 2 ∷ [])
    -- a write counts as one of the array
    ∷ does (thing 1 ∷ Word 1 ∷ []) 2 (Aput access.Plain 1 0 1) (Writes 1 ∷ SetItem 1 1 (Word 1) ∷ Jump 2 ∷ [])
    -- what throws neither reads nor writes
    ∷ does (thing 1 ∷ Word 2 ∷ []) 2 (Aput access.Plain 1 0 1) (Make (Instance 17 (Word 0 ∷ [])) ∷ Pend (Num 5) ∷ [])
    -- and so with fields
    ∷ does (thing 0 ∷ []) 2 (Iget access.Ref 0 0 (field_ref throwable message string)) (Reads 0 ∷ Saw (OfField (Num 0) 0 (Word 0)) ∷ SetReg 0 (Word 0) ∷ Jump 2 ∷ [])
    -- a write of a field
    ∷ does (thing 0 ∷ At (Lit 1) ∷ []) 2 (Iput access.Ref 1 0 (field_ref throwable message string)) (Writes 0 ∷ SetField 0 0 (At (Lit 1)) ∷ Jump 2 ∷ [])
    -- data is written in order; data of no item counts as a write too
    ∷ does (thing 1 ∷ []) 3 (FillArray 0 4 (7 ∷ 8 ∷ [])) (Writes 1 ∷ SetItem 1 0 (Word 7) ∷ SetItem 1 1 (Word 8) ∷ Jump 3 ∷ [])
    -- data of no item
    ∷ does (thing 1 ∷ []) 3 (FillArray 0 4 []) (Writes 1 ∷ Jump 3 ∷ [])
    ∷ [])
unfolding does
reads_and_writes = refl

-- returns
returns : Same (
    -- a return pops the frame, holds the value, and the frame below goes on behind its call
    does (Low 1 ∷ High 1 ∷ []) 1 (Return kind.Wide 0) (Pop ∷ Hold (Result (Long 4294967297)) ∷ GoOn ∷ [])
    -- a return without a value
    ∷ does [] 1 ReturnVoid (Pop ∷ Hold Nothing ∷ GoOn ∷ [])
    ∷ [])
unfolding does
returns = refl

-- natives
calls_natives : Same (
    -- a native is told, does its deeds, holds its result, and the run goes on
    does (Word 7 ∷ []) 3 (print 0) (CallNative 6 ∷ Print (codes "7\n") ∷ Hold Nothing ∷ Jump 3 ∷ [])
    -- a clone reads its object as a whole
    ∷ does (thing 1 ∷ []) 3 (Invoke Virtual (method_ref object (no 51) [] object) (0 ∷ []))
    (CallNative 0 ∷ Reads 1 ∷ Saw (OfObject (Num 1) (Array 36 (Word 1 ∷ Word 2 ∷ []))) ∷ Make (Array 36 (Word 1 ∷ Word 2 ∷ [])) ∷ Hold (Result (thing 5)) ∷ Jump 3 ∷ [])
    -- a native that throws is told too, before the throwable is made
    ∷ does (At (Lit 1) ∷ []) 3 (Invoke Virtual (method_ref object (no 51) [] object) (0 ∷ [])) (CallNative 0 ∷ Make (Instance 7 (Word 0 ∷ [])) ∷ Pend (Num 5) ∷ [])
    -- a print of the text null
    ∷ does (Word 0 ∷ []) 3 (Invoke Static (method_ref out (no 50) (string ∷ []) void) (0 ∷ [])) (CallNative 8 ∷ Make (Instance 9 (Word 0 ∷ [])) ∷ Pend (Num 5) ∷ [])
    -- a null receiver throws before a native is called
    ∷ does (Word 0 ∷ []) 3 (Invoke Virtual (method_ref object (no 51) [] object) (0 ∷ [])) (Make (Instance 9 (Word 0 ∷ [])) ∷ Pend (Num 5) ∷ [])
    -- a text of chars reads its array
    ∷ does (thing 4 ∷ Word 0 ∷ Word 1 ∷ []) 3 (Invoke Static (method_ref text_class (no 59) (chars ∷ int ∷ int ∷ []) string) (0 ∷ 1 ∷ 2 ∷ []))
    (CallNative 10 ∷ Reads 4 ∷ Saw (OfItem (Num 4) 0 (Word 97)) ∷ Make (Text (97 ∷ [])) ∷ Hold (Result (thing 5)) ∷ Jump 3 ∷ [])
    -- also a text of no char
    ∷ does (thing 4 ∷ Word 1 ∷ Word 0 ∷ []) 3 (Invoke Static (method_ref text_class (no 59) (chars ∷ int ∷ int ∷ []) string) (0 ∷ 1 ∷ 2 ∷ []))
    (CallNative 10 ∷ Reads 4 ∷ Make (Text []) ∷ Hold (Result (thing 5)) ∷ Jump 3 ∷ [])
    ∷ [])
unfolding does
calls_natives = refl

-- a copy reads all of its range before it writes
abbrev copy : Insn
copy = Invoke Static (method_ref system (no 57) (object ∷ int ∷ object ∷ int ∷ int ∷ []) void) (0 ∷ 2 ∷ 1 ∷ 2 ∷ 3 ∷ [])

-- copies between arrays
copies : Same (
    -- here within one array
    does (thing 1 ∷ thing 1 ∷ Word 0 ∷ Word 2 ∷ []) 3 copy
    (CallNative 11 ∷ Reads 1 ∷ Writes 1 ∷ Saw (OfItem (Num 1) 0 (Word 1)) ∷ Saw (OfItem (Num 1) 1 (Word 2)) ∷ SetItem 1 0 (Word 1) ∷ SetItem 1 1 (Word 2) ∷ Hold Nothing ∷ Jump 3 ∷ [])
    -- one that fails midway writes and throws in one step
    ∷ does (thing 2 ∷ thing 3 ∷ Word 0 ∷ Word 2 ∷ []) 3 copy
    (CallNative 11 ∷ Reads 2 ∷ Writes 3 ∷ Saw (OfItem (Num 2) 0 (At (Lit 1))) ∷ Saw (OfItem (Num 2) 1 (thing 0)) ∷ SetItem 3 0 (At (Lit 1)) ∷ Make (Instance 12 (Word 0 ∷ [])) ∷ Pend (Num 5) ∷ [])
    -- one that copies nothing counts as a write where its tests pass, and one whose tests fail does not
    ∷ does (thing 1 ∷ thing 1 ∷ Word 0 ∷ Word 0 ∷ []) 3 copy (CallNative 11 ∷ Reads 1 ∷ Writes 1 ∷ Hold Nothing ∷ Jump 3 ∷ [])
    -- one whose tests fail is no read and no write
    ∷ does (thing 1 ∷ thing 2 ∷ Word 0 ∷ Word 0 ∷ []) 3 copy (CallNative 11 ∷ Make (Instance 12 (Word 0 ∷ [])) ∷ Pend (Num 5) ∷ [])
    ∷ [])
unfolding does
copies = refl

-- the first file of the examples is a program: its names are distinct, and every number in it is one of its names
core_is_program : IsProgram core
unfolding descriptor_of
core_is_program = record {
  counted = record { names = search rules; types = search rules; classes = search rules; fields = search rules; methods = search rules; files = search rules };
  names_distinct = refl;
  types_distinct = refl;
  types_named = refl;
  classes_named = refl;
  classes_filed = refl;
  parts_named = refl;
}
