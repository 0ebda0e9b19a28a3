-- Worked instances: sorted lists, a code with a switch and one with an array, ranges, values, and a class as tables.
use Rattle.std.proofs.Common.{◌≡◌, ℕ, List, [], ◌∷◌, Some, None, false, refl}
use Rattle.std.specs.Prelude.{codes, Option}
use Rattle.std.specs.Ordering.{nat_cmp}
use Rattle.pi_model.specs.declared.insn.Insn.{Insn}
use Rattle.pi_model.specs.declared.insn.Insn.TheVariants.{Const, ReturnVoid, Switch, FillArray, Goto, Binary, Invoke}
use Rattle.pi_model.specs.declared.insn.Arith.TheVariants.{Int}
use Rattle.pi_model.specs.declared.insn.BinOp.TheVariants.{Add}
use Rattle.pi_model.specs.declared.insn.How.TheVariants.{Static}
use Rattle.pi_insn.specs.Writing as writing
use Rattle.pi_insn.specs.Table as opcode_table
use Rattle.pi_dextables.specs.declared.tables.Catches.{Catches}
use Rattle.pi_contents.specs.Contents.{NoName, LineContent, CatchContent, FieldContent, NoInit, WordInit}
use Rattle.pi_contents.specs.Named.{no_method}
use Rattle.pi_classtables.specs.Sorted.{sorted, arranged, place_in, text_order}
use Rattle.pi_classtables.specs.Numbers.{no_pools}
use Rattle.pi_classtables.specs.Forms.{first_form, opcodes_of, raw_bodies}
use Rattle.pi_classtables.specs.Layout.{code_units, packed_units, sparse_units, array_units, payload_units}
use Rattle.pi_classtables.specs.Ranges.{groups_of, lists_of, ranges_of}
use Rattle.pi_classtables.specs.Values.{values_of, value, value_of}

each_once : sorted nat_cmp (3 ∷ 1 ∷ 3 ∷ 2 ∷ []) ≡ 1 ∷ 2 ∷ 3 ∷ []
each_once = refl

all_kept : arranged nat_cmp (3 ∷ 1 ∷ 3 ∷ 2 ∷ []) ≡ 1 ∷ 2 ∷ 3 ∷ 3 ∷ []
all_kept = refl

texts_rise : sorted text_order (codes "V" ∷ codes "LA;" ∷ codes "I" ∷ codes "LA;" ∷ []) ≡ codes "I" ∷ codes "LA;" ∷ codes "V" ∷ []
texts_rise = refl

second_place : place_in text_order (codes "LA;") (codes "I" ∷ codes "LA;" ∷ codes "V" ∷ []) ≡ 1
second_place = refl

line : ℕ → ℕ → Insn → LineContent
line at units insn = record { at = at; units = units; insn = insn; naming = NoName }

-- const/4 v0, 1; a switch on 7 to the return; the return; and behind them, since 5 is odd, a nop and the payload
switching : List ℕ → Option (List ℕ)
unfolding line
switching listed = code_units no_pools listed
    (line 0 1 (Const 0 1) ∷ line 1 3 (Switch 0 (record { key = 7; to = 4 } ∷ [])) ∷ line 4 1 ReturnVoid ∷ [])

packed_switch : switching [] ≡ Some (4114 ∷ 43 ∷ 5 ∷ 0 ∷ 14 ∷ 0 ∷ 256 ∷ 1 ∷ 7 ∷ 0 ∷ 3 ∷ 0 ∷ [])
unfolding switching line code_units opcodes_of raw_bodies packed_units payload_units writing.encoding opcode_table.row_of
packed_switch = refl

sparse_switch : switching (1 ∷ []) ≡ Some (4114 ∷ 44 ∷ 5 ∷ 0 ∷ 14 ∷ 0 ∷ 512 ∷ 1 ∷ 7 ∷ 0 ∷ 3 ∷ 0 ∷ [])
unfolding switching line code_units opcodes_of raw_bodies sparse_units payload_units writing.encoding opcode_table.row_of
sparse_switch = refl

-- fill-array-data v1 with three bytes, which take two units; and goto -3 from address 3
filling : Option (List ℕ)
unfolding line
filling = code_units no_pools [] (line 0 3 (FillArray 1 1 (1 ∷ 2 ∷ 3 ∷ [])) ∷ line 3 1 (Goto 0) ∷ [])

array_behind : filling ≡ Some (294 ∷ 4 ∷ 0 ∷ 64808 ∷ 768 ∷ 1 ∷ 3 ∷ 0 ∷ 513 ∷ 3 ∷ [])
unfolding filling line code_units opcodes_of raw_bodies array_units payload_units writing.encoding opcode_table.row_of
array_behind = refl

-- an addition in one unit, where its first register is an operand, and in two; a call of two registers that follow each other
short_addition : first_form 1 false (raw_bodies 0 0 0 (Binary (Int Add) 1 1 2)) ≡ Some (0x21b0 ∷ [])
unfolding opcodes_of raw_bodies writing.encoding opcode_table.row_of
short_addition = refl

long_addition : first_form 2 false (raw_bodies 0 0 0 (Binary (Int Add) 1 1 2)) ≡ Some (0x0190 ∷ 0x0201 ∷ [])
unfolding opcodes_of raw_bodies writing.encoding opcode_table.row_of
long_addition = refl

call_of_two : first_form 3 false (raw_bodies 9 0 0 (Invoke Static no_method (2 ∷ 3 ∷ []))) ≡ Some (0x2071 ∷ 9 ∷ 0x32 ∷ [])
unfolding opcodes_of raw_bodies writing.encoding opcode_table.row_of
call_of_two = refl

call_of_high_registers : first_form 3 false (raw_bodies 9 0 0 (Invoke Static no_method (20 ∷ 21 ∷ []))) ≡ Some (0x0277 ∷ 9 ∷ 20 ∷ [])
unfolding opcodes_of raw_bodies writing.encoding opcode_table.row_of
call_of_high_registers = refl

no_form : first_form 3 false (raw_bodies 9 0 0 (Invoke Static no_method (20 ∷ 30 ∷ []))) ≡ None
unfolding opcodes_of raw_bodies writing.encoding opcode_table.row_of
no_form = refl

-- two entries of a range that share a list with a later range
entry : ℕ → ℕ → Option (List ℕ) → CatchContent
entry from to ty = record { from = from; to = to; ty = ty; at = 9 }

entries : List CatchContent
unfolding entry
entries = entry 0 2 (Some (codes "LA;")) ∷ entry 0 2 None ∷ entry 3 5 (Some (codes "LA;")) ∷ entry 3 5 None ∷ []

shared_list : Catches
shared_list = record { typed = record { ty = 0; to = 9 } ∷ []; last = Some 9 }

lists_once : lists_of (groups_of no_pools entries) ≡ shared_list ∷ []
unfolding entries entry shared_list
lists_once = refl

two_ranges : ranges_of (groups_of no_pools entries)
    ≡ record { from = 0; size = 2; list = 0 } ∷ record { from = 3; size = 2; list = 0 } ∷ []
unfolding entries entry
two_ranges = refl

-- a byte that is set to -1, behind one that is not set; nothing is written behind the last that is
byte_field : (init : ℕ) → FieldContent
byte_field init = record { name = codes "b"; ty = codes "B"; flags = 8; init = WordInit init }

unset_field : FieldContent
unset_field = record { name = codes "a"; ty = codes "J"; flags = 8; init = NoInit }

written_values : values_of no_pools (unset_field ∷ byte_field 0xffffffff ∷ unset_field ∷ []) ≡ value 6 7 0 ∷ value 0 0 255 ∷ []
unfolding unset_field byte_field value_of
written_values = refl
