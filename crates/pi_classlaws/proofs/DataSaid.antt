-- The payload of an instruction: the data that it says, from which the cases and the items come again.
use Rattle.std.proofs.Common.{◌≡◌, ℕ, ◌^◌, ◌<◌, ◌&&◌, nat_lt, List, [], ◌++◌, length, Some, Bool, true, false, refl, arith}
use Rattle.std.specs.Prelude.{if◌then◌else◌}
use Rattle.std.specs.List.{All, list_all}
use Rattle.std.proofs.lemmas.Bool.{and_parts, ltb-true}
use Rattle.std.proofs.lemmas.List.{length-append}
use Rattle.std.proofs.lemmas.List.Sums.{AllPass-from_list_all}
use Rattle.pi_model.specs.declared.insn.Case.{Case}
use Rattle.pi_model.specs.declared.insn.Insn.{Insn}
use Rattle.pi_model.specs.declared.insn.Insn.TheVariants.{FillArray, Switch}
use Rattle.pi_insn.specs.Numbers.{signed_number}
use Rattle.pi_insn.specs.Payloads.{Data, PackedData, SparseData, ArrayData, is_width, payload}
use Rattle.pi_format.specs.Rules.Pieces.{payload_fits}
use Rattle.pi_format.specs.Rules.Pieces.{payload_units as units_taken}
use Rattle.pi_format.specs.Says.Insns.{cases_of}
use Rattle.pi_contents.specs.Asked.{follow_on, keys_rise}
use Rattle.pi_classtables.specs.Layout.{key_units, target_units, first_key, item_units, packed_units, sparse_units, array_units, payload_units, data_fits}
use Rattle.pi_classtables.specs.Sized.{CaseSized}
use Rattle.pi_classlaws.proofs.CasesRead.{packed_again, sparse_again, keys_rise_again}
use Rattle.pi_classlaws.proofs.PayloadsRead.{packed_read, sparse_read, array_read}
use Rattle.pi_classlaws.proofs.PayloadHalves.{IsHalf, packed_halves, sparse_halves, array_halves}

-- whether an instruction has a payload, and what it says; data with no item stand for none
abbrev pub has_data : Insn → Bool
has_data (Switch a cases) = true
has_data (FillArray a width items) = true
has_data _ = false

abbrev pub switch_said : Bool → ℕ → List Case → Data
switch_said sparse at cases =
    if sparse then SparseData (key_units cases) (target_units at cases)
    else PackedData (signed_number 2147483648 (first_key cases)) (target_units at cases)

abbrev pub data_said : Bool → ℕ → Insn → Data
data_said sparse at (Switch a cases) = switch_said sparse at cases
data_said sparse at (FillArray a width items) = ArrayData width (length items) (item_units width items)
data_said sparse at _ = ArrayData 1 0 []

-- the payload of a switch is read, takes its units, says the cases, and is of the kind that the opcode asks for
pub switch_read : (sparse : Bool) (at a : ℕ) (cases : List Case) (rest : List ℕ)
    → payload (payload_units sparse at (Switch a cases) ++ rest) ≡ Some (switch_said sparse at cases)
unfolding payload_units
switch_read true at a cases rest = sparse_read at cases rest
switch_read false at a cases rest = packed_read at cases rest

pub switch_taken : (sparse : Bool) (at a : ℕ) (cases : List Case)
    → units_taken (switch_said sparse at cases) ≡ length (payload_units sparse at (Switch a cases))
unfolding payload_units sparse_units packed_units
switch_taken true at a cases = omega (arith, length-append (key_units cases) (target_units at cases))
switch_taken false at a cases = omega arith

pub switch_stands : (sparse : Bool) (at a : ℕ) (cases : List Case) → 0 < length (payload_units sparse at (Switch a cases))
unfolding payload_units sparse_units packed_units
switch_stands true at a cases = omega arith
switch_stands false at a cases = omega arith

pub switch_cases : (sparse : Bool) (at : ℕ) (cases : List Case) → All CaseSized cases → at < 2 ^ 32 → (sparse ≡ false → follow_on cases ≡ true)
    → cases_of at (Some (switch_said sparse at cases)) ≡ cases
switch_cases true at cases sized place follows = sparse_again at cases sized place
switch_cases false at cases sized place follows = packed_again at cases (follows refl) sized place

pub switch_fits : (sparse : Bool) (at : ℕ) (cases : List Case) → (sparse ≡ true → keys_rise cases ≡ true)
    → payload_fits (if sparse then 0x2c else 0x2b) (Some (switch_said sparse at cases)) ≡ true
switch_fits true at cases rise = keys_rise_again cases (rise refl)
switch_fits false at cases rise = refl

pub switch_halves : (sparse : Bool) (at a : ℕ) (cases : List Case) → All CaseSized cases → length cases < 65536
    → All IsHalf (payload_units sparse at (Switch a cases))
unfolding payload_units
switch_halves true at a cases sized few = sparse_halves at cases sized few
switch_halves false at a cases sized few = packed_halves at cases sized few

-- and so is that of an array
pub fill_read : (sparse : Bool) (at a width : ℕ) (items rest : List ℕ) → is_width width ≡ true
    → payload (payload_units sparse at (FillArray a width items) ++ rest) ≡ Some (ArrayData width (length items) (item_units width items))
unfolding payload_units
fill_read sparse at a width items rest e = array_read width items rest e

pub fill_taken : (sparse : Bool) (at a width : ℕ) (items : List ℕ)
    → units_taken (ArrayData width (length items) (item_units width items)) ≡ length (payload_units sparse at (FillArray a width items))
unfolding payload_units array_units
fill_taken sparse at a width items = omega arith

pub fill_stands : (sparse : Bool) (at a width : ℕ) (items : List ℕ) → 0 < length (payload_units sparse at (FillArray a width items))
unfolding payload_units array_units
fill_stands sparse at a width items = omega arith

pub fill_halves : (sparse : Bool) (at a width : ℕ) (items : List ℕ) → is_width width ≡ true → length items < 2 ^ 32
    → All (λ x. x < 256 ^ width) items → All IsHalf (payload_units sparse at (FillArray a width items))
unfolding payload_units
fill_halves sparse at a width items e few fit = array_halves width items e few fit

-- what is known of an array whose data can be laid
pub record ArrayFits (width : ℕ) (items : List ℕ) : Type 0 where
  pub known : is_width width ≡ true
  pub few : length items < 2 ^ 32
  pub fit : All (λ x. x < 256 ^ width) items

pub array_fits : (a width : ℕ) (items : List ℕ) → data_fits (FillArray a width items) ≡ true → ArrayFits width items
array_fits a width items e =
    let f = and_parts (is_width width) (nat_lt (length items) (2 ^ 32) && list_all (λ x. nat_lt x (256 ^ width)) items) e in
    let g = and_parts (nat_lt (length items) (2 ^ 32)) (list_all (λ x. nat_lt x (256 ^ width)) items) f.1 in
    record {
      known = f.0;
      few = ltb-true (length items) (2 ^ 32) g.0;
      fit = λ k d lt. ltb-true _ _ (AllPass-from_list_all (λ x. nat_lt x (256 ^ width)) items g.1 k d lt);
    }

-- no other instruction has a payload
pub no_data : (sparse : Bool) (at : ℕ) (i : Insn) → has_data i ≡ false → payload_units sparse at i ≡ []
unfolding payload_units
no_data sparse at (Switch a cases) e = cc
no_data sparse at (FillArray a width items) e = cc
no_data sparse at _ e = refl
