-- The operands of an instruction that names several registers, as they are held.
use Rattle.std.proofs.Common.{◌≡◌, ℕ, Bool, true, false, nat_lt, List, [], ◌∷◌, ◌++◌, length, get_or, map, slice_index, Option, None, refl, ap, sym, ◌∙◌}
use Rattle.std.specs.Prelude.{if◌then◌else◌}
use Rattle.std.specs.List.{All, AllByRecursion}
use Rattle.std.specs.Option.{option_to_list}
use Rattle.std.proofs.lemmas.List.{map-append}
use Rattle.std.proofs.lemmas.List.Elements.{All-append, All-map, All-from_recursion}
use Rattle.pi_insn.specs.declared.raw.RawBody.{RawBody}
use Rattle.pi_insn.specs.declared.raw.RawBody.TheVariants.{Filled, Invoke}
use Rattle.pi_insn.specs.declared.raw.RawRegs.{RawRegs}
use Rattle.pi_insn.specs.declared.raw.RawRegs.TheVariants.{Run}
use Rattle.pi_insn.specs.Writing.{AreFew, NamesFew, encoding}
use Rattle.pi_insn.specs.Table.{row_of}
use Rattle.pi_model.specs.declared.insn.How.{How}
use Rattle.pi_model.specs.declared.insn.How.TheVariants.{Virtual, Super, Direct, Static, Interface}
use Rattle.pi_model.specs.Registers.{registers_in_row}
use Rattle.pi_model.specs.Texts.{same_text}
use Rattle.pi_classtables.specs.Forms.{as_few, as_run, as_registers, first_form, opcodes_of, or_next}
use Rattle.pi_dexforms.specs.Held.{short_run, StandFor}
use Rattle.pi_dexforms.proofs.FormSteps.{form_of_both}

-- no form counts more registers in a row than a byte can
long_filled : (n : ℕ) (sparse : Bool) (index first size : ℕ) → nat_lt size 256 ≡ false
    → first_form n sparse (Filled index (Run first size) ∷ []) ≡ None
unfolding row_of opcodes_of encoding
long_filled n sparse index first size long = rw long refl

long_invoke : (n : ℕ) (sparse : Bool) (how : How) (index first size : ℕ) → nat_lt size 256 ≡ false
    → first_form n sparse (Invoke how index (Run first size) ∷ []) ≡ None
unfolding row_of opcodes_of encoding
long_invoke n sparse Virtual index first size long = rw long refl
long_invoke n sparse Super index first size long = rw long refl
long_invoke n sparse Direct index first size long = rw long refl
long_invoke n sparse Static index first size long = rw long refl
long_invoke n sparse Interface index first size long = rw long refl

-- of registers in a row nothing is asked
run_few : (first size : ℕ) (small row : Bool) → AllByRecursion AreFew (if small then (if row then Run first size ∷ [] else []) else [])
run_few first size false row = tt
run_few first size true false = tt
run_few first size true true = (tt, tt)

short_few : (regs : List ℕ) → All AreFew (short_run regs)
short_few regs =
    All-from_recursion AreFew (short_run regs)
    (run_few (slice_index regs 0) (length regs) (nat_lt (length regs) 256)
    (same_text (registers_in_row (slice_index regs 0) (length regs)) regs))

module _
    (f : RawRegs → RawBody)
    (named : (rs : RawRegs) → AreFew rs → NamesFew (f rs))
    (long : (n : ℕ) (sparse : Bool) (first size : ℕ) → nat_lt size 256 ≡ false → first_form n sparse (f (Run first size) ∷ []) ≡ None) where
  -- a row that no byte can count has no form, so it may be left out
  left_out : (n : ℕ) (sparse : Bool) (first size : ℕ) (small row : Bool) → nat_lt size 256 ≡ small
      → first_form n sparse (map f (if small then (if row then Run first size ∷ [] else []) else []))
      ≡ first_form n sparse (map f (if row then Run first size ∷ [] else []))
  left_out n sparse first size true row e = refl
  left_out n sparse first size false false e = refl
  left_out n sparse first size false true e = sym (long n sparse first size e)

  short_form : (n : ℕ) (sparse : Bool) (regs : List ℕ)
      → first_form n sparse (map f (short_run regs)) ≡ first_form n sparse (map f (as_run regs))
  short_form n sparse regs =
      left_out n sparse (slice_index regs 0) (length regs) (nat_lt (length regs) 256)
      (same_text (registers_in_row (slice_index regs 0) (length regs)) regs) refl

  same_forms : (regs : List ℕ) (n : ℕ) (sparse : Bool)
      → first_form n sparse (map f (as_few regs) ++ map f (short_run regs)) ≡ first_form n sparse (map f (as_registers regs))
  same_forms regs n sparse =
      let few = map f (as_few regs) in
      let run = map f (as_run regs) in
      form_of_both n sparse few (map f (short_run regs))
      ∙ ap (or_next (first_form n sparse few)) (short_form n sparse regs)
      ∙ sym (form_of_both n sparse few run)
      ∙ ap (first_form n sparse) (sym (map-append f (as_few regs) (as_run regs)))

  all_named : (rs : List RawRegs) → All AreFew rs → All NamesFew (map f rs)
  all_named rs few = All-map NamesFew f rs (λ k d lt. named (get_or rs k d) (few k d lt))

  stand : (regs : List ℕ) (few run : List RawRegs) (first second : Option RawBody)
      → few ≡ as_few regs → All AreFew few → run ≡ short_run regs
      → option_to_list first ≡ map f few → option_to_list second ≡ map f run
      → StandFor (record { first = first; second = second }) (map f (as_registers regs))
  stand regs few run first second few_is all_few run_is first_is second_is = record {
    forms = λ n sparse.
        let one : option_to_list first ≡ map f (as_few regs) = cc in
        let two : option_to_list second ≡ map f (short_run regs) = cc in
        rw (one, two) (same_forms regs n sparse);
    few =
        let all_run : All AreFew run = rw run_is (short_few regs) in
        let all_one : All NamesFew (option_to_list first) = rw first_is (all_named few all_few) in
        let all_two : All NamesFew (option_to_list second) = rw second_is (all_named run all_run) in
        All-append NamesFew (option_to_list first) (option_to_list second) all_one all_two;
  }

pub filled_stand : (index : ℕ) (regs : List ℕ) (few run : Option RawRegs) (first second : Option RawBody)
    → option_to_list few ≡ as_few regs → All AreFew (option_to_list few) → option_to_list run ≡ short_run regs
    → option_to_list first ≡ map (λ rs. Filled index rs) (option_to_list few)
    → option_to_list second ≡ map (λ rs. Filled index rs) (option_to_list run)
    → StandFor (record { first = first; second = second }) (map (λ rs. Filled index rs) (as_registers regs))
filled_stand index regs few run first second =
    stand (λ rs. Filled index rs) (λ rs few. few) (λ n sparse. long_filled n sparse index)
    regs (option_to_list few) (option_to_list run) first second

pub invoke_stand : (how : How) (index : ℕ) (regs : List ℕ) (few run : Option RawRegs) (first second : Option RawBody)
    → option_to_list few ≡ as_few regs → All AreFew (option_to_list few) → option_to_list run ≡ short_run regs
    → option_to_list first ≡ map (λ rs. Invoke how index rs) (option_to_list few)
    → option_to_list second ≡ map (λ rs. Invoke how index rs) (option_to_list run)
    → StandFor (record { first = first; second = second }) (map (λ rs. Invoke how index rs) (as_registers regs))
invoke_stand how index regs few run first second =
    stand (λ rs. Invoke how index rs) (λ rs few. few) (λ n sparse. long_invoke n sparse how index)
    regs (option_to_list few) (option_to_list run) first second
